-- `message::write_packed` meets its contract.
-- Assumes nothing.
use mathlib.Core.Path.{◌≡◌, ap, sym, ◌∙◌}
use native.Mathlib.Omega.{arith}
use Rattle.kinds.specs.Kinds.{kind_of}
use Rattle.records.specs.Fits.{RecordFits}
use Rattle.records.specs.Packed.{record_of}
use Rattle.records.proofs.Again.{packed_long}
use Rattle.message.proofs.Written.{written_done, written_short, written_broken}
use Rattle.message.proofs.write_packed.Goals as goal

pub returns-then-length_of-out : goal.returns-then-length_of-out
returns-then-length_of-out c =
    let typed : c.from-kind.result ≡ kind_of (record_of c.args.b.now).letter = c.from-kind.ensures ∙ ap kind_of c.letter.ensures.letter in
    let fits : RecordFits (record_of c.args.b.now) = c.letter.ensures.fits in
    let a = c.args in
    let r = record_of a.b.now in
    let held = sym c.lawful.ensures ∙ c.if-lawful.true in
    let long = c.length_of.ensures in
    let k = c.from-kind.result in
    let w = written_done a.edition k r a.out.now typed (packed_long a.b.now) held (rw (← long) c.if-length_of-out.true) in record { answer = w.0; left = c.store.ensures ∙ w.1; fits = fits }

pub returns-then-lawful : goal.returns-then-lawful
returns-then-lawful c =
    let typed : c.from-kind.result ≡ kind_of (record_of c.args.b.now).letter = c.from-kind.ensures ∙ ap kind_of c.letter.ensures.letter in
    let fits : RecordFits (record_of c.args.b.now) = c.letter.ensures.fits in
    let a = c.args in
    let r = record_of a.b.now in
    let held = sym c.lawful.ensures ∙ c.if-lawful.true in
    let long = c.length_of.ensures in
    let k = c.from-kind.result in
    let w = written_short a.edition k r a.out.now typed held (rw (← long) (omega (arith, c.if-length_of-out.false))) in record { answer = w.0; left = w.1; fits = fits }

pub returns : goal.returns
returns c =
    let typed : c.from-kind.result ≡ kind_of (record_of c.args.b.now).letter = c.from-kind.ensures ∙ ap kind_of c.letter.ensures.letter in
    let fits : RecordFits (record_of c.args.b.now) = c.letter.ensures.fits in
    let a = c.args in
    let r = record_of a.b.now in
    let k = c.from-kind.result in
    let w = written_broken a.edition k r a.out.now typed (sym c.lawful.ensures ∙ c.if-lawful.false) in record { answer = w.0; left = w.1; fits = fits }
