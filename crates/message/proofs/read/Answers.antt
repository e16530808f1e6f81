-- `message::read` meets its contract.
-- Assumes nothing.
use Rattle.std.specs.Prelude.{Err}
use mathlib.Core.Path.{◌≡◌, ap, sym, ◌∙◌}
use borrow.Author.Rules.{rules}
use Rattle.octets.specs.Run.{Bytes}
use Rattle.records.specs.Packed.{record_of}
use Rattle.records.proofs.Again.{record_again}
use Rattle.message.specs.Reader.{reading_of, read_of}
use Rattle.message.proofs.Fitting.{read_fits}
use Rattle.message.proofs.Said.{read_refused, read_done}
use Rattle.message.proofs.read.Goals as goal
use Rattle.message.proofs.read.Goals.{After-read_packed}

-- what a call lends are bytes
pub entered : (c : After-read_packed) → Bytes c.args.message.now
entered c = λ i. (c.type_inv.message i).fits

pub returns-in_err-read_packed : goal.returns-in_err-read_packed
returns-in_err-read_packed c =
    let given : c.from_residual.result ≡ Err c.in_err-read_packed.field-0.0 = search rules in
    let a = c.args in
    ap reading_of given ∙ read_refused a.edition a.message.now _ (sym (c.in_err-read_packed.was) ∙ c.read_packed.ensures.answer)

pub returns : goal.returns
returns c =
    let entered : Bytes c.args.message.now = λ i. (c.type_inv.message i).fits in
    let a = c.args in
    let m = a.message.now in
    let q = c.read_packed.ensures in
    let g = read_fits a.edition m entered in
    let f = c.«record».ensures ∙ ap record_of q.bytes ∙ record_again (read_of a.edition m).found g in
    read_done a.edition m _ (sym (c.in_ok-read_packed.was) ∙ q.answer) f
