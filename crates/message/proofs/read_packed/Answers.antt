-- `message::read_packed` meets its contract.
-- Assumes nothing.
use mathlib.Core.Path.{◌≡◌, ap, ap₂, sym, ◌∙◌}
use mathlib.Core.Bool.{Bool, true, false, ◌&&◌}
use mathlib.Core.List.{List}
use Prim.Native.Nat.{ℕ}
use lib.ListN.{get_or}
use Rattle.octets.specs.Run.{Bytes}
use Rattle.editions.specs.declared.Edition.{Edition}
use Rattle.kinds.specs.declared.Kind.{Kind}
use Rattle.kinds.specs.Kinds.{kind_of}
use Rattle.formats.specs.Formats.{letter_in}
use Rattle.message.proofs.Said.{told_unshaped, told_obeyed, told_unkept}
use Rattle.message.proofs.read_packed.Goals as goal

record Found : Type 0 where
  pub edition : Edition
  pub message : List ℕ
  pub kind : Kind
  pub typed : kind ≡ kind_of (letter_in edition message)
  pub bytes : Bytes message

-- the two tests as the code makes them
tested : {a a' b b' : Bool} → a' ≡ a → b' ≡ b → a && b ≡ a' && b'
tested p q = ap₂ {C = Bool} (λ x y. x && y) (sym p) (sym q)

pub returns-then-need-message : goal.returns-then-need-message
returns-then-need-message c =
    let found : Found = let a = c.args in
    record {
      edition = a.edition;
      message = a.message.now;
      kind = c.from-kind.result;
      typed =
          c.from-kind.ensures
          ∙ ap kind_of (c.byte.ensures ∙ ap (λ (n : ℕ). get_or a.message.now n 0) c.letter_place.ensures);
      bytes = λ i. (c.type_inv.message i).fits;
    } in
    let f = found in
    let long = c.length_of-need.ensures in let told = (told_unshaped f.edition f.kind f.message f.typed (rw (← long) c.if-need-message.true)) in record { answer = told.0; bytes = told.1 }

pub returns-then-ready-kept : goal.returns-then-ready-kept
returns-then-ready-kept c =
    let found : Found = let a = c.args in
    record {
      edition = a.edition;
      message = a.message.now;
      kind = c.from-kind.result;
      typed =
          c.from-kind.ensures
          ∙ ap kind_of (c.byte.ensures ∙ ap (λ (n : ℕ). get_or a.message.now n 0) c.letter_place.ensures);
      bytes = λ i. (c.type_inv.message i).fits;
    } in
    let f = found in
    let long = c.length_of-need.ensures in
    let b = c.unpack-ready.new.b in
    let both : c.unpack-ready.result && c.kept.result ≡ true = c.if-ready-kept.true in let told = (told_obeyed f.edition f.kind f.message f.typed f.bytes (rw (← long) c.if-need-message.false) b c.unpack-ready.ensures.bytes
    (tested c.unpack-ready.ensures.ready c.kept.ensures ∙ both)) in record { answer = told.0; bytes = told.1 }

pub returns : goal.returns
returns c =
    let found : Found = let a = c.args in
    record {
      edition = a.edition;
      message = a.message.now;
      kind = c.from-kind.result;
      typed =
          c.from-kind.ensures
          ∙ ap kind_of (c.byte.ensures ∙ ap (λ (n : ℕ). get_or a.message.now n 0) c.letter_place.ensures);
      bytes = λ i. (c.type_inv.message i).fits;
    } in
    let f = found in
    let long = c.length_of-need.ensures in
    let b = c.unpack-ready.new.b in
    let both : c.unpack-ready.result && c.kept.result ≡ false = c.if-ready-kept.false in let told = (told_unkept f.edition f.kind f.message f.typed f.bytes (rw (← long) c.if-need-message.false) b c.unpack-ready.ensures.bytes
    (tested c.unpack-ready.ensures.ready c.kept.ensures ∙ both)) in record { answer = told.0; bytes = told.1 }
