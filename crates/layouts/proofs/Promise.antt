-- What the theorems about reading and writing say of calls. `Learnt` is a function's contract as the compiler hands it to a
-- caller: of the arguments, of the result, and of the arguments again as the call returns.
-- Assumes nothing.
use mathlib.Core.Path.{◌≡◌, ap, ap₂, sym, subst, ◌∙◌}
use mathlib.Core.List.{List, ◌++◌}
use Prim.Native.Nat.{ℕ, ◌≤◌}
use lib.ListN.{length, take, drop}
use contract.Lifetimes.{Lfts}
use borrow.Fn.World.{ArgsD}
use borrow.Fn.Kinds.{ended_of}
use denote.Triple.Clauses.{AtExit}
use Rattle.octets.specs.Run.{Bytes}
use Rattle.editions.specs.declared.Edition.{Edition}
use Rattle.editions.specs.declared.Edition.TheVariants.{NlsPlus}
use Rattle.records.specs.declared.Record.{Record}
use Rattle.std.specs.Prelude.{Result}
use Rattle.answers.specs.declared.Refusal.{Refusal}
use Rattle.answers.specs.Answers.{Answer, number_of}
use Rattle.records.specs.Fits.{RecordFits}
use Rattle.message.specs.Obeying.{Lawful}
use Rattle.message.specs.Reader.{Reading, reading_of, accepted_of, read_of}
use Rattle.message.specs.Writer.{write_answer, write_out}
use Rattle.message.specs.contracts.read as read
use Rattle.message.proofs.read.Reads as read-reads
use Rattle.message.proofs.read.Kinds as read-kinds
use Rattle.message.specs.contracts.write as write
use Rattle.message.proofs.write.Reads as write-reads
use Rattle.message.proofs.write.Kinds as write-kinds
use Rattle.layouts.proofs.Demand2.{ReadsExactly, read_exactly, WritesExactly, write_exactly, write_again}
use Rattle.layouts.proofs.Trips.{ComesBack, BytesBack, read_then_written, read_again_exactly, read_again}

module _ (κs : Lfts 1) (a : ArgsD read.signature κs) where
  -- `read_exactly` of a call
  pub read_called : (r : Result Record Refusal) (s : AtExit (ended_of 1 read-kinds.ps read-kinds.r) κs) → read-reads.Learnt κs a r s
      → ReadsExactly a.0 a.1.0.now (reading_of r)
  read_called r s h = subst (ReadsExactly a.0 a.1.0.now) (sym h) (read_exactly a.0 a.1.0.now)

module _ (κs : Lfts 1) (a : ArgsD write.signature κs) where
  -- `write_exactly` of a call
  pub write_called : (r : Answer) (s : AtExit (ended_of 1 write-kinds.ps write-kinds.r) κs)
      → write-reads.Learnt κs a r s → WritesExactly a.0 a.1.0 a.1.1.0.now r s.1.1.0.now
  write_called r s h = rw (h.0, h.1) (write_exactly a.0 a.1.0 a.1.1.0.now)

-- ---- the round trips, of calls by one edition

module _ (κs κs' : Lfts 1) (a : ArgsD read.signature κs) (b : ArgsD write.signature κs') (same : b.0 ≡ a.0) where
  abbrev e : Edition
  e = a.0

  abbrev m : List ℕ
  m = a.1.0.now

  abbrev out : List ℕ
  out = b.1.1.0.now

  -- a call of `read` that answers 0, and then one of `write` on the record that it found, with room for the message
  module _ (r : Result Record Refusal) (s : AtExit (ended_of 1 read-kinds.ps read-kinds.r) κs)
      (w : Answer) (x : AtExit (ended_of 1 write-kinds.ps write-kinds.r) κs')
      (h : read-reads.Learnt κs a r s) (k : write-reads.Learnt κs' b w x) (f : b.1.0 ≡ (reading_of r).found)
      (g : Bytes m) (z : number_of (reading_of r).answer ≡ 0) (l : length m ≤ length out) where
    -- what it leaves
    abbrev left : List ℕ
    left = x.1.1.0.now

    found : b.1.0 ≡ (read_of e m).found
    found = f ∙ ap (λ (o : Reading). o.found) h

    done : number_of (read_of e m).answer ≡ 0
    done = sym (ap (λ (o : Reading). number_of o.answer) h) ∙ z

    answer_is : w ≡ write_answer e (read_of e m).found out
    answer_is = k.0 ∙ ap₂ {C = Answer} (λ d q. write_answer d q out) same found

    left_is : left ≡ write_out e (read_of e m).found out
    left_is = k.1 ∙ ap₂ {C = List ℕ} (λ d q. write_out d q out) same found

    -- `read_then_written`
    pub then_called : ComesBack e m out w left
    then_called = rw (answer_is, left_is) (read_then_written e m out g done l)

    -- `read_again_exactly`
    pub exactly_called : BytesBack e m out left
    exactly_called = rw left_is (read_again_exactly e m out g done l)

    -- `read_again`
    pub again_called : e ≡ NlsPlus → (number_of w ≡ 0) × (left ≡ m ++ drop (length m) out)
    again_called p =
        let q = subst (λ (d : Edition). number_of (read_of d m).answer ≡ 0) p done in
        let t = read_again m out g q l in (
          ap number_of (answer_is ∙ ap (λ (d : Edition). write_answer d (read_of d m).found out) p) ∙ t.0,
          left_is ∙ ap (λ (d : Edition). write_out d (read_of d m).found out) p ∙ t.1,
        )

  -- `write_again` of a call of `write` and then one of `read`, on the message that it left
  pub back_called : (r : Result Record Refusal) (s : AtExit (ended_of 1 read-kinds.ps read-kinds.r) κs)
      (w : Answer) (x : AtExit (ended_of 1 write-kinds.ps write-kinds.r) κs')
      → read-reads.Learnt κs a r s → write-reads.Learnt κs' b w x
      → RecordFits b.1.0 → (l : Lawful e b.1.0) → l.type.size ≤ length out
      → m ≡ take l.type.size x.1.1.0.now → reading_of r ≡ accepted_of b.1.0
  back_called r s w x h k f l n q =
      h
      ∙ ap (read_of e) (q ∙ ap (take l.type.size) (k.1 ∙ ap (λ (d : Edition). write_out d b.1.0 out) same))
      ∙ write_again e b.1.0 out f l n
