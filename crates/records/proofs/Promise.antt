-- Each public function's contract leaves one possible answer, or one possible content for each lent byte. `Learnt` is
-- that contract as the compiler hands it to a caller: of the arguments, of the result, and of the arguments again as the
-- call returns.
-- Assumes nothing.
use mathlib.Core.Path.{◌≡◌, refl, sym, ◌∙◌}
use Prim.Native.Nat.{ℕ}
use contract.Lifetimes.{Lfts}
use borrow.Fn.World.{ArgsD}
use borrow.Fn.Kinds.{ended_of}
use denote.Triple.Clauses.{AtExit}
use Rattle.records.specs.declared.Record.{Record}
use Rattle.records.specs.Fits.{RecordFits}
use Rattle.records.specs.Packed.{record_bytes, record_of}
use Rattle.records.specs.contracts.packed.record as taken
use Rattle.records.proofs.packed.record.Reads as taken-reads
use Rattle.records.proofs.packed.record.Kinds as taken-kinds
use Rattle.records.specs.contracts.packed.letter as letter
use Rattle.records.proofs.packed.letter.Reads as letter-reads
use Rattle.records.proofs.packed.letter.Kinds as letter-kinds
use Rattle.records.specs.contracts.packed.put_record as put_record
use Rattle.records.proofs.packed.put_record.Reads as put-record-reads
use Rattle.records.proofs.packed.put_record.Kinds as put-record-kinds

module _ (κs : Lfts 1) (a : ArgsD taken.signature κs) where
  pub record_one : (r r' : Record) (s s' : AtExit (ended_of 1 taken-kinds.ps taken-kinds.r) κs) → taken-reads.Learnt κs a r s
      → taken-reads.Learnt κs a r' s' → r ≡ r'
  record_one r r' s s' h h' = h ∙ sym h'

  pub record_says : (r : Record) (s : AtExit (ended_of 1 taken-kinds.ps taken-kinds.r) κs)
      → taken-reads.Learnt κs a r s ≡ (r ≡ record_of a.0.now)
  record_says r s = refl

module _ (κs : Lfts 1) (a : ArgsD letter.signature κs) where
  pub letter_one : (r r' : ℕ) (s s' : AtExit (ended_of 1 letter-kinds.ps letter-kinds.r) κs) → letter-reads.Learnt κs a r s
      → letter-reads.Learnt κs a r' s' → r ≡ r'
  letter_one r r' s s' h h' = h.0 ∙ sym h'.0

  pub letter_says : (r : ℕ) (s : AtExit (ended_of 1 letter-kinds.ps letter-kinds.r) κs)
      → letter-reads.Learnt κs a r s ≡ ((r ≡ (record_of a.0.now).letter) × RecordFits (record_of a.0.now))
  letter_says r s = refl

module _ (κs : Lfts 1) (a : ArgsD put_record.signature κs) where
  pub put_record_one : (r r' : Unit) (s s' : AtExit (ended_of 1 put-record-kinds.ps put-record-kinds.r) κs)
      → put-record-reads.Learnt κs a r s → put-record-reads.Learnt κs a r' s' → s.0.now ≡ s'.0.now
  put_record_one r r' s s' h h' = h ∙ sym h'

  pub put_record_says : (r : Unit) (s : AtExit (ended_of 1 put-record-kinds.ps put-record-kinds.r) κs)
      → put-record-reads.Learnt κs a r s ≡ (s.0.now ≡ record_bytes a.1.0)
  put_record_says r s = refl
