-- Each public function's contract leaves one possible answer and one possible content for each lent byte. `Learnt` is
-- that contract as the compiler hands it to a caller: of the arguments, of the result, and of the arguments again as
-- the call returns.
-- Assumes nothing.
use mathlib.Core.Path.{◌≡◌, refl, ap, sym, ◌∙◌}
use contract.Lifetimes.{Lfts}
use borrow.Fn.World.{ArgsD}
use borrow.Fn.Kinds.{ended_of}
use denote.Triple.Clauses.{AtExit}
use Rattle.answers.specs.Answers.{Answer}
use Rattle.records.specs.Fits.{RecordFits}
use Rattle.records.specs.Packed.{record_bytes, record_of}
use Rattle.std.specs.Prelude.{Result, Ok, Err}
use Rattle.answers.specs.declared.Refusal.{Refusal}
use Rattle.records.specs.declared.Record.{Record}
use Rattle.message.specs.Reader.{Reading, reading_of, read_of}
use Rattle.message.specs.Writer.{write_answer, write_out}
use Rattle.message.specs.contracts.read as read
use Rattle.message.proofs.read.Reads as read-reads
use Rattle.message.proofs.read.Kinds as read-kinds
use Rattle.message.proofs.found.Reads as found-reads
use Rattle.message.specs.contracts.write as write
use Rattle.message.proofs.write.Reads as write-reads
use Rattle.message.proofs.write.Kinds as write-kinds
use Rattle.message.specs.contracts.read_packed as read-packed
use Rattle.message.proofs.read_packed.Reads as read-packed-reads
use Rattle.message.proofs.read_packed.Kinds as read-packed-kinds
use Rattle.message.specs.contracts.write_packed as write-packed
use Rattle.message.proofs.write_packed.Reads as write-packed-reads
use Rattle.message.proofs.write_packed.Kinds as write-packed-kinds

-- a reading says one thing of a message
one_reading : (r r' : Result Record Refusal) → reading_of r ≡ reading_of r' → r ≡ r'
one_reading (Ok r) (Ok r') e = ap (λ (q : Reading). Ok q.found) e
one_reading (Ok r) (Err f') e = let a : ◌≡◌ {A = Answer} (Ok tt) (Err f') = ap (λ (q : Reading). q.answer) e in cc
one_reading (Err f) (Ok r') e = let a : ◌≡◌ {A = Answer} (Err f) (Ok tt) = ap (λ (q : Reading). q.answer) e in cc
one_reading (Err f) (Err f') e = let a : ◌≡◌ {A = Answer} (Err f) (Err f') = ap (λ (q : Reading). q.answer) e in cc

module _ (κs : Lfts 1) (a : ArgsD read.signature κs) where
  -- what `read` tells of a message is what `read_of` says of its bytes, and nothing else
  pub read_says : (r : Result Record Refusal) (s : AtExit (ended_of 1 read-kinds.ps read-kinds.r) κs)
      → read-reads.Learnt κs a r s ≡ (reading_of r ≡ read_of a.0 a.1.0.now)
  read_says r s = refl

  pub read_one : (r r' : Result Record Refusal) (s s' : AtExit (ended_of 1 read-kinds.ps read-kinds.r) κs) → read-reads.Learnt κs a r s
      → read-reads.Learnt κs a r' s' → r ≡ r'
  read_one r r' s s' h h' = one_reading r r' (h ∙ sym h')

pub found_one : (q e e' : Result Record Refusal) (r r' : Record) → found-reads.Learnt tt (q, tt) r (e, tt)
    → found-reads.Learnt tt (q, tt) r' (e', tt) → r ≡ r'
found_one q e e' r r' h h' = h ∙ sym h'

module _ (κs : Lfts 1) (a : ArgsD write.signature κs) where
  pub write_says : (r : Answer) (s : AtExit (ended_of 1 write-kinds.ps write-kinds.r) κs)
      → write-reads.Learnt κs a r s
      ≡ ((r ≡ write_answer a.0 a.1.0 a.1.1.0.now) × (s.1.1.0.now ≡ write_out a.0 a.1.0 a.1.1.0.now))
  write_says r s = refl

  pub write_one : (r r' : Answer) (s s' : AtExit (ended_of 1 write-kinds.ps write-kinds.r) κs)
      → write-reads.Learnt κs a r s → write-reads.Learnt κs a r' s' → (r ≡ r') × (s.1.1.0.now ≡ s'.1.1.0.now)
  write_one r r' s s' h h' = (h.0 ∙ sym h'.0, h.1 ∙ sym h'.1)

module _ (κs : Lfts 2) (a : ArgsD read-packed.signature κs) where
  pub read_packed_one : (r r' : Answer) (s s' : AtExit (ended_of 2 read-packed-kinds.ps read-packed-kinds.r) κs)
      → read-packed-reads.Learnt κs a r s → read-packed-reads.Learnt κs a r' s' → (r ≡ r') × (s.1.1.0.now ≡ s'.1.1.0.now)
  read_packed_one r r' s s' h h' = (h.0 ∙ sym h'.0, h.1 ∙ sym h'.1)

  pub read_packed_says : (r : Answer) (s : AtExit (ended_of 2 read-packed-kinds.ps read-packed-kinds.r) κs)
      → read-packed-reads.Learnt κs a r s
      ≡ ((r ≡ (read_of a.0 a.1.0.now).answer) × (s.1.1.0.now ≡ record_bytes (read_of a.0 a.1.0.now).found))
  read_packed_says r s = refl

module _ (κs : Lfts 2) (a : ArgsD write-packed.signature κs) where
  pub write_packed_one : (r r' : Answer) (s s' : AtExit (ended_of 2 write-packed-kinds.ps write-packed-kinds.r) κs)
      → write-packed-reads.Learnt κs a r s → write-packed-reads.Learnt κs a r' s' → (r ≡ r') × (s.1.1.0.now ≡ s'.1.1.0.now)
  write_packed_one r r' s s' h h' = (h.0 ∙ sym h'.0, h.1.0 ∙ sym h'.1.0)

  pub write_packed_says : (r : Answer) (s : AtExit (ended_of 2 write-packed-kinds.ps write-packed-kinds.r) κs)
      → write-packed-reads.Learnt κs a r s
      ≡ ((r ≡ write_answer a.0 (record_of a.1.0.now) a.1.1.0.now) ×
      ((s.1.1.0.now ≡ write_out a.0 (record_of a.1.0.now) a.1.1.0.now) × RecordFits (record_of a.1.0.now)))
  write_packed_says r s = refl
