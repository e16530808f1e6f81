-- Each exported function's contract leaves one possible answer and one possible content for each lent word or byte. `Learnt` is
-- that contract as the compiler hands it to a caller: of the arguments, of the result, and of the arguments again as the
-- call returns.
-- Assumes nothing.
use mathlib.Core.Path.{◌≡◌, ap, sym, ◌∙◌}
use Prim.Native.Nat.{ℕ}
use contract.Lifetimes.{Lfts}
use borrow.Fn.World.{ArgsD}
use borrow.Fn.Kinds.{ended_of}
use denote.Triple.Clauses.{AtExit}
use Rattle.cabinet.specs.Crossing.{Held, Crossed}
use Rattle.cabinet.specs.contracts.sorundappa_start as start
use Rattle.cabinet.proofs.sorundappa_start.Reads as start-reads
use Rattle.cabinet.proofs.sorundappa_start.Kinds as start-kinds
use Rattle.cabinet.specs.contracts.sorundappa_list as list
use Rattle.cabinet.proofs.sorundappa_list.Reads as list-reads
use Rattle.cabinet.proofs.sorundappa_list.Kinds as list-kinds
use Rattle.cabinet.specs.contracts.sorundappa_deliver as deliver
use Rattle.cabinet.proofs.sorundappa_deliver.Reads as deliver-reads
use Rattle.cabinet.proofs.sorundappa_deliver.Kinds as deliver-kinds
use Rattle.cabinet.specs.contracts.sorundappa_row as row
use Rattle.cabinet.proofs.sorundappa_row.Reads as row_reads
use Rattle.cabinet.proofs.sorundappa_row.Kinds as row-kinds
use Rattle.cabinet.specs.contracts.sorundappa_read as read
use Rattle.cabinet.proofs.sorundappa_read.Reads as read-reads
use Rattle.cabinet.proofs.sorundappa_read.Kinds as read-kinds
use Rattle.cabinet.specs.contracts.sorundappa_write as write
use Rattle.cabinet.proofs.sorundappa_write.Reads as write-reads
use Rattle.cabinet.proofs.sorundappa_write.Kinds as write-kinds
use Rattle.cabinet.proofs.sorundappa_size.Reads as size-reads

pub start_one : (κs : Lfts 1) (a : ArgsD start.signature κs) (r r' : Unit) (s s' : AtExit (ended_of 1 start-kinds.ps start-kinds.r) κs)
    → start-reads.Learnt κs a r s → start-reads.Learnt κs a r' s' → s.0.now ≡ s'.0.now
start_one κs a r r' s s' h h' = h ∙ sym h'

pub list_one : (κs : Lfts (list.signature).lifetimes) (a : ArgsD list.signature κs) (r r' : ℕ)
    (s s' : AtExit (ended_of (list.signature).lifetimes list-kinds.ps list-kinds.r) κs)
    → list-reads.Learnt κs a r s → list-reads.Learnt κs a r' s' → (r ≡ r') × (s.0.now ≡ s'.0.now) × (s.1.0.now ≡ s'.1.0.now)
list_one κs a r r' s s' h h' =
    let e = h.0 ∙ sym h'.0 in
    (ap (λ (x : Crossed). x.answer) e, ap (λ (x : Crossed). x.left.words) e, ap (λ (x : Crossed). x.left.rows) e)

pub deliver_one : (κs : Lfts (deliver.signature).lifetimes) (a : ArgsD deliver.signature κs) (r r' : ℕ)
    (s s' : AtExit (ended_of (deliver.signature).lifetimes deliver-kinds.ps deliver-kinds.r) κs)
    → deliver-reads.Learnt κs a r s → deliver-reads.Learnt κs a r' s'
    → (r ≡ r') × (s.0.now ≡ s'.0.now) × (s.1.0.now ≡ s'.1.0.now) × (s.1.1.0.now ≡ s'.1.1.0.now)
deliver_one κs a r r' s s' h h' =
    let e = h.0 ∙ sym h'.0 in
    let left = ap (λ (x : Crossed). x.left) e in (
      ap (λ (x : Crossed). x.answer) e,
      ap (λ (t : Held). t.words) left,
      ap (λ (t : Held). t.rows) left,
      ap (λ (t : Held). t.lines) left,
    )

pub row_one : (κs : Lfts (row.signature).lifetimes) (a : ArgsD row.signature κs) (r r' : ℕ)
    (s s' : AtExit (ended_of (row.signature).lifetimes row-kinds.ps row-kinds.r) κs)
    → row_reads.Learnt κs a r s → row_reads.Learnt κs a r' s' → (r ≡ r') × (s.1.1.1.1.0.now ≡ s'.1.1.1.1.0.now)
row_one κs a r r' s s' h h' = (h.0 ∙ sym h'.0, h.1 ∙ sym h'.1)

pub read_one : (κs : Lfts 2) (a : ArgsD read.signature κs) (r r' : ℕ) (s s' : AtExit (ended_of 2 read-kinds.ps read-kinds.r) κs)
    → read-reads.Learnt κs a r s → read-reads.Learnt κs a r' s' → (r ≡ r') × (s.1.1.0.now ≡ s'.1.1.0.now)
read_one κs a r r' s s' h h' = (h.0 ∙ sym h'.0, h.1 ∙ sym h'.1)

pub write_one : (κs : Lfts 2) (a : ArgsD write.signature κs) (r r' : ℕ) (s s' : AtExit (ended_of 2 write-kinds.ps write-kinds.r) κs)
    → write-reads.Learnt κs a r s → write-reads.Learnt κs a r' s' → (r ≡ r') × (s.1.1.0.now ≡ s'.1.1.0.now)
write_one κs a r r' s s' h h' = (h.0 ∙ sym h'.0, h.1.0 ∙ sym h'.1.0)

pub size_one : (which which₁ which₂ r r' : ℕ) → size-reads.Learnt tt (which, tt) r (which₁, tt)
    → size-reads.Learnt tt (which, tt) r' (which₂, tt) → r ≡ r'
size_one which which₁ which₂ r r' h h' = h ∙ sym h'
