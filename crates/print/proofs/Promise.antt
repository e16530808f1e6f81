-- Each public function's contract leaves one possible answer and one possible content for each lent byte. `Learnt` is
-- that contract as the compiler hands it to a caller: of the arguments, of the result, and of the arguments again as
-- the call returns.
-- Assumes nothing.
use mathlib.Core.Path.{◌≡◌, refl, sym, ◌∙◌}
use Prim.Native.Nat.{ℕ}
use lib.ListN.{length}
use lib.Seq.{sets}
use contract.Lifetimes.{Lfts}
use borrow.Fn.World.{ArgsD}
use borrow.Fn.Kinds.{ended_of}
use denote.Triple.Clauses.{AtExit}
use Rattle.print.specs.Texts.{header_text, row_text, closing_text, stop_text}
use Rattle.print.specs.contracts.header as header
use Rattle.print.proofs.header.Reads as header-reads
use Rattle.print.proofs.header.Kinds as header-kinds
use Rattle.print.specs.contracts.row as row
use Rattle.print.proofs.row.Reads as row_reads
use Rattle.print.proofs.row.Kinds as row-kinds
use Rattle.print.specs.contracts.closing as closing
use Rattle.print.proofs.closing.Reads as closing-reads
use Rattle.print.proofs.closing.Kinds as closing-kinds
use Rattle.print.specs.contracts.stops as stops
use Rattle.print.proofs.stops.Reads as stops-reads
use Rattle.print.proofs.stops.Kinds as stops-kinds

module _ (κs : Lfts 1) (a : ArgsD header.signature κs) where
  pub header_one : (r r' : ℕ) (s s' : AtExit (ended_of 1 header-kinds.ps header-kinds.r) κs)
      → header-reads.Learnt κs a r s → header-reads.Learnt κs a r' s' → (r ≡ r') × (s.0.now ≡ s'.0.now)
  header_one r r' s s' h h' = (h.1 ∙ sym h'.1, h.0 ∙ sym h'.0)

  -- what a caller is told, and nothing else
  pub header_says : (r : ℕ) (s : AtExit (ended_of 1 header-kinds.ps header-kinds.r) κs)
      → header-reads.Learnt κs a r s ≡ ((s.0.now ≡ sets a.0.now 0 header_text) × (r ≡ length header_text))
  header_says r s = refl

module _ (κs : Lfts 1) (a : ArgsD row.signature κs) where
  pub row_one : (r r' : ℕ) (s s' : AtExit (ended_of 1 row-kinds.ps row-kinds.r) κs)
      → row_reads.Learnt κs a r s → row_reads.Learnt κs a r' s' → (r ≡ r') × (s.1.0.now ≡ s'.1.0.now)
  row_one r r' s s' h h' = (h.1 ∙ sym h'.1, h.0 ∙ sym h'.0)

  -- what a caller is told, and nothing else
  pub row_says : (r : ℕ) (s : AtExit (ended_of 1 row-kinds.ps row-kinds.r) κs)
      → row_reads.Learnt κs a r s ≡ ((s.1.0.now ≡ sets a.1.0.now 0 (row_text a.0)) × (r ≡ length (row_text a.0)))
  row_says r s = refl

module _ (κs : Lfts 1) (a : ArgsD closing.signature κs) where
  pub closing_one : (r r' : ℕ) (s s' : AtExit (ended_of 1 closing-kinds.ps closing-kinds.r) κs)
      → closing-reads.Learnt κs a r s → closing-reads.Learnt κs a r' s' → (r ≡ r') × (s.1.1.0.now ≡ s'.1.1.0.now)
  closing_one r r' s s' h h' = (h.1 ∙ sym h'.1, h.0 ∙ sym h'.0)

  -- what a caller is told, and nothing else
  pub closing_says : (r : ℕ) (s : AtExit (ended_of 1 closing-kinds.ps closing-kinds.r) κs)
      → closing-reads.Learnt κs a r s
      ≡ ((s.1.1.0.now ≡ sets a.1.1.0.now 0 (closing_text a.0 a.1.0)) × (r ≡ length (closing_text a.0 a.1.0)))
  closing_says r s = refl

module _ (κs : Lfts 1) (a : ArgsD stops.signature κs) where
  pub stops_one : (r r' : ℕ) (s s' : AtExit (ended_of 1 stops-kinds.ps stops-kinds.r) κs)
      → stops-reads.Learnt κs a r s → stops-reads.Learnt κs a r' s' → (r ≡ r') × (s.1.0.now ≡ s'.1.0.now)
  stops_one r r' s s' h h' = (h.1 ∙ sym h'.1, h.0 ∙ sym h'.0)

  -- what a caller is told, and nothing else
  pub stops_says : (r : ℕ) (s : AtExit (ended_of 1 stops-kinds.ps stops-kinds.r) κs)
      → stops-reads.Learnt κs a r s ≡ ((s.1.0.now ≡ sets a.1.0.now 0 (stop_text a.0)) × (r ≡ length (stop_text a.0)))
  stops_says r s = refl
