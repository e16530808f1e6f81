-- Each public function's contract leaves one possible answer. `Learnt` is that contract as the compiler hands it to a
-- caller.
-- Assumes nothing.
use mathlib.Core.Path.{◌≡◌, sym, ◌∙◌}
use Prim.Native.Nat.{ℕ}
use contract.Lifetimes.{Lfts}
use borrow.Fn.World.{ArgsD}
use borrow.Fn.Kinds.{ended_of}
use denote.Triple.Clauses.{AtExit}
use Rattle.eights.specs.contracts.low8 as low8
use Rattle.eights.proofs.low8.Reads as low8-reads
use Rattle.eights.proofs.low8.Kinds as low8-kinds

pub low8_one : (κs : Lfts 1) (a : ArgsD low8.signature κs) (r r' : ℕ) (s s' : AtExit (ended_of 1 low8-kinds.ps low8-kinds.r) κs)
    → low8-reads.Learnt κs a r s → low8-reads.Learnt κs a r' s' → r ≡ r'
low8_one κs a r r' s s' h h' = h ∙ sym h'
