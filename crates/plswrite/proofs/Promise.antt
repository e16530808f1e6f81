-- The public function's contract leaves one possible content for the bytes that it stores to.
-- `Learnt` is that contract as the compiler hands it to a caller.
-- Assumes nothing.
use mathlib.Core.Path.{◌≡◌, sym, ◌∙◌}
use contract.Lifetimes.{Lfts}
use borrow.Fn.World.{ArgsD}
use borrow.Fn.Kinds.{ended_of}
use denote.Triple.Clauses.{AtExit}
use Rattle.plswrite.specs.contracts.store as store
use Rattle.plswrite.proofs.store.Reads as store-reads
use Rattle.plswrite.proofs.store.Kinds as store-kinds

pub store_one : (κs : Lfts 2) (a : ArgsD store.signature κs) (r r' : Unit)
    (s s' : AtExit (ended_of 2 store-kinds.ps store-kinds.r) κs)
    → store-reads.Learnt κs a r s → store-reads.Learnt κs a r' s' → s.0.now ≡ s'.0.now
store_one κs a r r' s s' h h' = h ∙ sym h'
