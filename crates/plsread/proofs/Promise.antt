-- The public function's contract leaves one possible answer, and one possible content for the bytes that it stores to.
-- `Learnt` is that contract as the compiler hands it to a caller.
-- Assumes nothing.
use mathlib.Core.Path.{◌≡◌, sym, ◌∙◌}
use mathlib.Core.Bool.{Bool}
use contract.Lifetimes.{Lfts}
use borrow.Fn.World.{ArgsD}
use borrow.Fn.Kinds.{ended_of}
use denote.Triple.Clauses.{AtExit}
use Rattle.plsread.specs.contracts.unpack as unpack
use Rattle.plsread.proofs.unpack.Reads as unpack-reads
use Rattle.plsread.proofs.unpack.Kinds as unpack-kinds

pub unpack_one : (κs : Lfts 2) (a : ArgsD unpack.signature κs) (r r' : Bool)
    (s s' : AtExit (ended_of 2 unpack-kinds.ps unpack-kinds.r) κs)
    → unpack-reads.Learnt κs a r s → unpack-reads.Learnt κs a r' s' → (s.0.now ≡ s'.0.now) × (r ≡ r')
unpack_one κs a r r' s s' h h' = (h.0 ∙ sym h'.0, h.1 ∙ sym h'.1)
