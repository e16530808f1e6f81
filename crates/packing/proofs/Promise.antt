-- Each public function's contract leaves one possible answer, or one possible content for the bytes that it stores to.
-- `Learnt` is that contract as the compiler hands it to a caller.
-- Assumes nothing.
use mathlib.Core.Path.{◌≡◌, sym, ◌∙◌}
use Prim.Native.Nat.{ℕ}
use contract.Lifetimes.{Lfts}
use borrow.Fn.World.{ArgsD}
use borrow.Fn.Kinds.{ended_of}
use denote.Triple.Clauses.{AtExit}
use Rattle.kinds.specs.declared.Kind.{Kind}
use Rattle.packing.proofs.length_of.Reads as length-of-reads
use Rattle.packing.specs.contracts.unpack as unpack
use Rattle.packing.proofs.unpack.Reads as unpack-reads
use Rattle.packing.proofs.unpack.Kinds as unpack-kinds
use Rattle.packing.specs.contracts.store as store
use Rattle.packing.proofs.store.Reads as store-reads
use Rattle.packing.proofs.store.Kinds as store-kinds

pub length_of_one : (k k₁ k₂ : Kind) (n n' : ℕ) → length-of-reads.Learnt tt (k, tt) n (k₁, tt)
    → length-of-reads.Learnt tt (k, tt) n' (k₂, tt) → n ≡ n'
length_of_one k k₁ k₂ n n' h h' = h ∙ sym h'

pub unpack_one : (κs : Lfts 2) (a : ArgsD unpack.signature κs) (r r' : Unit)
    (s s' : AtExit (ended_of 2 unpack-kinds.ps unpack-kinds.r) κs)
    → unpack-reads.Learnt κs a r s → unpack-reads.Learnt κs a r' s' → s.0.now ≡ s'.0.now
unpack_one κs a r r' s s' h h' = h ∙ sym h'

pub store_one : (κs : Lfts 2) (a : ArgsD store.signature κs) (r r' : Unit)
    (s s' : AtExit (ended_of 2 store-kinds.ps store-kinds.r) κs)
    → store-reads.Learnt κs a r s → store-reads.Learnt κs a r' s' → s.0.now ≡ s'.0.now
store_one κs a r r' s s' h h' = h ∙ sym h'
