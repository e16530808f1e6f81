-- Each public function's contract leaves one possible answer, and one possible content for the bytes that it stores to. `Learnt` is that
-- contract as the compiler hands it to a caller.
-- Assumes nothing.
use mathlib.Core.Path.{◌≡◌, sym, ◌∙◌}
use mathlib.Core.Bool.{Bool}
use Prim.Native.Nat.{ℕ}
use contract.Lifetimes.{Lfts}
use borrow.Fn.World.{ArgsD}
use borrow.Fn.Kinds.{ended_of}
use denote.Triple.Clauses.{AtExit}
use Rattle.editions.specs.declared.Edition.{Edition}
use Rattle.kinds.specs.declared.Kind.{Kind}
use Rattle.formats.proofs.letter_place.Reads as letter-place-reads
use Rattle.formats.proofs.length_of.Reads as length-of-reads
use Rattle.formats.specs.contracts.unpack as unpack
use Rattle.formats.proofs.unpack.Reads as unpack-reads
use Rattle.formats.proofs.unpack.Kinds as unpack-kinds
use Rattle.formats.specs.contracts.store as store
use Rattle.formats.proofs.store.Reads as store-reads
use Rattle.formats.proofs.store.Kinds as store-kinds

pub letter_place_one : (e e₁ e₂ : Edition) (n n' : ℕ) → letter-place-reads.Learnt tt (e, tt) n (e₁, tt)
    → letter-place-reads.Learnt tt (e, tt) n' (e₂, tt) → n ≡ n'
letter_place_one e e₁ e₂ n n' h h' = h ∙ sym h'

pub length_of_one : (e e₁ e₂ : Edition) (k k₁ k₂ : Kind) (n n' : ℕ) → length-of-reads.Learnt tt (e, (k, tt)) n (e₁, (k₁, tt))
    → length-of-reads.Learnt tt (e, (k, tt)) n' (e₂, (k₂, tt)) → n ≡ n'
length_of_one e e₁ e₂ k k₁ k₂ n n' h h' = h ∙ sym h'

pub unpack_one : (κs : Lfts 2) (a : ArgsD unpack.signature κs) (r r' : Bool)
    (s s' : AtExit (ended_of 2 unpack-kinds.ps unpack-kinds.r) κs)
    → unpack-reads.Learnt κs a r s → unpack-reads.Learnt κs a r' s' → (s.1.0.now ≡ s'.1.0.now) × (r ≡ r')
unpack_one κs a r r' s s' h h' = (h.0 ∙ sym h'.0, h.1 ∙ sym h'.1)

pub store_one : (κs : Lfts 2) (a : ArgsD store.signature κs) (r r' : Unit)
    (s s' : AtExit (ended_of 2 store-kinds.ps store-kinds.r) κs)
    → store-reads.Learnt κs a r s → store-reads.Learnt κs a r' s' → s.1.0.now ≡ s'.1.0.now
store_one κs a r r' s s' h h' = h ∙ sym h'
