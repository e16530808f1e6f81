-- The public function's contract leaves one possible answer.
-- `Learnt` is that contract as the compiler hands it to a caller.
-- Assumes nothing.
use mathlib.Core.Path.{◌≡◌, sym, ◌∙◌}
use Prim.Native.Nat.{ℕ}
use Rattle.kinds.specs.declared.Kind.{Kind}
use Rattle.pls.proofs.length_of.Reads as length-of-reads

pub length_of_one : (k k₁ k₂ : Kind) (n n' : ℕ) → length-of-reads.Learnt tt (k, tt) n (k₁, tt)
    → length-of-reads.Learnt tt (k, tt) n' (k₂, tt) → n ≡ n'
length_of_one k k₁ k₂ n n' h h' = h ∙ sym h'
