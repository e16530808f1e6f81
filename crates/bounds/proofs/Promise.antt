-- Each public function's contract leaves one possible answer. `Learnt` is that contract as the compiler hands it to a
-- caller.
-- Assumes nothing.
use mathlib.Core.Path.{◌≡◌, sym, ◌∙◌}
use Prim.Native.Nat.{ℕ}
use Rattle.bounds.proofs.lesser.Reads as lesser-reads
use Rattle.bounds.proofs.up.Reads as up-reads

pub lesser_one : (a b a₁ b₁ a₂ b₂ : ℕ) (r r' : ℕ) → lesser-reads.Learnt tt (a, (b, tt)) r (a₁, (b₁, tt))
    → lesser-reads.Learnt tt (a, (b, tt)) r' (a₂, (b₂, tt)) → r ≡ r'
lesser_one a b a₁ b₁ a₂ b₂ r r' h h' = h ∙ sym h'

pub up_one : (x x₁ x₂ : ℕ) (r r' : ℕ) → up-reads.Learnt tt (x, tt) r (x₁, tt) → up-reads.Learnt tt (x, tt) r' (x₂, tt) → r ≡ r'
up_one x x₁ x₂ r r' h h' = h ∙ sym h'
