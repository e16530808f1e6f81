-- The public function's contract leaves one possible answer.
-- Assumes nothing.
use Prim.Native.Nat.{ℕ}
use mathlib.Core.Path.{◌≡◌, sym, ◌∙◌}
use Rattle.sizes.proofs.size.Reads as size-reads

pub size_one : (which which₁ which₂ r r' : ℕ) → size-reads.Learnt tt (which, tt) r (which₁, tt)
    → size-reads.Learnt tt (which, tt) r' (which₂, tt) → r ≡ r'
size_one which which₁ which₂ r r' h h' = h ∙ sym h'
