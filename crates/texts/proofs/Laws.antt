-- The bytes that show at the head, as std counts them.
-- Assumes nothing.
use mathlib.Core.Path.{◌≡◌, refl, ap}
use mathlib.Core.Bool.{cond}
use mathlib.Core.List.{List, [], ◌∷◌}
use Prim.Native.Nat.{ℕ, suc, ◌+◌}
use native.Mathlib.Omega.{arith}
use Rattle.std.specs.List.{prefix_len}
use Rattle.texts.specs.Text.{ink, inked}

pub head_is : (xs : List ℕ) → prefix_len ink xs ≡ inked xs
head_is [] = refl
head_is (x ∷ xs) =
    let e : 1 + prefix_len ink xs ≡ suc (inked xs) = omega (arith, head_is xs) in
    ap (λ (n : ℕ). cond (ink x) n 0) e
