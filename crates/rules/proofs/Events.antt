-- A byte is an event exactly if it begins a phase.
-- Assumes nothing.
use mathlib.Core.Path.{◌≡◌, refl}
use mathlib.Core.Bool.{Bool, true, false, cond, not, ◌||◌}
use mathlib.Core.List.{List, [], ◌∷◌}
use Prim.Native.Nat.{ℕ, suc}
use native.Mathlib.Omega.{arith}
use borrow.Author.Tests.{ne_eqb}
use lib.Dec.{eqb}
use Rattle.conditions.specs.Conditions.{among}
use Rattle.phases.specs.Phases.{count_from}

pub counted_among : (n : ℕ) (es : List ℕ) (event : ℕ) → not (eqb (count_from (suc n) es event) 0) ≡ among es event
counted_among n [] event = refl
counted_among n (e ∷ es) event = go (eqb event e) (counted_among (suc n) es event)
  where
    go : (t : Bool) → not (eqb (count_from (suc (suc n)) es event) 0) ≡ among es event
        → not (eqb (cond t (suc n) (count_from (suc (suc n)) es event)) 0) ≡ (t || among es event)
    go true i = rw (ne_eqb (suc n) 0 (λ q. omega (arith, q)))
    go false i = i
