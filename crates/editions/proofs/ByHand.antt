-- The editions by hand: their numbers, which of them report a volume, and which numbers name none. The figures are document 02's and come
-- from no definition, so what is wrong in the code and in its definition alike is found here.
-- Assumes nothing.
use Rattle.std.specs.Prelude.{None, Some}
use Prim.Native.Nat.{ℕ, ◌<◌}
use mathlib.Core.Path.{◌≡◌, refl}
use mathlib.Core.Logic.{◌↔◌}
use mathlib.Core.Bool.{Bool, true, false, cond}
use mathlib.Core.List.{[], ◌∷◌, map}
use native.Mathlib.Omega.{arith}
use borrow.Author.Tests.{eqb-false, ne_eqb}
use lib.Dec.{eqb}
use Rattle.editions.specs.declared.Edition.TheVariants.{NlsPlus, Pls}
use Rattle.editions.specs.Editions.{edition_number, all_editions, edition_named, reports}

-- NLS Plus is 0, PLS is 1
pub numbers : map edition_number all_editions ≡ 0 ∷ 1 ∷ []
numbers = refl

-- NLS Plus reports a consolidated volume, PLS does not
pub reported : map reports all_editions ≡ true ∷ false ∷ []
reported = refl

-- 0, 1, the first number that names nothing, and the last that 64 bits hold
pub named : map edition_named (0 ∷ 1 ∷ 2 ∷ 18446744073709551615 ∷ []) ≡ Some NlsPlus ∷ Some Pls ∷ None ∷ None ∷ []
unfolding edition_named
named = refl

-- a number names no edition exactly if it is above 1
pub unknown_exactly : (n : ℕ) → (edition_named n ≡ None) ↔ (1 < n)
unfolding edition_named
unknown_exactly n = (go (eqb n 0) (eqb n 1) refl refl, back)
  where
    go : (t u : Bool) → eqb n 0 ≡ t → eqb n 1 ≡ u → cond t (Some NlsPlus) (cond u (Some Pls) None) ≡ None → 1 < n
    go true u q r h = let z : ◌≡◌ {A = ℕ} 0 1 = cc in omega (arith, z)
    go false true q r h = let z : ◌≡◌ {A = ℕ} 0 1 = cc in omega (arith, z)
    go false false q r h = omega (arith, eqb-false n 0 q, eqb-false n 1 r)

    back : 1 < n → edition_named n ≡ None
    back h = rw (ne_eqb n 0 (λ q. omega (arith, h, q)), ne_eqb n 1 (λ q. omega (arith, h, q))) refl
