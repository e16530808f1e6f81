-- The sheet by hand: at each level every code that has both marks, every code that has high and low only, and every code that has neither,
-- in rising order, and what four codes together bear. The figures are document 01's, or our papers' where it leaves them open, and come
-- from no definition, so a code that stands wrong in the tables and on the sheet alike is found here.
-- Assumes nothing.
use Prim.Native.Nat.{ℕ}
use mathlib.Core.Path.{◌≡◌, refl}
use mathlib.Core.List.{List, [], ◌∷◌}
use mathlib.Core.Bool.{Bool, true, false, cond}
use lib.Dec.{eqb}
use Rattle.conditions.specs.declared.Marks.{Marks}
use Rattle.conditions.specs.Conditions.{level_at, bits_of, condition_marks}
use Rattle.conditions.proofs.Table.{bytes}

-- those of a list that keep a rule
abbrev pub keeping : (ℕ → Bool) → List ℕ → List ℕ
keeping rule [] = []
keeping rule (x ∷ xs) = cond (rule x) (x ∷ keeping rule xs) (keeping rule xs)

-- every byte that keeps a rule, in rising order
abbrev pub bytes_that : (ℕ → Bool) → List ℕ
bytes_that rule = keeping rule (bytes (λ c. c))

-- ---- the codes of a level

-- the three columns of a level: the codes whose bits are 7, 3 and 1
pub record Level : Type 0 where
  pub both : List ℕ
  pub high_low : List ℕ
  pub neither : List ℕ

unfoldable pub codes_at : ℕ → Level
unfolding level_at
codes_at level =
    record {
      both = bytes_that (λ c. eqb (bits_of level c) 7);
      high_low = bytes_that (λ c. eqb (bits_of level c) 3);
      neither = bytes_that (λ c. eqb (bits_of level c) 1);
    }

-- no code stands at level 0 or 5
abbrev none : Level
none = record { both = []; high_low = []; neither = [] }

-- @ |  | C N R;  space 5 6 F O | 4 | 7;  space | L Z | T U;  space A B D K S X Y |  | H I V W
pub levels : (codes_at 0 ≡ none)
    × (codes_at 1 ≡ record { both = 64 ∷ []; high_low = []; neither = 67 ∷ 78 ∷ 82 ∷ [] })
    × (codes_at 2 ≡ record { both = 32 ∷ 53 ∷ 54 ∷ 70 ∷ 79 ∷ []; high_low = 52 ∷ []; neither = 55 ∷ [] })
    × (codes_at 3 ≡ record { both = 32 ∷ []; high_low = 76 ∷ 90 ∷ []; neither = 84 ∷ 85 ∷ [] })
    × (codes_at 4 ≡ record { both = 32 ∷ 65 ∷ 66 ∷ 68 ∷ 75 ∷ 83 ∷ 88 ∷ 89 ∷ []; high_low = []; neither = 72 ∷ 73 ∷ 86 ∷ 87 ∷ [] })
    × (codes_at 5 ≡ none)
unfolding codes_at
levels = (refl, refl, refl, refl, refl, refl)

-- ---- four codes

abbrev bearing : Bool → Bool → Bool → Marks
bearing on_sheet high_low last = record { on_sheet = on_sheet; high_low = high_low; last = last }

-- all four with both marks; one with high and low only; one with neither; one that is not on the sheet; the two codes of a pair turned
pub fours : (condition_marks (64 ∷ 70 ∷ 32 ∷ 65 ∷ []) ≡ bearing true true true)
    × (condition_marks (64 ∷ 32 ∷ 76 ∷ 32 ∷ []) ≡ bearing true true false)
    × (condition_marks (64 ∷ 52 ∷ 32 ∷ 73 ∷ []) ≡ bearing true false false)
    × (condition_marks (32 ∷ 32 ∷ 32 ∷ 32 ∷ []) ≡ bearing false false false)
    × (condition_marks (64 ∷ 76 ∷ 32 ∷ 32 ∷ []) ≡ bearing false false false)
unfolding condition_marks level_at
fours = (refl, refl, refl, refl, refl)
