-- A row's figures by hand, of a few lines that are written down. The figures are document 01's and come from no definition, so a walk
-- that is wrong in the code and in its definition alike is found here.
-- Assumes nothing.
use Rattle.std.specs.Prelude.{None, Option, Some, ℕ}
use Prim.Native.Nat.{ℕ}
use mathlib.Core.Path.{◌≡◌, refl}
use mathlib.Core.List.{List, [], ◌∷◌}
use mathlib.Core.Bool.{Bool, true, false}
use lib.ListN.{replicate}
use Rattle.conditions.specs.Conditions as Conditions
use Rattle.lines.specs.declared.Line.{Line}
use Rattle.figures.specs.declared.Figures.{Figures}
use Rattle.figures.specs.Figures.{last_trade}
use Rattle.figures.specs.Figures as Figures
use Rattle.walk.specs.Walking.{counts, tally, fold, figures_of}
use Rattle.figures.specs.declared.LastTrade.{LastTrade}

abbrev symbol : ℕ → List ℕ
symbol x = x ∷ replicate 7 32

-- symbol, place, price, size, third code and whether it lives
abbrev line : ℕ → ℕ → ℕ → ℕ → ℕ → Bool → Line
line x place price size code live =
    record {
      key = 81 ∷ place ∷ replicate 9 32;
      symbol = symbol x;
      price = price;
      size = size;
      condition = 64 ∷ 32 ∷ code ∷ 32 ∷ [];
      place = place;
      time = 0;
      live = live;
    }

abbrev read : ℕ → ℕ → Option ℕ → Option ℕ → Option LastTrade → Figures
read volume count high low last = record { volume = volume; count = count; high = high; low = low; last = last }

-- no line; one trade; a second that is higher, a third that is lower and came first; a dead one and another symbol's change nothing; one
-- with high and low only, one with neither mark; of equal places the first line's price
pub figures : (figures_of (symbol 65) [] ≡ read 0 0 None None None)
    × (figures_of (symbol 65) (line 65 5 100 1 32 true ∷ []) ≡ read 1 1 (Some 100) (Some 100) (Some (last_trade 5 100)))
    × (figures_of (symbol 65) (line 65 5 100 1 32 true ∷ line 65 6 110 2 32 true ∷ line 65 4 90 4 32 true ∷ [])
    ≡ read 7 3 (Some 110) (Some 90) (Some (last_trade 6 110)))
    × (figures_of (symbol 65) (line 65 5 100 1 32 true ∷ line 65 6 110 2 32 false ∷ line 66 7 90 4 32 true ∷ [])
    ≡ read 1 1 (Some 100) (Some 100) (Some (last_trade 5 100)))
    × (figures_of (symbol 65) (line 65 5 100 1 32 true ∷ line 65 6 110 2 76 true ∷ line 65 7 120 4 84 true ∷ [])
    ≡ read 7 3 (Some 110) (Some 100) (Some (last_trade 5 100)))
    × (figures_of (symbol 65) (line 65 5 100 1 32 true ∷ line 65 5 110 2 32 true ∷ []) ≡ read 3 2 (Some 110) (Some 100) (Some (last_trade 5 100)))
unfolding Conditions.level_at Conditions.condition_marks Figures.sold counts tally fold figures_of
figures = (refl, refl, refl, refl, refl, refl)
