-- The events by hand: the phase that each begins, those of some bytes beside them, and in which phases a trade is due. The figures are
-- document 01's, or our papers' where it leaves them open, and come from no definition, so an order that is wrong in the code and in its
-- definition alike is found here.
-- Assumes nothing.
use mathlib.Core.Path.{◌≡◌, refl}
use mathlib.Core.List.{[], ◌∷◌, map}
use mathlib.Core.Bool.{true, false}
use Rattle.phases.specs.Phases.{phase_of, trading}

-- O S Q M E C
pub order : map phase_of (79 ∷ 83 ∷ 81 ∷ 77 ∷ 69 ∷ 67 ∷ []) ≡ 1 ∷ 2 ∷ 3 ∷ 4 ∷ 5 ∷ 6 ∷ []
order = refl

-- B D F L N P R T, the small o and the byte 0
pub no_events : map phase_of (66 ∷ 68 ∷ 70 ∷ 76 ∷ 78 ∷ 80 ∷ 82 ∷ 84 ∷ 111 ∷ 0 ∷ []) ≡ 0 ∷ 0 ∷ 0 ∷ 0 ∷ 0 ∷ 0 ∷ 0 ∷ 0 ∷ 0 ∷ 0 ∷ []
no_events = refl

-- before any event, after each of the first five, after C
pub hours : map trading (0 ∷ 1 ∷ 2 ∷ 3 ∷ 4 ∷ 5 ∷ 6 ∷ []) ≡ false ∷ true ∷ true ∷ true ∷ true ∷ true ∷ false ∷ []
hours = refl
