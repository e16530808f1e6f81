-- The field rules by hand: of the rules of a byte every byte that keeps them, in rising order; of the rules of a number what they say at
-- each of their ends and just beyond. The figures are document 01's and 02's and come from no definition, so a rule that is wrong in the
-- code and in its definition alike is found here.
-- Assumes nothing.
use mathlib.Core.Path.{◌≡◌, refl}
use mathlib.Core.List.{[], ◌∷◌}
use Rattle.editions.specs.declared.Edition.TheVariants.{NlsPlus, Pls}
use Rattle.conditions.proofs.ByHand.{keeping, bytes_that}
use Rattle.layout.specs.Forms.{inside}
use Rattle.rules.specs.Rules as Rules

-- ---- rules of a byte

-- NLS Plus: B L Q X; PLS: X
pub centres : (bytes_that (Rules.centre NlsPlus) ≡ 66 ∷ 76 ∷ 81 ∷ 88 ∷ []) × (bytes_that (Rules.centre Pls) ≡ 88 ∷ [])
centres = (refl, refl)

-- NLS Plus: A B N P Q Z; PLS: A N P Q Z
pub classes : (bytes_that (Rules.class NlsPlus) ≡ 65 ∷ 66 ∷ 78 ∷ 80 ∷ 81 ∷ 90 ∷ [])
    × (bytes_that (Rules.class Pls) ≡ 65 ∷ 78 ∷ 80 ∷ 81 ∷ 90 ∷ [])
classes = (refl, refl)

-- C E M O Q S
pub events : bytes_that Rules.event ≡ 67 ∷ 69 ∷ 77 ∷ 79 ∷ 81 ∷ 83 ∷ []
events = refl

-- ---- rules of a number; no field holds more than 4,294,967,295, or a consolidated volume more than 18,446,744,073,709,551,615

pub times : keeping (inside Rules.time) (0 ∷ 1 ∷ 86399999 ∷ 86400000 ∷ 4294967295 ∷ []) ≡ 0 ∷ 1 ∷ 86399999 ∷ []
times = refl

pub trade_prices : keeping (inside Rules.trade_price) (0 ∷ 1 ∷ 2000000000 ∷ 2000000001 ∷ 4294967295 ∷ []) ≡ 1 ∷ 2000000000 ∷ []
trade_prices = refl

pub summary_prices : keeping (inside Rules.summary_price) (0 ∷ 1 ∷ 2000000000 ∷ 2000000001 ∷ 4294967295 ∷ []) ≡ 0 ∷ 1 ∷ 2000000000 ∷ []
summary_prices = refl

pub sizes : (keeping (inside (Rules.size NlsPlus)) (0 ∷ 1 ∷ 2000000001 ∷ 4294967295 ∷ []) ≡ 1 ∷ 2000000001 ∷ 4294967295 ∷ [])
    × (keeping (inside (Rules.size Pls)) (0 ∷ 1 ∷ 999999999 ∷ 1000000000 ∷ 4294967295 ∷ []) ≡ 1 ∷ 999999999 ∷ [])
sizes = (refl, refl)

pub volumes : keeping (inside Rules.consolidated) (0 ∷ 4294967296 ∷ 18446744073709551615 ∷ []) ≡ 0 ∷ 4294967296 ∷ 18446744073709551615 ∷ []
volumes = refl
