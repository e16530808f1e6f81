-- Numbers in digits by hand: which bytes spell one, and which are in the form that we write. The answers are document 02's and come from no
-- definition.
-- Assumes nothing.
use Prim.Native.Nat.{ℕ}
use mathlib.Core.Path.{◌≡◌, refl}
use mathlib.Core.Bool.{true, false}
use mathlib.Core.List.{List, [], ◌∷◌, map}
use Rattle.digits.specs.Field.{spelt, lean}
use Rattle.layout.specs.Forms.{any, numeral, spells, plain}

-- a 1 behind two spaces, a 1 behind a space and a zero, three spaces, a space among digits
abbrev pub samples : List (List ℕ)
samples = (32 ∷ 32 ∷ 49 ∷ []) ∷ (32 ∷ 48 ∷ 49 ∷ []) ∷ (32 ∷ 32 ∷ 32 ∷ []) ∷ (49 ∷ 32 ∷ 48 ∷ []) ∷ []

-- of at least one digit, and of at least two
pub spelt_samples : (map (spells (numeral 1 any)) samples ≡ true ∷ true ∷ false ∷ false ∷ [])
    × (map (spells (numeral 2 any)) samples ≡ false ∷ true ∷ false ∷ false ∷ [])
unfolding spelt
spelt_samples = (refl, refl)

pub plain_samples : (map (plain (numeral 1 any)) samples ≡ true ∷ false ∷ false ∷ false ∷ [])
    × (map (plain (numeral 2 any)) samples ≡ false ∷ true ∷ false ∷ false ∷ [])
unfolding spelt lean
plain_samples = (refl, refl)
