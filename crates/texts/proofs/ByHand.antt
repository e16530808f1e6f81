-- The text rule by hand. The figures are document 01's and come from no definition, so a rule that is wrong in the code and in its
-- definition alike is found here.
-- Assumes nothing.
use Prim.Native.Nat.{ℕ}
use mathlib.Core.Path.{◌≡◌, refl}
use mathlib.Core.List.{List, [], ◌∷◌, map}
use mathlib.Core.Bool.{true, false}
use Rattle.texts.specs.Text.{text}

abbrev four : ℕ → ℕ → ℕ → ℕ → List ℕ
four a b c d = a ∷ b ∷ c ∷ d ∷ []

-- the lowest and the highest byte that shows, alone, at the end, and all the way
pub kept : map text (four 33 32 32 32 ∷ four 126 32 32 32 ∷ four 65 33 126 32 ∷ four 65 66 67 68 ∷ []) ≡ true ∷ true ∷ true ∷ true ∷ []
unfolding text
kept = refl

-- spaces only, a space first, one in the middle; a byte of 127, of 31 and of 0; a padding of zeros; no byte at all
pub broken : map text (four 32 32 32 32 ∷ four 32 65 66 67 ∷ four 65 32 66 32 ∷ four 127 32 32 32 ∷ four 65 31 32 32 ∷ four 65 0 32 32
    ∷ four 65 66 0 0 ∷ [] ∷ [])
    ≡ false ∷ false ∷ false ∷ false ∷ false ∷ false ∷ false ∷ false ∷ []
unfolding text
broken = refl
