-- A number in a field of bytes: spaces, none or more, then digits to the end of the field, at least so many of them. Said apart, and
-- worked out, over the width and the least number of digits. A space is the byte 32, the digits 0 to 9 are the bytes 48 to 57.
-- Assumes nothing.
use Rattle.std.specs.Prelude.{ℕ, zero, suc, ◌-◌, ◌≤◌, min, max, ◌≡◌, List, [], ◌∷◌, ◌++◌, Bool, true, false, cond, not, ◌&&◌, ◌||◌, eqb, leb, length, drop, get_or, replicate}
use Rattle.octets.specs.Run.{all}
use Rattle.decimal.specs.Decimal.{digit_count, lowest, worth, Digits}

-- ---- said apart

-- bytes spell a number with at least so many digits
pub record Spells (least : ℕ) (xs : List ℕ) (x : ℕ) : Type 0 where
  pub spaces : List ℕ
  pub shown : List ℕ
  pub whole : xs ≡ spaces ++ shown
  pub blank : all 32 spaces ≡ true
  pub digits : Digits shown
  pub enough : least ≤ length shown
  pub value : worth shown ≡ x

-- ---- worked out: to read

-- how many spaces stand at the head
abbrev pub blanks : List ℕ → ℕ
blanks [] = 0
blanks (x ∷ xs) = cond (eqb x 32) (suc (blanks xs)) 0

-- what stands behind them
abbrev pub rest : List ℕ → List ℕ
rest xs = drop (blanks xs) xs

abbrev pub is_digit : ℕ → Bool
is_digit x = leb 48 x && leb x 57

abbrev pub are_digits : List ℕ → Bool
are_digits [] = true
are_digits (x ∷ xs) = is_digit x && are_digits xs

-- the bytes spell a number
unfoldable pub spelt : ℕ → List ℕ → Bool
spelt least xs = are_digits (rest xs) && leb least (length (rest xs))

-- the number; 0 where they spell none
unfoldable pub value_of : ℕ → List ℕ → ℕ
value_of least xs = cond (spelt least xs) (worth (rest xs)) 0

-- ---- worked out: to write

-- how many digits are shown: as many as the number has, but at least so many, and at most as many as there is room for
abbrev pub shown_count : ℕ → ℕ → ℕ → ℕ
shown_count width least x = min width (max least (digit_count x))

-- a number in so many bytes; one that has more digits than that shows its lowest ones
unfoldable pub shown_in : ℕ → ℕ → ℕ → List ℕ
shown_in width least x = replicate (width - shown_count width least x) 32 ++ lowest (shown_count width least x) x

-- the form that we write: no digit too many, so there are exactly the least number of digits, or the first is not 0
unfoldable pub lean : ℕ → List ℕ → Bool
lean least xs = spelt least xs && (eqb (length (rest xs)) least || not (eqb (get_or (rest xs) 0 0) 48))
