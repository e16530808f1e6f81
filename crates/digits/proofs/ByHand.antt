-- Number fields by hand, as PLS 1.1 has them: which bytes spell a number and which number, how numbers are written, and which bytes have
-- the form that we write. The texts and the numbers are the document's and come from no definition.
-- Assumes nothing.
use Prim.Native.Nat.{ℕ}
use Prim.Native.String.{String}
use mathlib.Core.Path.{◌≡◌, refl}
use mathlib.Core.List.{List, [], ◌∷◌, map}
use mathlib.Core.Bool.{Bool, true, false}
use Rattle.decimal.specs.Letters.{letters}
use Rattle.decimal.specs.Decimal.{digit_count, lowest}
use Rattle.digits.specs.Field.{spelt, value_of, shown_in, lean}

abbrev pub spelt_each : ℕ → List String → List Bool
spelt_each least texts = map (λ s. spelt least (letters s)) texts

abbrev pub lean_each : ℕ → List String → List Bool
lean_each least texts = map (λ s. lean least (letters s)) texts

abbrev pub values : ℕ → List String → List ℕ
values least texts = map (λ s. value_of least (letters s)) texts

-- ---- a time: eight bytes, at least one digit

-- no digit; a space after a digit, behind all and among them; the byte before 0 and the one after 9; a sign, a point, a comma
pub times_refused : spelt_each 1
    ("        " ∷ "      1 " ∷ "    1 01" ∷ "       /" ∷ "       :" ∷ "      +1" ∷ "      -1" ∷ "     1.0" ∷ "   1,000" ∷ [])
    ≡ false ∷ false ∷ false ∷ false ∷ false ∷ false ∷ false ∷ false ∷ false ∷ []
unfolding spelt
times_refused = refl

-- a zero byte behind the digit, before it, and for it
pub zero_bytes : map (spelt 1) ((32 ∷ 49 ∷ 0 ∷ []) ∷ (32 ∷ 0 ∷ 49 ∷ []) ∷ (32 ∷ 32 ∷ 0 ∷ []) ∷ []) ≡ false ∷ false ∷ false ∷ []
unfolding spelt
zero_bytes = refl

-- spaces and zeros before the number, as many as there are
abbrev times : List String
times = "       0" ∷ "       9" ∷ "00000000" ∷ "  000086" ∷ "00000086" ∷ "86399999" ∷ "86400000" ∷ "99999999" ∷ []

pub times_read : (spelt_each 1 times ≡ true ∷ true ∷ true ∷ true ∷ true ∷ true ∷ true ∷ true ∷ [])
    × (values 1 times ≡ 0 ∷ 9 ∷ 0 ∷ 86 ∷ 86 ∷ 86399999 ∷ 86400000 ∷ 99999999 ∷ [])
unfolding spelt value_of
times_read = (refl, refl)

pub times_written : map (shown_in 8 1) (0 ∷ 9 ∷ 10 ∷ 86399999 ∷ []) ≡ map letters ("       0" ∷ "       9" ∷ "      10" ∷ "86399999" ∷ [])
unfolding shown_in lowest digit_count
times_written = refl

pub times_lean : lean_each 1 ("       0" ∷ "      00" ∷ "      09" ∷ "       9" ∷ "      90" ∷ "        " ∷ [])
    ≡ true ∷ false ∷ false ∷ true ∷ true ∷ false ∷ []
unfolding spelt lean
times_lean = refl

-- ---- a price: ten bytes, at least four digits

-- three digits at the end, a space behind them
pub prices_refused : spelt_each 4 ("       001" ∷ "      001 " ∷ "          " ∷ []) ≡ false ∷ false ∷ false ∷ []
unfolding spelt
prices_refused = refl

-- the last has more than 32 bits hold
abbrev prices : List String
prices = "      0001" ∷ "0000000001" ∷ "   0000001" ∷ "     10000" ∷ "2000000000" ∷ "4294967297" ∷ []

pub prices_read : (spelt_each 4 prices ≡ true ∷ true ∷ true ∷ true ∷ true ∷ true ∷ [])
    × (values 4 prices ≡ 1 ∷ 1 ∷ 1 ∷ 10000 ∷ 2000000000 ∷ 4294967297 ∷ [])
unfolding spelt value_of
prices_read = (refl, refl)

pub prices_written : map (shown_in 10 4) (1 ∷ 10000 ∷ 2000000000 ∷ 4294967297 ∷ [])
    ≡ map letters ("      0001" ∷ "     10000" ∷ "2000000000" ∷ "4294967297" ∷ [])
unfolding shown_in lowest digit_count
prices_written = refl

pub prices_lean : lean_each 4 prices ≡ true ∷ false ∷ false ∷ true ∷ true ∷ true ∷ []
unfolding spelt lean
prices_lean = refl

-- ---- a number that has no room shows its lowest digits

pub sizes_written : map (shown_in 9 1) (1 ∷ 999999999 ∷ 1234567890 ∷ []) ≡ map letters ("        1" ∷ "999999999" ∷ "234567890" ∷ [])
unfolding shown_in lowest digit_count
sizes_written = refl
