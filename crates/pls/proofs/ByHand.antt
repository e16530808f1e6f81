-- The layouts of PLS by hand: where the fields of S, T and C stand and how wide they are, and a price with its decimals. The figures are
-- document 02's and come from no definition, so an offset or a number of decimals that is wrong in the code and in its definition alike is
-- found here.
-- Assumes nothing.
use Prim.Native.Nat.{ℕ}
use Prim.Native.String.{String}
use mathlib.Core.Path.{◌≡◌, refl}
use mathlib.Core.List.{List, [], ◌∷◌, map}
use mathlib.Core.Bool.{Bool, true, false}
use Rattle.octets.specs.Run.{tab, part}
use Rattle.decimal.specs.Letters.{letters}
use Rattle.digits.specs.Field.{spelt, value_of}
use Rattle.layout.specs.Values.{room_of}
use Rattle.layout.specs.Tables.{Layout, offset_of, width_of, ready_by}
use Rattle.pls.specs.Layouts.{layout_s, layout_t, layout_c}

-- ---- where the fields stand

abbrev offsets : Layout → List ℕ
offsets l = map offset_of l.entries

abbrev widths : Layout → List ℕ
widths l = map width_of l.entries

-- S: time, letter, event
pub s_stands : (offsets layout_s ≡ 0 ∷ 8 ∷ 9 ∷ []) × (widths layout_s ≡ 8 ∷ 1 ∷ 1 ∷ [])
unfolding layout_s
s_stands = (refl, refl)

-- T, and X with its letter: time, letter, centre, symbol, class, control, price, size, condition
pub t_stands : (k : ℕ)
    → (offsets (layout_t k) ≡ 0 ∷ 8 ∷ 9 ∷ 10 ∷ 18 ∷ 19 ∷ 29 ∷ 39 ∷ 48 ∷ [])
    × (widths (layout_t k) ≡ 8 ∷ 1 ∷ 1 ∷ 8 ∷ 1 ∷ 10 ∷ 10 ∷ 9 ∷ 4 ∷ [])
unfolding layout_t
t_stands k = (refl, refl)

-- C: as T, then the new control, price, size and condition
pub c_stands : (offsets layout_c ≡ 0 ∷ 8 ∷ 9 ∷ 10 ∷ 18 ∷ 19 ∷ 29 ∷ 39 ∷ 48 ∷ 52 ∷ 62 ∷ 72 ∷ 81 ∷ [])
    × (widths layout_c ≡ 8 ∷ 1 ∷ 1 ∷ 8 ∷ 1 ∷ 10 ∷ 10 ∷ 9 ∷ 4 ∷ 10 ∷ 10 ∷ 9 ∷ 4 ∷ [])
unfolding layout_c
c_stands = (refl, refl)

-- ---- a price has four decimals

-- whether each field of a message can be stored
unfoldable pub stored_by : Layout → String → Bool
unfolding tab part spelt value_of room_of ready_by
stored_by l m = ready_by l (letters m)

-- a T: the price 0.0001 behind spaces; three digits alone
pub decimals : map (stored_by (layout_t 84))
    ("34200000TXABCD    Q1               0001      100@   " ∷ "34200000TXABCD    Q1                001      100@   " ∷ [])
    ≡ true ∷ false ∷ []
unfolding stored_by layout_t
decimals = refl

-- a C: the same of its price, and of its new price
pub new_decimals : map (stored_by layout_c)
    ("34200000CXABCD    Q1               0001      100@   9               0001      120@   "
    ∷ "34200000CXABCD    Q1                001      100@   9               0001      120@   "
    ∷ "34200000CXABCD    Q1               0001      100@   9                001      120@   "
    ∷ [])
    ≡ true ∷ false ∷ false ∷ []
unfolding stored_by layout_c
new_decimals = refl
