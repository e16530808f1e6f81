-- What is moved of a message in pieces, as the code moves it: numbers in digits, and trades.
-- Assumes nothing.
use Rattle.std.specs.Prelude.{ℕ, ◌+◌, ◌^◌, List, ◌++◌, Bool, cond, ◌&&◌, get_or, set, ltb, Option, None, Some}
use Rattle.std.proofs.lemmas.List.Edits.{sets}
use Rattle.octets.specs.Run.{part}
use Rattle.numbers.specs.Number.{digits}
use Rattle.digits.specs.Field.{spelt, value_of}

-- what the reader of a number says back
unfoldable pub number_of : ℕ → List ℕ → Option ℕ
number_of least xs = cond (spelt least xs) (Some (value_of least xs)) None

-- bytes spell a number that a record has room for
abbrev pub storable : ℕ → List ℕ → Bool
storable least xs = spelt least xs && ltb (value_of least xs) (2 ^ 32)

-- ---- a trade, 33 bytes wherever it stands: control, price, size, condition

abbrev pub price_at : List ℕ → ℕ → List ℕ
price_at m at = part m (at + 10) 10

abbrev pub size_at : List ℕ → ℕ → List ℕ
size_at m at = part m (at + 20) 9

-- the bytes of a record that it fills
unfoldable pub sale_moved : List ℕ → ℕ → List ℕ
sale_moved m at = part m at 10 ++ (digits 4 (value_of 4 (price_at m at)) ++ (digits 4 (value_of 1 (size_at m at)) ++ part m (at + 29) 4))

-- whether its numbers can be stored, behind another test
unfoldable pub sale_ready : Bool → List ℕ → ℕ → Bool
sale_ready held m at = held && storable 4 (price_at m at) && storable 1 (size_at m at)

-- ---- a message, put into eighty bytes

-- the letter and the time, which stand alike in every type
abbrev pub head_moved : List ℕ → List ℕ → List ℕ
head_moved b m = sets (set b 0 (get_or m 8 0)) 1 (digits 4 (value_of 1 (part m 0 8)))

abbrev pub head_ready : List ℕ → Bool
head_ready m = storable 1 (part m 0 8)

-- T, and a C up to its new trade
abbrev pub trade_moved : List ℕ → List ℕ → List ℕ
trade_moved b m = sets (sets (head_moved b m) 6 (part m 9 10)) 16 (sale_moved m 19)

abbrev pub trade_ready : List ℕ → Bool
trade_ready m = sale_ready (head_ready m) m 19
