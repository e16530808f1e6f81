-- What is stored of a record in pieces, as the code stores it: numbers in digits, and trades.
-- Assumes nothing.
use Rattle.std.specs.Prelude.{ℕ, zero, suc, ◌+◌, ◌/◌, List, ◌++◌, cond, eqb, get_or, set}
use Rattle.std.proofs.lemmas.List.Edits.{sets}
use Rattle.octets.specs.Run.{part}
use Rattle.numbers.specs.Number.{be}
use Rattle.decimal.specs.Decimal.{digit_count}
use Rattle.digits.specs.Field.{shown_in}

-- what is left of a number without its n lowest digits
unfoldable pub higher : ℕ → ℕ → ℕ
higher zero x = x
higher (suc n) x = higher n (x / 10)

-- how many digits are due of what is left of a number: all that it has, and of 0 none
unfoldable pub due : ℕ → ℕ
due x = cond (eqb x 0) 0 (digit_count x)

-- the bytes of a message that a record's trade fills, 33 wherever it stands: control, price, size, condition
unfoldable pub sale_shown : List ℕ → ℕ → List ℕ
sale_shown b at =
    part b at 10 ++ (shown_in 10 4 (be (part b (at + 10) 4)) ++ (shown_in 9 1 (be (part b (at + 14) 4)) ++ part b (at + 18) 4))

-- ---- a message, put into bytes

-- the time and the letter, which stand alike in every type
abbrev pub head_stored : List ℕ → List ℕ → List ℕ
head_stored out b = set (sets out 0 (shown_in 8 1 (be (part b 1 4)))) 8 (get_or b 0 0)

-- T, and a C up to its new trade
abbrev pub trade_stored : List ℕ → List ℕ → List ℕ
trade_stored out b = sets (sets (head_stored out b) 9 (part b 6 10)) 19 (sale_shown b 16)
