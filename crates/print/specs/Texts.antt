-- The lines of the printed wall as bytes: 32 is the space, 10 ends a line.
-- Assumes nothing.
use Rattle.std.specs.Prelude.{ℕ, ◌-◌, ◌≡◌, List, [], ◌∷◌, ◌++◌, true, cond, eqb, None, Option, Some, ℤ}
use Rattle.octets.specs.Run.{all}
use Rattle.decimal.specs.Letters.{letters}
use Rattle.decimal.specs.Decimal.{decimal}
use Rattle.decimal.specs.Amount.{amount_text, signed_text}
use Rattle.show.specs.declared.RowShown.{RowShown}

-- ---- figures

abbrev pub absent_text : List ℕ
absent_text = letters "-"

abbrev pub price_text : Option ℕ → List ℕ
price_text None = absent_text
price_text (Some p) = amount_text p

abbrev pub net_text : Option ℤ → List ℕ
net_text None = absent_text
net_text (Some z) = signed_text z

abbrev pub count_text : ℕ → List ℕ
count_text n = decimal n

abbrev pub reported_text : Option ℕ → List ℕ
reported_text None = absent_text
reported_text (Some v) = count_text v

-- ---- a symbol without the spaces at its end

-- a byte before what is kept of those behind it: a space is kept only where something else follows
abbrev pub kept : ℕ → List ℕ → List ℕ
kept x [] = cond (eqb x 32) [] (x ∷ [])
kept x (y ∷ ys) = x ∷ y ∷ ys

abbrev pub symbol_text : List ℕ → List ℕ
symbol_text [] = []
symbol_text (x ∷ xs) = kept x (symbol_text xs)

-- the same, said apart: nothing but spaces is left out at the end, and what is left does not end in a space
pub record Unpadded (xs ys : List ℕ) : Type 0 where
  pub spaces : List ℕ
  pub whole : xs ≡ ys ++ spaces
  pub blank : all 32 spaces ≡ true
  pub bare : (zs : List ℕ) → ys ≡ zs ++ (32 ∷ []) → ⊥

-- ---- lines

-- words with one space between each two
abbrev pub spaced : List ℕ → List (List ℕ) → List ℕ
spaced w [] = w
spaced w (v ∷ vs) = w ++ (32 ∷ spaced v vs)

-- a first word and more, as a line
abbrev pub line : List ℕ → List (List ℕ) → List ℕ
line w ws = spaced w ws ++ (10 ∷ [])

unfoldable pub header_text : List ℕ
header_text =
    line (letters "SYMBOL")
    (letters "LAST"
    ∷ letters "HIGH"
    ∷ letters "LOW"
    ∷ letters "NET"
    ∷ letters "VOLUME"
    ∷ letters "TRADES"
    ∷ letters "CONSOL"
    ∷ [])

-- symbol, last, high, low, net, volume, count, reported consolidated volume
unfoldable pub row_text : RowShown → List ℕ
row_text w =
    line (symbol_text w.symbol)
    (price_text w.last
    ∷ price_text w.high
    ∷ price_text w.low
    ∷ net_text w.net
    ∷ count_text w.volume
    ∷ count_text w.count
    ∷ reported_text w.reported
    ∷ [])

-- refused is wanted less one less taken, and 0 where that is nothing
unfoldable pub closing_text : ℕ → ℕ → List ℕ
closing_text taken wanted =
    line (letters "TAKEN")
    (count_text taken
    ∷ letters "REFUSED"
    ∷ count_text (wanted - 1 - taken)
    ∷ letters "WANTED"
    ∷ count_text wanted
    ∷ [])

unfoldable pub stop_text : ℕ → List ℕ
stop_text offset = line (letters "TAPE") (letters "STOPS" ∷ letters "AT" ∷ count_text offset ∷ [])
