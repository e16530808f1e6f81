-- What is written of a number, of a text in quotes and of bytes.
-- Assumes nothing.
use Rattle.std.specs.Prelude.{ℕ, Bool, true, false, List, [], ◌∷◌, ◌++◌, ◌==◌, ◌/◌, ◌%◌}
use Rattle.std.specs.List.{flat_map}
use Rattle.std.specs.Fmt.{decimal, digit_glyph}

-- a mark before a number, which is none if it is a blank
abbrev pub mark_unless : Bool → ℕ → List ℕ
mark_unless true m = []
mark_unless false m = m ∷ []

-- a blank and a number, behind a mark
abbrev pub marked : ℕ → ℕ → List ℕ
marked m x = mark_unless (m == 32) m ++ (32 ∷ decimal x)

-- one byte of a text in quotes: the zero byte is a backslash and the digit 0
abbrev pub glyph_if : Bool → ℕ → List ℕ
glyph_if true x = 92 ∷ 48 ∷ []
glyph_if false x = x ∷ []

abbrev pub glyph : ℕ → List ℕ
glyph x = glyph_if (x == 0) x

-- a text in quotes; no other byte is changed, so that two texts can look alike
abbrev pub quoted : List ℕ → List ℕ
quoted xs = (34 ∷ []) ++ (flat_map glyph xs ++ (34 ∷ []))

-- a byte by its two digits of base 16, a to f small, and bytes so, one behind the other
abbrev pub hex_byte : ℕ → List ℕ
hex_byte x = digit_glyph false (x / 16) ∷ digit_glyph false (x % 16) ∷ []

abbrev pub hex_bytes : List ℕ → List ℕ
hex_bytes xs = flat_map hex_byte xs
