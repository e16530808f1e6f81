-- A line's cell: how long it is, how many a room has at most, and where each field stands in it.
-- Assumes nothing.
use Rattle.std.specs.Prelude.{ℕ}

abbrev pub line_cell : ℕ
line_cell = 40

abbrev pub line_cap : ℕ
line_cap = 65536

-- the key stands first: the centre, one byte, and the control, ten
abbrev pub key_length : ℕ
key_length = 11

-- the symbol, eight bytes
abbrev pub at_symbol : ℕ
at_symbol = 11

-- price, size, condition, place and time, four bytes each
abbrev pub at_price : ℕ
at_price = 19

abbrev pub at_size : ℕ
at_size = 23

abbrev pub at_condition : ℕ
at_condition = 27

abbrev pub at_place : ℕ
at_place = 31

abbrev pub at_time : ℕ
at_time = 35

-- the live mark
abbrev pub at_live : ℕ
at_live = 39
