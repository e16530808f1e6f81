-- A row's cell: how long it is, how many a room has at most, and where each field stands in it.
-- Assumes nothing.
use Rattle.std.specs.Prelude.{ℕ}

abbrev pub row_cell : ℕ
row_cell = 30

abbrev pub row_cap : ℕ
row_cap = 256

-- the symbol stands first, eight bytes; then the close, four
abbrev pub at_close : ℕ
at_close = 8

-- the mark of a J, its high and its low, four bytes each
abbrev pub at_summary : ℕ
at_summary = 12

abbrev pub at_high : ℕ
at_high = 13

abbrev pub at_low : ℕ
at_low = 17

-- the mark of a reported volume, and the volume, eight bytes
abbrev pub at_reported : ℕ
at_reported = 21

abbrev pub at_volume : ℕ
at_volume = 22
