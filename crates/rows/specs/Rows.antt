-- Rows in lent bytes: a cell for each listed symbol, one behind the other, numbers big-endian. It keeps the listing, what the latest J
-- said and the volume that was reported last. Whatever stands in a cell is a row.
-- Assumes nothing.
use Rattle.std.specs.Prelude.{ℕ, ◌+◌, ◌-◌, ◌*◌, ◌/◌, min, List, ◌∷◌, ◌++◌, map, Bool, cond, length, get_or, replicate, eqb, ltb, None, Option, Some}
use Rattle.std.proofs.lemmas.List.Edits.{sets}
use Rattle.octets.specs.Run.{tab, part, same}
use Rattle.numbers.specs.Number.{be, digits}
use Rattle.rows.specs.Cell.{row_cell, row_cap, at_close, at_summary, at_high, at_low, at_reported, at_volume}
use Rattle.rows.specs.declared.Listing.{Listing}
use Rattle.rows.specs.declared.Row.{Row}
use Rattle.cells.specs.Search.{first}
use Rattle.rows.specs.declared.HighLow.{HighLow}

-- ---- a cell

-- a high and a low
abbrev pub high_low : ℕ → ℕ → HighLow
high_low high low = record { high = high; low = low }

-- a J mark other than taken, which is 1, is absent
unfoldable pub summary_at : List ℕ → ℕ → Option HighLow
summary_at m at =
    cond (eqb (get_or m (at + at_summary) 0) 1) (Some (high_low (be (part m (at + at_high) 4)) (be (part m (at + at_low) 4)))) None

-- a reported mark other than set, which is 1, is absent
unfoldable pub reported_at : List ℕ → ℕ → Option ℕ
reported_at m at = cond (eqb (get_or m (at + at_reported) 0) 1) (Some (be (part m (at + at_volume) 8))) None

unfoldable pub listing_from : List ℕ → ℕ → Listing
listing_from m at = record { symbol = part m at 8; close = be (part m (at + at_close) 4) }

unfoldable pub row_from : List ℕ → ℕ → Row
row_from m at = record { listing = listing_from m at; summary = summary_at m at; reported = reported_at m at }

-- a new row's cell: no J, nothing reported
unfoldable pub new_row : Listing → List ℕ
new_row l = l.symbol ++ (digits 4 l.close ++ replicate (row_cell - at_summary) 0)

-- a reported volume with its mark
unfoldable pub report_bytes : ℕ → List ℕ
report_bytes volume = 1 ∷ digits 8 volume

-- a J with its mark
unfoldable pub summary_bytes : ℕ → ℕ → List ℕ
summary_bytes high low = 1 ∷ (digits 4 high ++ digits 4 low)

-- ---- a room of rows

abbrev pub row_at : List ℕ → ℕ → Row
row_at m i = row_from m (i * row_cell)

-- at most 256 rows; less room lowers the limit
abbrev pub row_limit : ℕ → ℕ
row_limit room = min row_cap (room / row_cell)

-- the used rows, in the order listed; a count above the limit is cut off there
unfoldable pub used_rows : List ℕ → ℕ → List Row
used_rows m used = tab (row_at m) 0 (min used (row_limit (length m)))

-- ---- the sheet of the day: the listings of the used rows

abbrev pub sheet_in : List Row → List Listing
sheet_in rs = map (λ (r : Row). r.listing) rs

abbrev pub used_sheet : List ℕ → ℕ → List Listing
used_sheet m used = sheet_in (used_rows m used)

abbrev pub is_of : List ℕ → Listing → Bool
is_of symbol l = same l.symbol symbol

-- the first listing of a symbol on a sheet
abbrev pub listing_of : List ℕ → List Listing → Option ℕ
listing_of symbol sheet = first (is_of symbol) sheet 0

-- ---- a row of the room

-- what is read where the room has no such row
abbrev pub no_row : Row
no_row = record { listing = record { symbol = replicate 8 0; close = 0 }; summary = None; reported = None }

-- row i of the room
unfoldable pub row_in : List ℕ → ℕ → Row
row_in m i = cond (ltb i (row_limit (length m))) (row_at m i) no_row

-- ---- a room changed: bytes stored from an offset of row i on; no cell, no change

unfoldable pub in_row : List ℕ → ℕ → ℕ → List ℕ → List ℕ
in_row m i from bytes = cond (ltb i (row_limit (length m))) (sets m (i * row_cell + from) bytes) m

abbrev pub with_row : List ℕ → ℕ → Listing → List ℕ
with_row m i l = in_row m i 0 (new_row l)

abbrev pub with_report : List ℕ → ℕ → ℕ → List ℕ
with_report m i volume = in_row m i at_reported (report_bytes volume)

abbrev pub with_summary : List ℕ → ℕ → ℕ → ℕ → List ℕ
with_summary m i high low = in_row m i at_summary (summary_bytes high low)
