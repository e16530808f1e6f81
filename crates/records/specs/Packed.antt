-- The eighty bytes of a record are a table too: every field of every type, at an offset of its own, with no rule. So a record is filled,
-- judged and stored, and so it travels to and from a program of another language.
-- Assumes nothing.
use Rattle.std.specs.Prelude.{ℕ, ◌+◌, List, [], ◌∷◌, ◌++◌, Bool, true}
use Rattle.numbers.specs.Number.{digits}
use Rattle.layout.specs.Values.{Field, letter, time, event, centre, symbol, class, control, price, size, condition, new_control}
use Rattle.layout.specs.Values.{new_price, new_size, new_condition, high, low, close, consolidated}
use Rattle.layout.specs.Forms.{any, byte, big, chars}
use Rattle.layout.specs.Tables.{Item, at, Layout, look}
use Rattle.records.specs.declared.Sale.{Sale}
use Rattle.records.specs.declared.Record.{Record}
use Rattle.records.specs.Held.{sale_from, read_by, write_by}

abbrev pub any_byte : ℕ → Bool
any_byte x = true

abbrev pub any_text : List ℕ → Bool
any_text xs = true

-- a trade, 22 bytes wherever it stands: control, price, size, condition, in the fields that are named
abbrev pub sale_slots : ℕ → Field → Field → Field → Field → List Item → List Item
sale_slots o c p s d rest =
    at c o 10 (chars any_text) ∷ at p (o + 10) 4 (big any) ∷ at s (o + 14) 4 (big any) ∷ at d (o + 18) 4 (chars any_text) ∷ rest

unfoldable pub slots : List Item
slots =
    at letter 0 1 (byte any_byte)
    ∷ at time 1 4 (big any)
    ∷ at event 5 1 (byte any_byte)
    ∷ at centre 6 1 (byte any_byte)
    ∷ at symbol 7 8 (chars any_text)
    ∷ at class 15 1 (byte any_byte)
    ∷ sale_slots 16 control price size condition
    (sale_slots 38 new_control new_price new_size new_condition
    (at high 60 4 (big any) ∷ at low 64 4 (big any) ∷ at close 68 4 (big any) ∷ at consolidated 72 8 (big any) ∷ []))

-- how many bytes a record is
abbrev pub record_length : ℕ
record_length = 80

unfoldable pub packed : Layout
packed = record { size = record_length; place = 0; entries = slots }

-- the record that eighty bytes are, and the bytes of a record
unfoldable pub record_of : List ℕ → Record
record_of b = read_by packed b

unfoldable pub record_bytes : Record → List ℕ
record_bytes r = write_by packed r

-- ---- in pieces, as the code reads and stores them

-- the trade that stands from a place on
unfoldable pub sale_at : List ℕ → ℕ → Sale
sale_at m o = sale_from (look (sale_slots o control price size condition []) m)

unfoldable pub sale_bytes : Sale → List ℕ
sale_bytes s = s.control ++ (digits 4 s.price ++ (digits 4 s.size ++ s.condition))

-- letter, time, event, centre, symbol, class
unfoldable pub front_bytes : Record → List ℕ
front_bytes r = r.letter ∷ (digits 4 r.time ++ (r.event ∷ r.centre ∷ (r.symbol ++ (r.class ∷ []))))

-- high, low, close, consolidated
unfoldable pub end_bytes : Record → List ℕ
end_bytes r = digits 4 r.high ++ (digits 4 r.low ++ (digits 4 r.close ++ digits 8 r.consolidated))
