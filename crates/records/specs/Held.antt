-- A record as the values of its fields, and what a table says of records: to read one, to write one, to be lawful. And the same of a type
-- that may have no table.
-- Assumes nothing.
use Rattle.std.specs.Prelude.{ℕ, List, [], Bool, true}
use Rattle.std.proofs.Math.Option.{Option, none, some}
use Rattle.layout.specs.Values.{Field, letter, time, event, centre, symbol, class, control, price, size, condition, new_control}
use Rattle.layout.specs.Values.{new_price, new_size, new_condition, high, low, close, consolidated, Value, number, text, Values}
use Rattle.layout.specs.Tables.{Layout, look, written, lawful_by, kept_by, ready_by}
use Rattle.records.specs.declared.Sale.{Sale}
use Rattle.records.specs.declared.Record.{Record}
use Rattle.records.specs.Zeros.{no_record}

-- what a record holds in a field
unfoldable pub holds : Record → Field → Value
holds r letter = number r.letter
holds r time = number r.time
holds r event = number r.event
holds r centre = number r.centre
holds r symbol = text r.symbol
holds r class = number r.class
holds r control = text r.sale.control
holds r price = number r.sale.price
holds r size = number r.sale.size
holds r condition = text r.sale.condition
holds r new_control = text r.new.control
holds r new_price = number r.new.price
holds r new_size = number r.new.size
holds r new_condition = text r.new.condition
holds r high = number r.high
holds r low = number r.low
holds r close = number r.close
holds r consolidated = number r.consolidated

-- ---- and back

abbrev pub number_in : Value → ℕ
number_in (number x) = x
number_in (text xs) = 0

abbrev pub text_in : Value → List ℕ
text_in (number x) = []
text_in (text xs) = xs

unfoldable pub sale_from : Values → Sale
sale_from v =
    record {
      control = text_in (v control);
      price = number_in (v price);
      size = number_in (v size);
      condition = text_in (v condition);
    }

unfoldable pub new_from : Values → Sale
new_from v =
    record {
      control = text_in (v new_control);
      price = number_in (v new_price);
      size = number_in (v new_size);
      condition = text_in (v new_condition);
    }

unfoldable pub record_from : Values → Record
record_from v =
    record {
      letter = number_in (v letter);
      time = number_in (v time);
      event = number_in (v event);
      centre = number_in (v centre);
      symbol = text_in (v symbol);
      class = number_in (v class);
      sale = sale_from v;
      new = new_from v;
      high = number_in (v high);
      low = number_in (v low);
      close = number_in (v close);
      consolidated = number_in (v consolidated);
    }

-- ---- by a table

-- the record that a message fills: each field of the layout with what stands at its place, every other with zero
unfoldable pub read_by : Layout → List ℕ → Record
read_by l m = record_from (look l.entries m)

-- the message of a record
unfoldable pub write_by : Layout → Record → List ℕ
write_by l r = written l.entries (holds r)

-- the record keeps the rules of the fields that the layout has
abbrev pub kept : Layout → Record → Bool
kept l r = kept_by l (holds r)

-- and has nothing in the others
abbrev pub lawful : Layout → Record → Bool
lawful l r = lawful_by l (holds r)

-- ---- by the table of a type, where it has one

-- the length of its messages; 0 of what is no type
abbrev pub size_in : Option Layout → ℕ
size_in none = 0
size_in (some l) = l.size

-- the record that a message fills
abbrev pub filled_in : Option Layout → List ℕ → Record
filled_in none m = no_record
filled_in (some l) m = read_by l m

-- whether each of its fields can be stored
abbrev pub ready_in : Option Layout → List ℕ → Bool
ready_in none m = true
ready_in (some l) m = ready_by l m

-- the message of a record
abbrev pub bytes_in : Option Layout → Record → List ℕ
bytes_in none r = []
bytes_in (some l) r = write_by l r
