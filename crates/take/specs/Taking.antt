-- What a message does to each lent byte when it is taken.
-- Assumes nothing.
use Rattle.std.specs.Prelude.{ℕ, List, true, cond, None, Option, Some}
use Rattle.records.specs.declared.Record.{Record}
use Rattle.lines.specs.declared.Line.{Line}
use Rattle.lines.specs.Lines.{line_in, with_line, with_dead}
use Rattle.rows.specs.Rows.{with_report, with_summary}
use Rattle.editions.specs.declared.Edition.{Edition}
use Rattle.editions.specs.Editions.{reports}
use Rattle.kinds.specs.declared.Kind.{Kind}
use Rattle.kinds.specs.declared.Kind.TheVariants.{Correction}
use Rattle.kinds.specs.Kinds.{is_correction, is_summary, names_old, makes_new, sets_volume}
use Rattle.keys.specs.Keys.{old_key, new_key}

-- ---- lines

-- T's line: its place is its message number
abbrev pub made_line : ℕ → Record → Line
made_line n r =
    record {
      key = old_key r;
      symbol = r.symbol;
      price = r.sale.price;
      size = r.sale.size;
      condition = r.sale.condition;
      place = n;
      time = r.time;
      live = true;
    }

-- C's line: the new control, price, size and condition, and the OLD line's place and time
abbrev pub corrected_line : Line → Record → Line
corrected_line old r =
    record {
      key = new_key Correction r;
      symbol = r.symbol;
      price = r.new.price;
      size = r.new.size;
      condition = r.new.condition;
      place = old.place;
      time = old.time;
      live = true;
    }

-- C makes the named line dead and adds a live one
abbrev pub corrected : List ℕ → ℕ → Record → ℕ → List ℕ
corrected m used r k = with_line (with_dead m k) used (corrected_line (line_in m k) r)

-- the lent lines after message n of a type; line k is the one that X and C name
unfoldable pub lines_by : Kind → List ℕ → ℕ → ℕ → Record → ℕ → List ℕ
lines_by kind m used n r k =
    -- C names an original and makes a new line
    cond (is_correction kind) (corrected m used r k)
    -- X makes the named line dead
    (cond (names_old kind) (with_dead m k)
    -- T adds a live line
    (cond (makes_new kind) (with_line m used (made_line n r)) m))

-- ---- rows

-- T, X, C and J set the reported volume, where the edition reports one
abbrev pub reported : List ℕ → Record → ℕ → List ℕ
reported m r i = with_report m i r.consolidated

-- J sets it too, and keeps its high and low in the row
abbrev pub summed : List ℕ → Record → ℕ → List ℕ
summed m r i = reported (with_summary m i r.high r.low) r i

-- the lent rows after a message of a type that reports; row i is the first of its symbol
unfoldable pub reported_by : Kind → List ℕ → Record → ℕ → List ℕ
reported_by kind m r i =
    -- J
    cond (is_summary kind) (summed m r i)
    -- T, X and C
    (cond (sets_volume kind) (reported m r i) m)

-- and after a message of an edition: where its messages report no consolidated volume, the rows stay as they are
unfoldable pub rows_by : Edition → Kind → List ℕ → Record → ℕ → List ℕ
rows_by e kind m r i = cond (reports e) (reported_by kind m r i) m

-- the number of the cell where a search ended; 0 where nothing was found, which no taken message asks for
abbrev pub index_of : Option ℕ → ℕ
index_of None = 0
index_of (Some i) = i
