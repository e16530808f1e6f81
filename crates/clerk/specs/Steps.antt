-- The book as lists, and what one call does to it. `book_of` is what a state comes to.
-- Assumes nothing.
use Rattle.std.specs.Prelude.{ℕ, ◌+◌, List, [], ◌∷◌, ◌++◌, cond, eqb, get_or, set, None, Option, Some}
use Rattle.answers.specs.Cases.{given}
use Rattle.editions.specs.declared.Edition.{Edition}
use Rattle.editions.specs.Editions.{reports}
use Rattle.message.specs.Reader.{read_of}
use Rattle.records.specs.declared.Record.{Record}
use Rattle.kinds.specs.declared.Kind.{Kind}
use Rattle.kinds.specs.Kinds.{is_correction, is_summary, names_old, makes_new, sets_volume}
use Rattle.lines.specs.declared.Line.{Line}
use Rattle.lines.specs.Lines.{line_with, no_line}
use Rattle.lines.specs.Changed.{dead}
use Rattle.rows.specs.declared.Listing.{Listing}
use Rattle.rows.specs.declared.Row.{Row}
use Rattle.rows.specs.Rows.{no_row, sheet_in, listing_of}
use Rattle.rows.specs.Changed.{listed_row, reporting, summarised}
use Rattle.phases.specs.Phases.{phase_of}
use Rattle.keys.specs.Keys.{kind_in, old_key}
use Rattle.table.specs.Table.{Basis, searched, number_table, content_table}
use Rattle.take.specs.Taking.{made_line, corrected_line}
use Rattle.book.specs.State.{State, Arrival, edition_of, rows_in, lines_in}
use Rattle.book.specs.Calls.{list_table}
use Rattle.clerk.specs.Messages.{event_in, makes_in}

-- the edition, rows and used lines in the order added, the wanted number, the phase, and the counts: rows used, lines used, messages taken
pub record Book : Type 0 where
  pub edition : Edition
  pub wanted : ℕ
  pub phase : ℕ
  pub rows : List Row
  pub lines : List Line
  pub listed : ℕ
  pub used : ℕ
  pub taken : ℕ

unfoldable pub book_of : State → Book
book_of s =
    record {
      edition = edition_of s;
      wanted = s.counters.wanted;
      phase = s.counters.phase;
      rows = rows_in s;
      lines = lines_in s;
      listed = s.counters.rows;
      used = s.counters.lines;
      taken = s.counters.taken;
    }

-- ---- what a taken message does

-- the line that was found
abbrev pub line_found : List Line → Option ℕ → Line
line_found ls None = no_line
line_found ls (Some i) = get_or ls i no_line

abbrev pub kill_found : List Line → Option ℕ → List Line
kill_found ls None = ls
kill_found ls (Some i) = set ls i (dead (get_or ls i no_line))

-- the lines after message n of a type
unfoldable pub lines_for : Kind → ℕ → Record → List Line → List Line
lines_for kind n r ls =
    -- C names an original and makes a new line
    cond (is_correction kind)
    (kill_found ls (line_with (old_key r) ls) ++ (corrected_line (line_found ls (line_with (old_key r) ls)) r ∷ []))
    -- X makes the named line dead
    (cond (names_old kind) (kill_found ls (line_with (old_key r) ls))
    -- T adds a live line
    (cond (makes_new kind) (ls ++ (made_line n r ∷ [])) ls))

-- what T, X, C and J leave in the row of their symbol
abbrev pub keeping : Record → Row → Row
keeping r w = reporting r.consolidated w

-- and J besides
abbrev pub summing : Record → Row → Row
summing r w = keeping r (summarised r.high r.low w)

-- the row that was found changed
abbrev pub change_found : (Row → Row) → List Row → Option ℕ → List Row
change_found change rs None = rs
change_found change rs (Some i) = set rs i (change (get_or rs i no_row))

-- the first row of the message's symbol changed
abbrev pub in_its_row : (Row → Row) → Record → List Row → List Row
in_its_row change r rs = change_found change rs (listing_of r.symbol (sheet_in rs))

-- the rows after a message of a type; where the edition's messages report no consolidated volume, they stay
unfoldable pub rows_for : Edition → Kind → Record → List Row → List Row
rows_for ed kind r rs =
    cond (reports ed)
    -- J
    (cond (is_summary kind) (in_its_row (summing r) r rs)
    -- T, X and C
    (cond (sets_volume kind) (in_its_row (keeping r) r rs) rs))
    rs

unfoldable pub taken_into : Record → Book → Book
taken_into r b =
    record {
      edition = b.edition;
      wanted = b.wanted + 1;
      phase = cond (event_in r) (phase_of r.event) b.phase;
      rows = rows_for b.edition (kind_in r) r b.rows;
      lines = lines_for (kind_in r) b.wanted r b.lines;
      listed = b.listed;
      used = cond (makes_in r) (b.used + 1) b.used;
      taken = b.taken + 1;
    }

-- ---- what a call does

-- used up: the wanted number up by one, all else equal
unfoldable pub using_up : Book → Book
using_up b =
    record {
      edition = b.edition;
      wanted = b.wanted + 1;
      phase = b.phase;
      rows = b.rows;
      lines = b.lines;
      listed = b.listed;
      used = b.used;
      taken = b.taken;
    }

-- what the table is worked from; `limit` is how many lines the room has
abbrev pub basis_by : ℕ → Book → Basis
basis_by limit b = record { phase = b.phase; sheet = sheet_in b.rows; ledger = searched b.lines limit }

-- 4 to 12 or 0
unfoldable pub content : ℕ → Book → List ℕ → ℕ
content limit b m = (given (content_table (basis_by limit b) (read_of b.edition m))).number

-- the wanted message: taken, or its number used up
unfoldable pub wanted_done : ℕ → Book → List ℕ → Book
wanted_done limit b m = cond (eqb (content limit b m) 0) (taken_into (read_of b.edition m).found b) (using_up b)

-- a message under any number
unfoldable pub next : ℕ → Book → Arrival → Book
next limit b a = cond (eqb (given (number_table b.wanted a.number)).number 0) (wanted_done limit b a.message) b

-- the answer to a listing; `limit` is how many rows the room has
abbrev pub list_answer_by : ℕ → Book → Listing → ℕ
list_answer_by limit b l = (given (list_table b.wanted (sheet_in b.rows) limit l)).number

unfoldable pub listing : ℕ → Book → Listing → Book
listing limit b l =
    cond (eqb (list_answer_by limit b l) 0)
    (record {
      edition = b.edition;
      wanted = b.wanted;
      phase = b.phase;
      rows = b.rows ++ (listed_row l ∷ []);
      lines = b.lines;
      listed = b.listed + 1;
      used = b.used;
      taken = b.taken;
    })
    b
