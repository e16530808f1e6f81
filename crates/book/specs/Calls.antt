-- The promise of each call, for every state that is lent, every listing, arrival and symbol.
-- Assumes nothing.
use Rattle.std.specs.Prelude.{ℕ, List, [], ◌∷◌, ◌++◌, cond, not, ◌||◌, eqb, ltb, leb, length, Result, Ok, Err}
use Rattle.texts.specs.Text.{text}
use Rattle.answers.specs.declared.Refusal.{Refusal}
use Rattle.answers.specs.Answers.{Answer, answer_of}
use Rattle.answers.specs.Cases.{Case, says, given, in_book}
use Rattle.records.specs.declared.Record.{Record}
use Rattle.message.specs.Reader.{Reading, read_of}
use Rattle.lines.specs.Lines.{line_with}
use Rattle.rules.specs.Rules.{price_top}
use Rattle.rows.specs.declared.Listing.{Listing}
use Rattle.rows.specs.Rows.{row_limit, listing_of, row_in, with_row}
use Rattle.walk.specs.Walking.{figures_of}
use Rattle.counters.specs.Counting.{used_up, one_row_more, taken_by}
use Rattle.keys.specs.Keys.{kind_in, old_key}
use Rattle.table.specs.Table.{is_listed, number_table, content_table}
use Rattle.take.specs.Taking.{lines_by, rows_by, index_of}
use Rattle.show.specs.Showing.{shown_of, nothing_shown}
use Rattle.show.specs.declared.RowShown.{RowShown}
use Rattle.book.specs.declared.Said.{Said}
use Rattle.counters.specs.declared.Counters.{Counters}
use Rattle.book.specs.State.{State, with_counters, with_rows, with_lines, Outcome, Arrival, edition_of, wanted_in, sheet_of, lines_in}
use Rattle.book.specs.State.{basis_of, sound_in}

-- ---- listing

-- the highest close is the highest price
abbrev pub close_top : ℕ
close_top = price_top

-- worked from the wanted number, the sheet so far, how many rows there may be, and the listing
unfoldable pub list_table : ℕ → List Listing → ℕ → Listing → List Case
list_table wanted sheet limit l =
    -- symbol or close breaks its rule
    says 13 (not (text l.symbol) || ltb close_top l.close)
    -- a number was used up already
    ∷ says 14 (not (eqb wanted 1))
    -- symbol listed already
    ∷ says 15 (is_listed l.symbol sheet)
    -- every row is used
    ∷ says 16 (leb limit (length sheet))
    ∷ []

abbrev pub list_cases : State → Listing → List Case
list_cases s l = in_book (sound_in s) (list_table (wanted_in s) (sheet_of s) (row_limit (length s.rows)) l)

unfoldable pub list_answer : State → Listing → ℕ
list_answer s l = (given (list_cases s l)).number

-- done: a row added at the end
abbrev pub with_listing : State → Listing → State
with_listing s l = with_counters (one_row_more s.counters) (with_rows (with_row s.rows s.counters.rows l) s)

unfoldable pub listed : State → Listing → Outcome
listed s l = record { answer = list_answer s l; state = cond (eqb (list_answer s l) 0) (with_listing s l) s }

-- ---- delivering

-- 17, 1, 2, 3, or 0 for the wanted number
abbrev pub number_cases : State → ℕ → List Case
number_cases s n = in_book (sound_in s) (number_table (wanted_in s) n)

-- what a book reads a message as: by the edition that it was started for
abbrev pub reading_in : State → List ℕ → Reading
reading_in s m = read_of (edition_of s) m

-- 4 to 12, of what is read
abbrev pub content_cases : State → Arrival → List Case
content_cases s a = content_table (basis_of s) (reading_in s a.message)

-- 17, then the number, then the content
abbrev pub message_cases : State → Arrival → List Case
message_cases s a = in_book (sound_in s) (number_table (wanted_in s) a.number ++ content_cases s a)

unfoldable pub message_given : State → Arrival → Case
message_given s a = given (message_cases s a)

-- which row is the first of a record's symbol, and which line the first that bears the key that it names
abbrev pub row_named : State → Record → ℕ
row_named s r = index_of (listing_of r.symbol (sheet_of s))

abbrev pub line_named : State → Record → ℕ
line_named s r = index_of (line_with (old_key r) (lines_in s))

-- done: the message acts on that row and that line, and is counted
abbrev pub taking : State → Record → State
taking s r =
    with_counters (taken_by (kind_in r) r.event s.counters)
    (with_rows (rows_by (edition_of s) (kind_in r) s.rows r (row_named s r))
    (with_lines (lines_by (kind_in r) s.lines s.counters.lines (wanted_in s) r (line_named s r)) s))

-- used up: the wanted number up by one, all else equal
abbrev pub spent : State → State
spent s = with_counters (used_up s.counters) s

-- what a message that bears the wanted number is told: the counters after it, or what refused it
abbrev pub used_told : Counters → Result Counters Refusal → Said
used_told c (Ok after) = record { answer = Ok tt; counters = after }
used_told c (Err refusal) = record { answer = Err refusal; counters = used_up c }

-- what a case of the table leaves: taken, or the number used up, or nothing
abbrev pub after : State → Record → Case → State
after s r g = cond (eqb g.number 0) (taking s r) (cond g.uses (spent s) s)

unfoldable pub delivered : State → Arrival → Outcome
delivered s a =
    let g = message_given s a in
    record { answer = g.number; state = after s (reading_in s a.message).found g }

-- ---- reading a row

abbrev pub row_table : List Listing → List ℕ → List Case
row_table sheet symbol =
    -- symbol not listed
    says 7 (not (is_listed symbol sheet)) ∷ []

abbrev pub row_cases : State → List ℕ → List Case
row_cases s symbol = in_book (sound_in s) (row_table (sheet_of s) symbol)

unfoldable pub row_answer : State → List ℕ → ℕ
row_answer s symbol = (given (row_cases s symbol)).number

abbrev pub row_found : State → List ℕ → ℕ
row_found s symbol = index_of (listing_of symbol (sheet_of s))

-- where the row is; 0, and unread, where it is refused
pub record Located : Type 0 where
  pub answer : Answer
  pub row : ℕ

abbrev pub place_told : Result ℕ Refusal → Located
place_told (Ok i) = record { answer = Ok tt; row = i }
place_told (Err refusal) = record { answer = Err refusal; row = 0 }

unfoldable pub located : State → List ℕ → Located
located s symbol = record { answer = answer_of (row_answer s symbol); row = cond (eqb (row_answer s symbol) 0) (row_found s symbol) 0 }

-- the row as it is read; zeros and absent figures where it is refused
pub record Shown : Type 0 where
  pub answer : Answer
  pub row : RowShown

abbrev pub row_told : Result RowShown Refusal → Shown
row_told (Ok row) = record { answer = Ok tt; row = row }
row_told (Err refusal) = record { answer = Err refusal; row = nothing_shown }

-- the first row of the symbol, with the figures of its live lines
unfoldable pub shown : State → List ℕ → Shown
shown s symbol =
    record {
      answer = answer_of (row_answer s symbol);
      row =
          cond (eqb (row_answer s symbol) 0) (shown_of (row_in s.rows (row_found s symbol)) (figures_of symbol (lines_in s))) nothing_shown;
    }
