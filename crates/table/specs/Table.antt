-- The answers of a message, a case for each number of document 01's table, in its order. They are worked over the phase, the sheet, the
-- lines so far and the room, so that whoever knows these can work them. 17 goes before them (`in_book`); 18 is the writer's. 6 to 12 ask
-- what was read, which under 4 and 5 is a record of zeros, and then 4 or 5 is given anyway.
-- Assumes nothing.
use Rattle.std.specs.Prelude.{ℕ, List, [], ◌∷◌, Bool, true, false, not, ◌&&◌, ◌||◌, eqb, ltb, leb, length, get_or, None, Option, Some}
use Rattle.answers.specs.Answers.{number_of}
use Rattle.answers.specs.Cases.{Case, says, spends}
use Rattle.records.specs.declared.Record.{Record}
use Rattle.message.specs.Reader.{Reading}
use Rattle.kinds.specs.Kinds.{is_event, names_old, makes_new}
use Rattle.lines.specs.declared.Line.{Line}
use Rattle.lines.specs.Lines.{line_limit, used_lines, line_with, no_line}
use Rattle.rows.specs.declared.Listing.{Listing}
use Rattle.rows.specs.Rows.{used_sheet, listing_of}
use Rattle.phases.specs.Phases.{due}
use Rattle.counters.specs.Counting.{last_number}
use Rattle.keys.specs.Keys.{kind_in, old_key, new_key, matches}

-- ---- what the table is worked from

-- the trades so far: the lines in the order added, how many there may be, and the search for a key
pub record Ledger : Type 0 where
  pub lines : List Line
  pub limit : ℕ
  pub search : List ℕ → Option ℕ

-- the phase, the sheet of the day, the trades so far
pub record Basis : Type 0 where
  pub phase : ℕ
  pub sheet : List Listing
  pub ledger : Ledger

-- lines that are searched in the order added, up to the first that bears the key
abbrev pub searched : List Line → ℕ → Ledger
searched ls limit = record { lines = ls; limit = limit; search = λ (key : List ℕ). line_with key ls }

-- of lent rooms of which so many lines, and so many rows, are in use
abbrev pub ledger_in : List ℕ → ℕ → Ledger
ledger_in lines used = searched (used_lines lines used) (line_limit (length lines))

abbrev pub basis_in : ℕ → List ℕ → ℕ → List ℕ → ℕ → Basis
basis_in phase rows listed lines used = record { phase = phase; sheet = used_sheet rows listed; ledger = ledger_in lines used }

-- ---- what is asked of lines and listings

abbrev pub is_found : Option ℕ → Bool
is_found None = false
is_found (Some i) = true

-- the line that was found is there and is dead
abbrev pub dead_at : List Line → Option ℕ → Bool
dead_at ls None = false
dead_at ls (Some i) = not (get_or ls i no_line).live

-- it is there and is another trade than the one named
abbrev pub differs_at : Record → List Line → Option ℕ → Bool
differs_at r ls None = false
differs_at r ls (Some i) = not (matches r (get_or ls i no_line))

-- a listing of the symbol is on the sheet
abbrev pub is_listed : List ℕ → List Listing → Bool
is_listed symbol sheet = is_found (listing_of symbol sheet)

-- ---- the table

-- number is 0 or above 4,294,967,295; below the wanted one; above the wanted one
unfoldable pub number_table : ℕ → ℕ → List Case
number_table wanted n =
    says 1 (eqb n 0 || ltb last_number n)
    ∷ says 2 (ltb n wanted)
    ∷ says 3 (ltb wanted n)
    ∷ []

unfoldable pub content_table : Basis → Reading → List Case
content_table b q =
    let r = q.found in
    let kind = kind_in r in
    let lines = b.ledger.lines in
    let named = b.ledger.search (old_key r) in
    -- no such type, or not its length
    spends 4 (eqb (number_of q.answer) 4)
    -- a field breaks its rule
    ∷ spends 5 (eqb (number_of q.answer) 5)
    -- event or message not due in this phase
    ∷ spends 6 (not (due b.phase kind r.event))
    -- symbol not listed
    ∷ spends 7 (not (is_event kind) && not (is_listed r.symbol b.sheet))
    -- X, C: no line bears the original's key
    ∷ spends 8 (names_old kind && not (is_found named))
    -- X, C: that line is dead
    ∷ spends 9 (names_old kind && dead_at lines named)
    -- X, C: symbol, price, size or condition differs from the line
    ∷ spends 10 (names_old kind && differs_at r lines named)
    -- T, C: the new key is on a line already
    ∷ spends 11 (makes_new kind && is_found (b.ledger.search (new_key kind r)))
    -- T, C: every line is used
    ∷ spends 12 (makes_new kind && leb b.ledger.limit (length lines))
    ∷ []
