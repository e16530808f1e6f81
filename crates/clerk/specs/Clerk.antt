-- The clerk. He works from the edition, the sheet, the room and the used messages alone, and reads no stored figure and no lent byte. A
-- list of used messages, and a list of taken ones, has the newest first.
-- Assumes nothing.
use Rattle.std.specs.Prelude.{ℕ, suc, List, [], ◌∷◌, ◌++◌, map, Bool, false, cond, not, ◌&&◌, ◌||◌, eqb, length, None, Option, Some}
use Rattle.octets.specs.Run.{same}
use Rattle.editions.specs.declared.Edition.{Edition}
use Rattle.editions.specs.Editions.{reports}
use Rattle.message.specs.Reader.{Reading, read_of}
use Rattle.records.specs.declared.Record.{Record}
use Rattle.lines.specs.declared.Line.{Line}
use Rattle.rows.specs.declared.Listing.{Listing}
use Rattle.rows.specs.declared.Row.{Row}
use Rattle.rows.specs.Rows.{high_low}
use Rattle.walk.specs.Walking.{figures_of}
use Rattle.phases.specs.Phases.{phase_of}
use Rattle.keys.specs.Keys.{old_key}
use Rattle.table.specs.Table.{Basis, searched, content_table}
use Rattle.book.specs.Calls.{list_table}
use Rattle.show.specs.declared.RowShown.{RowShown}
use Rattle.show.specs.Showing.{shown_of}
use Rattle.answers.specs.Cases.{given}
use Rattle.clerk.specs.Messages.{event_in, correction_in, summary_in, sets_in, names_in, makes_in, sale_in, key_in}
use Rattle.clerk.specs.Steps.{Book}
use Rattle.rows.specs.declared.HighLow.{HighLow}

-- ---- the sheet

-- a text is one of a list
abbrev pub is_in : List ℕ → List (List ℕ) → Bool
is_in x [] = false
is_in x (y ∷ ys) = same y x || is_in x ys

abbrev pub symbols_in : List Listing → List (List ℕ)
symbols_in sheet = map (λ (l : Listing). l.symbol) sheet

-- a listing is on the sheet if the table gives 0, worked from the listings before it, no number being used up yet; `limit` is how many
-- rows the room has
unfoldable pub sheet_from : ℕ → List Listing → List Listing → List Listing
sheet_from limit sheet [] = sheet
sheet_from limit sheet (l ∷ ls) =
    sheet_from limit (cond (eqb (given (list_table 1 sheet limit l)).number 0) (sheet ++ (l ∷ [])) sheet) ls

abbrev pub clerk_sheet : ℕ → List Listing → List Listing
clerk_sheet limit ls = sheet_from limit [] ls

-- ---- the taken messages

pub record Taken : Type 0 where
  pub number : ℕ
  pub message : Record

-- the last event taken
unfoldable pub phase_after : List Taken → ℕ
phase_after [] = 0
phase_after (e ∷ es) = cond (event_in e.message) (phase_of e.message.event) (phase_after es)

-- the place and time of a trade
pub record Origin : Type 0 where
  pub place : ℕ
  pub time : ℕ

-- by a trade's key: of a T its number and time; of a C those of the trade that it named, through any chain of corrections
unfoldable pub origin_of : List Taken → List ℕ → Origin
origin_of [] key = record { place = 0; time = 0 }
origin_of (e ∷ es) key =
    cond (makes_in e.message && same (key_in e.message) key)
    (cond (correction_in e.message) (origin_of es (old_key e.message)) (record { place = e.number; time = e.message.time }))
    (origin_of es key)

-- the key that an X or a C names
abbrev pub names : Record → List (List ℕ)
names r = cond (names_in r) (old_key r ∷ []) []

-- ---- the trades

-- a trade that a T or a C made; `later` are the keys that later taken X and C named
abbrev pub trade : Taken → Origin → List (List ℕ) → Line
trade e o later =
    record {
      key = key_in e.message;
      symbol = e.message.symbol;
      price = (sale_in e.message).price;
      size = (sale_in e.message).size;
      condition = (sale_in e.message).condition;
      place = o.place;
      time = o.time;
      live = not (is_in (key_in e.message) later);
    }

abbrev pub made : Taken → List Taken → List (List ℕ) → List Line
made e es later = cond (makes_in e.message) (trade e (origin_of (e ∷ es) (key_in e.message)) later ∷ []) []

-- the trades of these taken messages, the oldest first, where the keys `later` were named after all of them
unfoldable pub trades_but : List (List ℕ) → List Taken → List Line
trades_but later [] = []
trades_but later (e ∷ es) = trades_but (names e.message ++ later) es ++ made e es later

-- all trades, the oldest first: live if no later taken X or C named it
abbrev pub trades_of : List Taken → List Line
trades_of es = trades_but [] es

-- ---- which messages are taken

-- he reads a message by the edition that the book was started for
abbrev pub clerk_reading : Edition → List ℕ → Reading
clerk_reading ed m = read_of ed m

-- what the table gives for a message, worked from the sheet, the room and the taken messages before it; `limit` is how many lines the
-- room has
abbrev pub basis_after : List Listing → ℕ → List Taken → Basis
basis_after sheet limit es = record { phase = phase_after es; sheet = sheet; ledger = searched (trades_of es) limit }

abbrev pub answer_to : Edition → List Listing → ℕ → List Taken → List ℕ → ℕ
answer_to ed sheet limit es m = (given (content_table (basis_after sheet limit es) (clerk_reading ed m))).number

-- a message is taken if that is 0; `limit` is of lines here too
unfoldable pub taken_of : Edition → List Listing → ℕ → List (List ℕ) → List Taken
taken_of ed sheet limit [] = []
taken_of ed sheet limit (m ∷ ms) =
    let es = taken_of ed sheet limit ms in
    cond (eqb (answer_to ed sheet limit es m) 0) (record { number = suc (length ms); message = (clerk_reading ed m).found } ∷ es) es

-- ---- rows

-- the latest J of a symbol
unfoldable pub summary_of : List Taken → List ℕ → Option HighLow
summary_of [] symbol = None
summary_of (e ∷ es) symbol =
    cond (summary_in e.message && same symbol e.message.symbol) (Some (high_low e.message.high e.message.low)) (summary_of es symbol)

-- the latest consolidated volume of a symbol
unfoldable pub reported_of : List Taken → List ℕ → Option ℕ
reported_of [] symbol = None
reported_of (e ∷ es) symbol =
    cond (sets_in e.message && same symbol e.message.symbol) (Some e.message.consolidated) (reported_of es symbol)

-- the taken messages that a row's report and summary come from: all of them where the edition's messages report a volume, else none: an
-- edition that reports no volume has no summary either, so nothing of these messages reaches a row
abbrev pub reports_in : Edition → List Taken → List Taken
reports_in ed es = cond (reports ed) es []

unfoldable pub row_of : Edition → List Taken → Listing → Row
row_of ed es l =
    let told = reports_in ed es in
    record { listing = l; summary = summary_of told l.symbol; reported = reported_of told l.symbol }

-- what he shows of a listed symbol
unfoldable pub shown_by : Edition → List Taken → Listing → RowShown
shown_by ed es l = shown_of (row_of ed es l) (figures_of l.symbol (trades_of es))

-- ---- his book

unfoldable pub book_by : Edition → List Listing → List Taken → ℕ → Book
book_by ed sheet es n =
    record {
      edition = ed;
      wanted = suc n;
      phase = phase_after es;
      rows = map (row_of ed es) sheet;
      lines = trades_of es;
      listed = length sheet;
      used = length (trades_of es);
      taken = length es;
    }

-- after these used messages, in a room for `limit` lines
unfoldable pub clerk_book : Edition → List Listing → ℕ → List (List ℕ) → Book
clerk_book ed sheet limit ms = book_by ed sheet (taken_of ed sheet limit ms) (length ms)
