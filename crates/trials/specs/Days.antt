-- Days to try by hand, as one table: what is listed, what arrives, what is said back, how many messages are used, and what each row shows
-- then. The table is worked from the book's promises, in lent rooms whose bytes are all 35 at first, and its rows once more from the
-- clerk's definitions, of as many messages as are used. The numbers are document 01's; the days without one tell apart what book and clerk
-- share, where both could be wrong. All but the last part are of NLS Plus.
-- Assumes nothing.
use Rattle.std.specs.Prelude.{ℕ, zero, suc, ◌*◌, ◌-◌, ◌≡◌, List, [], ◌∷◌, ◌++◌, map, Bool, true, false, pos, negsuc, get_or, replicate, take, None, Option, Some, ℤ}
use Rattle.numbers.specs.Number.{digits}
use Rattle.lines.specs.Lines.{line_limit}
use Rattle.rows.specs.Rows.{row_limit}
use Rattle.show.specs.declared.RowShown.{RowShown}
use Rattle.rows.specs.declared.Listing.{Listing}
use Rattle.editions.specs.declared.Edition.{Edition}
use Rattle.editions.specs.declared.Edition.TheVariants.{NlsPlus, Pls}
use Rattle.counters.specs.Counting.{fresh_counters}
use Rattle.book.specs.State.{State, roomless, with_rows, with_lines, arrives}
use Rattle.book.specs.Calls.{listed, delivered, shown}
use Rattle.octets.specs.Run as Run
use Rattle.numbers.specs.Number as Number
use Rattle.texts.specs.Text as Text
use Rattle.conditions.specs.Conditions as Conditions
use Rattle.layout.specs.Values as Values
use Rattle.layout.specs.Tables as Tables
use Rattle.records.specs.Held as Held
use Rattle.packing.specs.Layouts as Layouts
use Rattle.pls.specs.Layouts as Ascii
use Rattle.decimal.specs.Letters.{letters}
use Rattle.digits.specs.Field as Field
use Rattle.message.specs.Reader as Reader
use Rattle.cells.specs.Search as Search
use Rattle.lines.specs.Lines as Lines
use Rattle.rows.specs.Rows as Rows
use Rattle.figures.specs.Figures as Figures
use Rattle.walk.specs.Walking as Walking
use Rattle.show.specs.Showing as Showing
use Rattle.bounds.specs.Up as Up
use Rattle.kinds.specs.Kinds as Kinds
use Rattle.keys.specs.Keys as Keys
use Rattle.table.specs.Table as Table
use Rattle.take.specs.Taking as Taking
use Rattle.counters.specs.Counting as Counting
use Rattle.sound.specs.Sound as Sound
use Rattle.book.specs.Calls as Calls
use Rattle.clerk.specs.Clerk as Clerk
use Rattle.clerk.specs.Arrivals as Arrivals
use Rattle.clerk.specs.Clerk.{clerk_sheet, taken_of, shown_by}
use Rattle.clerk.specs.Arrivals.{upto}

-- ---- texts and messages

abbrev pub spaces : ℕ → List ℕ
spaces n = replicate n 32

-- a control of one digit or letter
abbrev pub control : ℕ → List ℕ
control digit = digit ∷ spaces 9

-- symbols, their letters as bytes: ABCD, EFGH, and IJKL, which no day lists
abbrev pub abcd : List ℕ
abcd = 65 ∷ 66 ∷ 67 ∷ 68 ∷ spaces 4

abbrev pub efgh : List ℕ
efgh = 69 ∷ 70 ∷ 71 ∷ 72 ∷ spaces 4

abbrev pub ijkl : List ℕ
ijkl = 73 ∷ 74 ∷ 75 ∷ 76 ∷ spaces 4

-- the four codes of a condition, and the plain one
abbrev pub codes : ℕ → ℕ → ℕ → ℕ → List ℕ
codes a b c d = a ∷ b ∷ c ∷ d ∷ []

abbrev pub plain : List ℕ
plain = codes 64 32 32 32

-- control, price, size and condition
abbrev pub sale_under : List ℕ → ℕ → ℕ → List ℕ → List ℕ
sale_under key price size condition = key ++ (digits 4 price ++ (digits 4 size ++ condition))

abbrev pub sale : ℕ → ℕ → ℕ → List ℕ → List ℕ
sale k price size condition = sale_under (control k) price size condition

-- a message that came at a millisecond, and one that came at k thousand of them
abbrev pub event_at : ℕ → ℕ → List ℕ
event_at time e = digits 4 time ++ (83 ∷ e ∷ [])

abbrev pub event : ℕ → ℕ → List ℕ
event k e = event_at (k * 1000) e

-- T and X of a symbol: time, letter, centre, class, what they say of the trade, and the consolidated volume
abbrev pub report_at : List ℕ → ℕ → ℕ → ℕ → ℕ → List ℕ → ℕ → List ℕ
report_at symbol time letter centre class s volume = digits 4 time ++ (letter ∷ centre ∷ symbol ++ (class ∷ s ++ digits 8 volume))

-- of class Q
abbrev pub report_for : List ℕ → ℕ → ℕ → ℕ → List ℕ → ℕ → List ℕ
report_for symbol k letter centre s volume = report_at symbol (k * 1000) letter centre 81 s volume

abbrev pub trade_for : List ℕ → ℕ → ℕ → List ℕ → ℕ → List ℕ
trade_for symbol k centre s volume = report_for symbol k 84 centre s volume

abbrev pub cancel_for : List ℕ → ℕ → ℕ → List ℕ → ℕ → List ℕ
cancel_for symbol k centre s volume = report_for symbol k 88 centre s volume

-- J of a symbol: time, high, low, close, and the consolidated volume; class Q
abbrev pub summary_at : List ℕ → ℕ → ℕ → ℕ → ℕ → ℕ → List ℕ
summary_at symbol time high low close volume =
    digits 4 time ++ (74 ∷ symbol ++ (81 ∷ digits 4 high ++ (digits 4 low ++ (digits 4 close ++ digits 8 volume))))

-- with a close of 0
abbrev pub summary_for : List ℕ → ℕ → ℕ → ℕ → ℕ → List ℕ
summary_for symbol k high low volume = summary_at symbol (k * 1000) high low 0 volume

-- those of ABCD
abbrev pub trade : ℕ → ℕ → List ℕ → ℕ → List ℕ
trade k centre s volume = trade_for abcd k centre s volume

abbrev pub cancel : ℕ → ℕ → List ℕ → ℕ → List ℕ
cancel k centre s volume = cancel_for abcd k centre s volume

abbrev pub correct : ℕ → ℕ → List ℕ → List ℕ → ℕ → List ℕ
correct k centre s new volume = digits 4 (k * 1000) ++ (67 ∷ centre ∷ abcd ++ (81 ∷ s ++ (new ++ digits 8 volume)))

abbrev pub summary : ℕ → ℕ → ℕ → ℕ → List ℕ
summary k high low volume = summary_for abcd k high low volume

-- ---- the day W; Q is 81, L is 76, the digits 1, 2, 9 are 49, 50, 57

abbrev pub q1 : List ℕ
q1 = sale 49 251000 100 plain

abbrev pub q2 : List ℕ
q2 = sale 50 260000 300 plain

abbrev pub q9 : List ℕ
q9 = sale 57 252500 120 plain

abbrev pub w : List (List ℕ)
w = event 1 79
    ∷ trade 2 81 q1 100
    ∷ trade 3 81 q2 400
    ∷ trade 4 76 (sale 49 249000 50 (codes 64 32 32 73)) 450
    ∷ cancel 5 81 q2 500
    ∷ correct 6 81 q1 q9 600
    ∷ []

-- ---- a case of the table

-- the sheet; the messages from 1 on; the numbers as they arrive; what is said back to each; how many are used up; what the row of each
-- listing shows
pub record Case : Type 0 where
  pub sheet : List Listing
  pub day : List (List ℕ)
  pub arrivals : List ℕ
  pub said : List ℕ
  pub used : ℕ
  pub shown : List RowShown

-- ABCD alone, with its close; ABCD and EFGH
abbrev pub alone : ℕ → List Listing
alone close = record { symbol = abcd; close = close } ∷ []

abbrev pub both : List Listing
both = record { symbol = abcd; close = 250000 } ∷ record { symbol = efgh; close = 100000 } ∷ []

-- the n numbers from a on, and those from 1 on
abbrev pub count : ℕ → ℕ → List ℕ
count a zero = []
count a (suc n) = a ∷ count (suc a) n

abbrev pub in_order : ℕ → List ℕ
in_order n = count 1 n

-- message k of a day
abbrev pub day_of : List (List ℕ) → ℕ → List ℕ
day_of ms k = get_or ms (k - 1) []

-- close, last, high, low, net, volume, count, agrees, reported
unfoldable pub figures_for : List ℕ → ℕ → Option ℕ → Option ℕ → Option ℕ → Option ℤ → ℕ → ℕ → Bool → Option ℕ → RowShown
figures_for symbol close last high low net volume count agrees reported =
    record {
      symbol = symbol;
      close = close;
      last = last;
      high = high;
      low = low;
      net = net;
      volume = volume;
      count = count;
      agrees = agrees;
      reported = reported;
    }

-- a row of ABCD
abbrev pub figures : ℕ → Option ℕ → Option ℕ → Option ℕ → Option ℤ → ℕ → ℕ → Bool → Option ℕ → RowShown
figures close last high low net volume count agrees reported = figures_for abcd close last high low net volume count agrees reported

-- one whose last, high and low are known and that no J was taken for
abbrev pub priced : ℕ → ℕ → ℕ → ℕ → Option ℤ → ℕ → ℕ → ℕ → RowShown
priced close last high low net volume count reported = figures close (Some last) (Some high) (Some low) net volume count false (Some reported)

-- one with nothing reported
abbrev pub silent : ℕ → ℕ → ℕ → ℕ → Option ℤ → ℕ → ℕ → RowShown
silent close last high low net volume count = figures close (Some last) (Some high) (Some low) net volume count false None

-- ---- worked from the book's promises

-- room for two rows and twelve lines, and some bytes more
abbrev pub rows_room : ℕ
rows_room = 65

abbrev pub lines_room : ℕ
lines_room = 483

unfoldable pub listed_each : State → List Listing → State
listed_each s [] = s
listed_each s (l ∷ ls) = listed_each (listed s l).state ls

-- a fresh book of an edition in rooms for two rows and twelve lines and some bytes more, all 35 at first
abbrev pub fresh_rooms : Edition → State
fresh_rooms e = with_rows (replicate rows_room 35) (with_lines (replicate lines_room 35) (roomless (fresh_counters e)))

-- a fresh book with the sheet finished
unfoldable pub opened : Edition → List Listing → State
opened e sheet = listed_each (fresh_rooms e) sheet

unfoldable pub delivered_in : State → ℕ → List ℕ → State
delivered_in s n m = (delivered s (arrives n m)).state

-- what is said back to each number that arrives, and the state that they leave
pub record Course : Type 0 where
  pub said : List ℕ
  pub left : State

unfoldable pub course_of : (ℕ → List ℕ) → State → List ℕ → Course
course_of day s [] = record { said = []; left = s }
course_of day s (n ∷ ns) =
    let o = delivered s (arrives n (day n)) in
    let p = course_of day o.state ns in
    record { said = o.answer ∷ p.said; left = p.left }

-- the state after these numbers of a day
abbrev pub left_by : (ℕ → List ℕ) → State → List ℕ → State
left_by day s ns = (course_of day s ns).left

-- the arrivals of a case, in a book with its sheet finished
unfoldable pub case_run : Edition → Case → Course
unfolding Run.tab Run.part Number.be Number.digits Up.up Text.text Conditions.level_at Conditions.marks_of Conditions.condition_marks
    Layouts.layout_s Layouts.layout_t Layouts.layout_c Layouts.layout_j Ascii.layout_s Ascii.layout_t Ascii.layout_c Field.spelt Field.value_of
    Values.room_of Tables.spelt_by Tables.obeys_by
    Held.sale_from Held.new_from Held.record_from Held.read_by Reader.read_in Reader.read_of Search.first
    Lines.line_from Lines.line_bytes Lines.used_lines Lines.line_in Lines.with_line Lines.with_dead
    Rows.listing_from Rows.summary_at Rows.reported_at Rows.row_from Rows.new_row Rows.report_bytes Rows.summary_bytes Rows.used_rows
    Rows.row_in Rows.in_row
    Walking.counts Figures.sold Walking.tally Walking.fold Walking.figures_of Showing.shown_of
    Kinds.kind_of Keys.matches Table.number_table Table.content_table Taking.lines_by Taking.reported_by Taking.rows_by Sound.sound
    Counting.taken_by Calls.list_table Calls.list_answer Calls.listed Calls.message_given Calls.delivered Calls.row_answer Calls.shown
    figures_for listed_each opened delivered_in course_of
case_run e c = course_of (day_of c.day) (opened e c.sheet) c.arrivals

-- ---- worked by the clerk

unfoldable pub clerk_shows : Edition → Case → List RowShown
unfolding case_run Clerk.sheet_from Clerk.phase_after Clerk.origin_of Clerk.trades_but Clerk.taken_of Clerk.summary_of Clerk.reported_of
    Clerk.row_of Clerk.shown_by Arrivals.upto
clerk_shows e c =
    let es = taken_of e (clerk_sheet (row_limit rows_room) c.sheet) (line_limit lines_room) (upto (day_of c.day) c.used) in
    map (shown_by e es) c.sheet

-- ---- the table

-- what is said back, how many are used, and what the rows show, as worked from the book and as worked by the clerk
pub record Result : Type 0 where
  pub said : List ℕ
  pub used : ℕ
  pub book : List RowShown
  pub clerk : List RowShown

-- a case as it is worked, and as the table has it
unfoldable pub worked : Edition → Case → Result
unfolding clerk_shows
worked e c =
    let p = case_run e c in
    record {
      said = p.said;
      used = p.left.counters.wanted - 1;
      book = map (λ (l : Listing). (shown p.left l.symbol).row) c.sheet;
      clerk = clerk_shows e c;
    }

abbrev pub expected : Case → Result
expected c = record { said = c.said; used = c.used; book = c.shown; clerk = c.shown }

-- the cases of a part of the table, in a book of an edition
abbrev pub AsSaid : Edition → List Case → Type 0
AsSaid e [] = Unit {0}
AsSaid e (c ∷ cs) = (worked e c ≡ expected c) × AsSaid e cs

-- document 01's days, by their numbers
unfoldable pub numbered : List Case
numbered =
    -- 1: W after number 3
    record {
      sheet = alone 250000;
      day = w;
      arrivals = 1 ∷ 2 ∷ 3 ∷ [];
      said = 0 ∷ 0 ∷ 0 ∷ [];
      used = 3;
      shown = priced 250000 260000 260000 251000 (Some (pos 10000)) 400 2 400 ∷ [];
    }
    -- 2: W after 4
    ∷ record {
      sheet = alone 250000;
      day = w;
      arrivals = 1 ∷ 2 ∷ 3 ∷ 4 ∷ [];
      said = 0 ∷ 0 ∷ 0 ∷ 0 ∷ [];
      used = 4;
      shown = priced 250000 260000 260000 251000 (Some (pos 10000)) 450 3 450 ∷ [];
    }
    -- 3: W after 5
    ∷ record {
      sheet = alone 250000;
      day = w;
      arrivals = 1 ∷ 2 ∷ 3 ∷ 4 ∷ 5 ∷ [];
      said = 0 ∷ 0 ∷ 0 ∷ 0 ∷ 0 ∷ [];
      used = 5;
      shown = priced 250000 251000 251000 251000 (Some (pos 1000)) 150 2 500 ∷ [];
    }
    -- 4: W after 6
    ∷ record {
      sheet = alone 250000;
      day = w;
      arrivals = 1 ∷ 2 ∷ 3 ∷ 4 ∷ 5 ∷ 6 ∷ [];
      said = 0 ∷ 0 ∷ 0 ∷ 0 ∷ 0 ∷ 0 ∷ [];
      used = 6;
      shown = priced 250000 252500 252500 252500 (Some (pos 2500)) 170 2 600 ∷ [];
    }
    -- 5: a second X of Q 2
    ∷ record {
      sheet = alone 250000;
      day = w ++ (cancel 7 81 q2 700 ∷ []);
      arrivals = 1 ∷ 2 ∷ 3 ∷ 4 ∷ 5 ∷ 6 ∷ 7 ∷ [];
      said = 0 ∷ 0 ∷ 0 ∷ 0 ∷ 0 ∷ 0 ∷ 9 ∷ [];
      used = 7;
      shown = priced 250000 252500 252500 252500 (Some (pos 2500)) 170 2 600 ∷ [];
    }
    -- 6: X naming Q 2 with another size
    ∷ record {
      sheet = alone 250000;
      day = event 1 79 ∷ trade 2 81 q1 100 ∷ trade 3 81 q2 400 ∷ cancel 4 81 (sale 50 260000 299 plain) 450 ∷ [];
      arrivals = 1 ∷ 2 ∷ 3 ∷ 4 ∷ [];
      said = 0 ∷ 0 ∷ 0 ∷ 10 ∷ [];
      used = 4;
      shown = priced 250000 260000 260000 251000 (Some (pos 10000)) 400 2 400 ∷ [];
    }
    -- 7: C whose new control is its own old one
    ∷ record {
      sheet = alone 250000;
      day = event 1 79 ∷ trade 2 81 q1 100 ∷ correct 3 81 q1 (sale 49 252500 120 plain) 600 ∷ [];
      arrivals = 1 ∷ 2 ∷ 3 ∷ [];
      said = 0 ∷ 0 ∷ 11 ∷ [];
      used = 3;
      shown = priced 250000 251000 251000 251000 (Some (pos 1000)) 100 1 100 ∷ [];
    }
    -- 8: a number that comes too early, and again
    ∷ record {
      sheet = alone 250000;
      day = w;
      arrivals = 1 ∷ 3 ∷ 2 ∷ 3 ∷ [];
      said = 0 ∷ 3 ∷ 0 ∷ 0 ∷ [];
      used = 3;
      shown = priced 250000 260000 260000 251000 (Some (pos 10000)) 400 2 400 ∷ [];
    }
    -- 9: an empty message uses up its number
    ∷ record {
      sheet = alone 250000;
      day = event 1 79 ∷ [] ∷ trade 3 81 q1 100 ∷ [];
      arrivals = 1 ∷ 2 ∷ 3 ∷ [];
      said = 0 ∷ 4 ∷ 0 ∷ [];
      used = 3;
      shown = priced 250000 251000 251000 251000 (Some (pos 1000)) 100 1 100 ∷ [];
    }
    -- 10: the ends of a price
    ∷ record {
      sheet = alone 250000;
      day =
          event 1 79 ∷ trade 2 81 (sale 49 2000000000 1 plain) 1 ∷ trade 3 81 (sale 50 2000000001 1 plain) 2
          ∷ trade 4 81 (sale 51 0 1 plain) 3 ∷ [];
      arrivals = 1 ∷ 2 ∷ 3 ∷ 4 ∷ [];
      said = 0 ∷ 0 ∷ 5 ∷ 5 ∷ [];
      used = 4;
      shown = priced 250000 2000000000 2000000000 2000000000 (Some (pos 1999750000)) 1 1 1 ∷ [];
    }
    -- 13: number 0, and an event that comes too late
    ∷ record {
      sheet = alone 250000;
      day = event 1 81 ∷ event 2 83 ∷ [];
      arrivals = 1 ∷ 0 ∷ 2 ∷ [];
      said = 0 ∷ 1 ∷ 6 ∷ [];
      used = 2;
      shown = figures 250000 None None None None 0 0 false None ∷ [];
    }
    ∷ []

-- marks and corrections
unfoldable pub marked : List Case
marked =
    -- trades that may set high and low only, by 4, L and Z
    record {
      sheet = alone 250000;
      day =
          event 1 79 ∷ trade 2 81 (sale 49 251000 100 plain) 1 ∷ trade 3 81 (sale 50 260000 300 (codes 64 52 32 32)) 2
          ∷ trade 4 81 (sale 51 240000 10 (codes 64 32 76 32)) 3 ∷ trade 5 81 (sale 52 270000 20 (codes 64 32 90 32)) 4 ∷ [];
      arrivals = 1 ∷ 2 ∷ 3 ∷ 4 ∷ 5 ∷ [];
      said = 0 ∷ 0 ∷ 0 ∷ 0 ∷ 0 ∷ [];
      used = 5;
      shown = priced 250000 251000 270000 240000 (Some (pos 1000)) 430 4 4 ∷ [];
    }
    -- a trade with neither mark
    ∷ record {
      sheet = alone 250000;
      day = event 1 79 ∷ trade 2 81 (sale 49 251000 100 (codes 67 32 32 32)) 1 ∷ [];
      arrivals = 1 ∷ 2 ∷ [];
      said = 0 ∷ 0 ∷ [];
      used = 2;
      shown = figures 250000 None None None None 100 1 false (Some 1) ∷ [];
    }
    -- a trade for each column of each level
    ∷ record {
      sheet = alone 1000;
      day =
          event 1 79 ∷ trade 2 81 (sale 49 1000 1 plain) 1 ∷ trade 3 81 (sale 50 5000 2 (codes 78 32 32 32)) 2
          ∷ trade 4 81 (sale 51 1100 4 (codes 64 70 32 32)) 3 ∷ trade 5 81 (sale 52 4000 8 (codes 64 52 32 32)) 4
          ∷ trade 6 81 (sale 53 6000 16 (codes 64 55 32 32)) 5 ∷ trade 7 81 (sale 54 500 32 (codes 64 32 90 32)) 6
          ∷ trade 8 81 (sale 55 1 64 (codes 64 32 84 32)) 7 ∷ trade 9 81 (sale 56 1200 128 (codes 64 32 32 65)) 8
          ∷ trade 10 81 (sale 57 7000 256 (codes 64 32 32 87)) 9 ∷ [];
      arrivals = 1 ∷ 2 ∷ 3 ∷ 4 ∷ 5 ∷ 6 ∷ 7 ∷ 8 ∷ 9 ∷ 10 ∷ [];
      said = 0 ∷ 0 ∷ 0 ∷ 0 ∷ 0 ∷ 0 ∷ 0 ∷ 0 ∷ 0 ∷ 0 ∷ [];
      used = 10;
      shown = priced 1000 1200 4000 500 (Some (pos 200)) 511 9 9 ∷ [];
    }
    -- a chain of three corrections keeps the first trade's place
    ∷ record {
      sheet = alone 1000;
      day =
          event 1 79 ∷ trade 2 81 (sale 49 1000 10 plain) 1 ∷ trade 3 81 (sale 50 2000 20 plain) 2
          ∷ correct 4 81 (sale 49 1000 10 plain) (sale 51 1100 11 plain) 3
          ∷ correct 5 81 (sale 51 1100 11 plain) (sale 52 1200 12 plain) 4
          ∷ correct 6 81 (sale 52 1200 12 plain) (sale 53 1300 13 plain) 5 ∷ [];
      arrivals = 1 ∷ 2 ∷ 3 ∷ 4 ∷ 5 ∷ 6 ∷ [];
      said = 0 ∷ 0 ∷ 0 ∷ 0 ∷ 0 ∷ 0 ∷ [];
      used = 6;
      shown = priced 1000 2000 2000 1300 (Some (pos 1000)) 33 2 5 ∷ [];
    }
    -- a correction that changes the condition
    ∷ record {
      sheet = alone 1000;
      day =
          event 1 79 ∷ trade 2 81 (sale 49 1000 10 plain) 1
          ∷ correct 3 81 (sale 49 1000 10 plain) (sale 50 1000 10 (codes 64 32 32 73)) 2 ∷ [];
      arrivals = 1 ∷ 2 ∷ 3 ∷ [];
      said = 0 ∷ 0 ∷ 0 ∷ [];
      used = 3;
      shown = figures 1000 None None None None 10 1 false (Some 2) ∷ [];
    }
    ∷ []

-- what a J says, and whether the row agrees
unfoldable pub summed : List Case
summed =
    -- a J that agrees
    record {
      sheet = alone 250000;
      day = event 1 79 ∷ trade 2 81 q1 100 ∷ summary 3 251000 251000 7 ∷ [];
      arrivals = 1 ∷ 2 ∷ 3 ∷ [];
      said = 0 ∷ 0 ∷ 0 ∷ [];
      used = 3;
      shown = figures 250000 (Some 251000) (Some 251000) (Some 251000) (Some (pos 1000)) 100 1 true (Some 7) ∷ [];
    }
    -- a J whose low is another
    ∷ record {
      sheet = alone 250000;
      day =
          event 1 79 ∷ trade 2 81 q1 100 ∷ summary 3 251000 250999 7 ∷ summary 4 251000 251000 8 ∷ summary 5 251001 251000 9
          ∷ [];
      arrivals = 1 ∷ 2 ∷ 3 ∷ [];
      said = 0 ∷ 0 ∷ 0 ∷ [];
      used = 3;
      shown = figures 250000 (Some 251000) (Some 251000) (Some 251000) (Some (pos 1000)) 100 1 false (Some 7) ∷ [];
    }
    -- replaced by one that agrees
    ∷ record {
      sheet = alone 250000;
      day =
          event 1 79 ∷ trade 2 81 q1 100 ∷ summary 3 251000 250999 7 ∷ summary 4 251000 251000 8 ∷ summary 5 251001 251000 9
          ∷ [];
      arrivals = 1 ∷ 2 ∷ 3 ∷ 4 ∷ [];
      said = 0 ∷ 0 ∷ 0 ∷ 0 ∷ [];
      used = 4;
      shown = figures 250000 (Some 251000) (Some 251000) (Some 251000) (Some (pos 1000)) 100 1 true (Some 8) ∷ [];
    }
    -- and that by one whose high is another
    ∷ record {
      sheet = alone 250000;
      day =
          event 1 79 ∷ trade 2 81 q1 100 ∷ summary 3 251000 250999 7 ∷ summary 4 251000 251000 8 ∷ summary 5 251001 251000 9
          ∷ [];
      arrivals = 1 ∷ 2 ∷ 3 ∷ 4 ∷ 5 ∷ [];
      said = 0 ∷ 0 ∷ 0 ∷ 0 ∷ 0 ∷ [];
      used = 5;
      shown = figures 250000 (Some 251000) (Some 251000) (Some 251000) (Some (pos 1000)) 100 1 false (Some 9) ∷ [];
    }
    -- where high and low differ: a J with another low
    ∷ record {
      sheet = alone 250000;
      day = event 1 79 ∷ trade 2 81 q1 100 ∷ trade 3 81 q2 400 ∷ summary 4 260000 250999 7 ∷ [];
      arrivals = 1 ∷ 2 ∷ 3 ∷ 4 ∷ [];
      said = 0 ∷ 0 ∷ 0 ∷ 0 ∷ [];
      used = 4;
      shown = figures 250000 (Some 260000) (Some 260000) (Some 251000) (Some (pos 10000)) 400 2 false (Some 7) ∷ [];
    }
    -- a J with the two turned
    ∷ record {
      sheet = alone 250000;
      day = event 1 79 ∷ trade 2 81 q1 100 ∷ trade 3 81 q2 400 ∷ summary 4 251000 260000 7 ∷ [];
      arrivals = 1 ∷ 2 ∷ 3 ∷ 4 ∷ [];
      said = 0 ∷ 0 ∷ 0 ∷ 0 ∷ [];
      used = 4;
      shown = figures 250000 (Some 260000) (Some 260000) (Some 251000) (Some (pos 10000)) 400 2 false (Some 7) ∷ [];
    }
    -- a J with another low, replaced by one that agrees
    ∷ record {
      sheet = alone 250000;
      day =
          event 1 79 ∷ trade 2 81 q1 100 ∷ trade 3 81 q2 400 ∷ summary 4 260000 250999 7 ∷ summary 5 260000 251000 8 ∷ [];
      arrivals = 1 ∷ 2 ∷ 3 ∷ 4 ∷ 5 ∷ [];
      said = 0 ∷ 0 ∷ 0 ∷ 0 ∷ 0 ∷ [];
      used = 5;
      shown = figures 250000 (Some 260000) (Some 260000) (Some 251000) (Some (pos 10000)) 400 2 true (Some 8) ∷ [];
    }
    -- a J of zeros agrees with a row that has no high and no low
    ∷ record {
      sheet = alone 250000;
      day = event 1 79 ∷ summary 2 0 0 3 ∷ [];
      arrivals = 1 ∷ 2 ∷ [];
      said = 0 ∷ 0 ∷ [];
      used = 2;
      shown = figures 250000 None None None None 0 0 true (Some 3) ∷ [];
    }
    ∷ []

-- nets, refusals, phases, every line used, two symbols
unfoldable pub answered : List Case
answered =
    -- 12: last 1, close 2,000,000,000
    record {
      sheet = alone 2000000000;
      day = event 1 79 ∷ trade 2 81 (sale 49 1 1 plain) 1 ∷ [];
      arrivals = 1 ∷ 2 ∷ [];
      said = 0 ∷ 0 ∷ [];
      used = 2;
      shown = priced 2000000000 1 1 1 (Some (negsuc 1999999998)) 1 1 1 ∷ [];
    }
    -- no net where the close is 0
    ∷ record {
      sheet = alone 0;
      day = event 1 79 ∷ trade 2 81 (sale 49 251000 1 plain) 1 ∷ [];
      arrivals = 1 ∷ 2 ∷ [];
      said = 0 ∷ 0 ∷ [];
      used = 2;
      shown = priced 0 251000 251000 251000 None 1 1 1 ∷ [];
    }
    -- equal prices
    ∷ record {
      sheet = alone 1000;
      day = event 1 79 ∷ trade 2 81 (sale 49 1000 1 plain) 1 ∷ trade 3 81 (sale 50 1000 2 plain) 2 ∷ [];
      arrivals = 1 ∷ 2 ∷ 3 ∷ [];
      said = 0 ∷ 0 ∷ 0 ∷ [];
      used = 3;
      shown = priced 1000 1000 1000 1000 (Some (pos 0)) 3 2 2 ∷ [];
    }
    -- the only high cancelled
    ∷ record {
      sheet = alone 1000;
      day =
          event 1 79 ∷ trade 2 81 (sale 49 1000 1 plain) 1 ∷ trade 3 81 (sale 50 2000 2 plain) 2
          ∷ cancel 4 81 (sale 50 2000 2 plain) 3 ∷ [];
      arrivals = 1 ∷ 2 ∷ 3 ∷ 4 ∷ [];
      said = 0 ∷ 0 ∷ 0 ∷ 0 ∷ [];
      used = 4;
      shown = priced 1000 1000 1000 1000 (Some (pos 0)) 1 1 3 ∷ [];
    }
    -- copies of numbers that are used up
    ∷ record {
      sheet = alone 250000;
      day = w;
      arrivals = 1 ∷ 1 ∷ 2 ∷ 2 ∷ 1 ∷ 3 ∷ [];
      said = 0 ∷ 2 ∷ 0 ∷ 2 ∷ 2 ∷ 0 ∷ [];
      used = 3;
      shown = priced 250000 260000 260000 251000 (Some (pos 10000)) 400 2 400 ∷ [];
    }
    -- X with another price, another condition, a key that no line bears; X of Q 1; its key again; X of it with another size
    ∷ record {
      sheet = alone 250000;
      day =
          event 1 79 ∷ trade 2 81 q1 100 ∷ cancel 3 81 (sale 49 251001 100 plain) 300
          ∷ cancel 4 81 (sale 49 251000 100 (codes 64 70 32 32)) 400 ∷ cancel 5 81 q2 500 ∷ cancel 6 81 q1 600
          ∷ trade 7 81 q1 700 ∷ cancel 8 81 (sale 49 251000 99 plain) 800 ∷ [];
      arrivals = 1 ∷ 2 ∷ 3 ∷ 4 ∷ 5 ∷ 6 ∷ 7 ∷ 8 ∷ [];
      said = 0 ∷ 0 ∷ 10 ∷ 10 ∷ 8 ∷ 0 ∷ 11 ∷ 9 ∷ [];
      used = 8;
      shown = figures 250000 None None None None 0 0 false (Some 600) ∷ [];
    }
    -- when events and trades are due: T S T S O Q T M T Q E M T C T E; number 1 comes before any event, number 15 after event C
    ∷ record {
      sheet = alone 1000;
      day =
          trade 1 81 (sale 49 5000 1 plain) 1 ∷ event 2 83 ∷ trade 3 81 (sale 50 1000 2 plain) 3 ∷ event 4 83 ∷ event 5 79
          ∷ event 6 81 ∷ trade 7 81 (sale 51 900 4 plain) 7 ∷ event 8 77 ∷ trade 9 81 (sale 52 1100 8 plain) 9 ∷ event 10 81
          ∷ event 11 69 ∷ event 12 77 ∷ trade 13 81 (sale 53 1050 16 plain) 13 ∷ event 14 67
          ∷ trade 15 81 (sale 54 100 32 plain) 15 ∷ event 16 69 ∷ [];
      arrivals = 1 ∷ 2 ∷ 3 ∷ 4 ∷ 5 ∷ 6 ∷ 7 ∷ 8 ∷ 9 ∷ 10 ∷ 11 ∷ 12 ∷ 13 ∷ 14 ∷ 15 ∷ 16 ∷ [];
      said = 6 ∷ 0 ∷ 0 ∷ 6 ∷ 6 ∷ 0 ∷ 0 ∷ 0 ∷ 0 ∷ 6 ∷ 0 ∷ 6 ∷ 0 ∷ 0 ∷ 6 ∷ 6 ∷ [];
      used = 16;
      shown = priced 1000 1050 1100 900 (Some (pos 50)) 30 4 13 ∷ [];
    }
    -- every line used: X of the first, a T, a C of the second, X of the second
    ∷ record {
      sheet = alone 1000;
      day =
          event 1 79 ∷ trade 2 81 (sale 49 100 1 plain) 2 ∷ trade 3 81 (sale 50 200 2 plain) 3
          ∷ trade 4 81 (sale 51 300 3 plain) 4 ∷ trade 5 81 (sale 52 400 4 plain) 5 ∷ trade 6 81 (sale 53 500 5 plain) 6
          ∷ trade 7 81 (sale 54 600 6 plain) 7 ∷ trade 8 81 (sale 55 700 7 plain) 8 ∷ trade 9 81 (sale 56 800 8 plain) 9
          ∷ trade 10 81 (sale 57 900 9 plain) 10 ∷ trade 11 81 (sale 65 1000 10 plain) 11
          ∷ trade 12 81 (sale 66 1100 11 plain) 12 ∷ trade 13 81 (sale 67 1200 12 plain) 13
          ∷ cancel 14 81 (sale 49 100 1 plain) 14 ∷ trade 15 81 (sale 68 1300 13 plain) 15
          ∷ correct 16 81 (sale 50 200 2 plain) (sale 69 1400 14 plain) 16 ∷ cancel 17 81 (sale 50 200 2 plain) 17 ∷ [];
      arrivals = 1 ∷ 2 ∷ 3 ∷ 4 ∷ 5 ∷ 6 ∷ 7 ∷ 8 ∷ 9 ∷ 10 ∷ 11 ∷ 12 ∷ 13 ∷ 14 ∷ 15 ∷ 16 ∷ 17 ∷ [];
      said = 0 ∷ 0 ∷ 0 ∷ 0 ∷ 0 ∷ 0 ∷ 0 ∷ 0 ∷ 0 ∷ 0 ∷ 0 ∷ 0 ∷ 0 ∷ 0 ∷ 12 ∷ 12 ∷ 0 ∷ [];
      used = 17;
      shown = priced 1000 1200 1200 300 (Some (pos 200)) 75 10 17 ∷ [];
    }
    -- a size of 0
    ∷ record {
      sheet = alone 250000;
      day = event 1 79 ∷ trade 2 81 (sale 49 251000 0 plain) 1 ∷ [];
      arrivals = 1 ∷ 2 ∷ [];
      said = 0 ∷ 5 ∷ [];
      used = 2;
      shown = figures 250000 None None None None 0 0 false None ∷ [];
    }
    -- two symbols, each with its own trades
    ∷ record {
      sheet = both;
      day =
          event 1 79 ∷ trade 2 81 q1 100 ∷ trade_for efgh 3 81 (sale 50 99000 70 plain) 70
          ∷ trade 4 81 (sale 51 260000 300 plain) 400 ∷ [];
      arrivals = 1 ∷ 2 ∷ 3 ∷ 4 ∷ [];
      said = 0 ∷ 0 ∷ 0 ∷ 0 ∷ [];
      used = 4;
      shown =
          priced 250000 260000 260000 251000 (Some (pos 10000)) 400 2 400
          ∷ figures_for efgh 100000 (Some 99000) (Some 99000) (Some 99000) (Some (negsuc 999)) 70 1 false (Some 70) ∷ [];
    }
    -- ABCD's trade named under EFGH; a T and an X under IJKL; ABCD's key on a T of EFGH
    ∷ record {
      sheet = both;
      day =
          event 1 79 ∷ trade 2 81 q1 100 ∷ cancel_for efgh 3 81 q1 200 ∷ trade_for ijkl 4 81 q2 300
          ∷ cancel_for ijkl 5 81 q1 400 ∷ trade_for efgh 6 81 q1 500 ∷ [];
      arrivals = 1 ∷ 2 ∷ 3 ∷ 4 ∷ 5 ∷ 6 ∷ [];
      said = 0 ∷ 0 ∷ 10 ∷ 7 ∷ 7 ∷ 11 ∷ [];
      used = 6;
      shown =
          priced 250000 251000 251000 251000 (Some (pos 1000)) 100 1 100
          ∷ figures_for efgh 100000 None None None None 0 0 false None ∷ [];
    }
    -- a J of EFGH that would agree with ABCD's row
    ∷ record {
      sheet = both;
      day =
          event 1 79 ∷ trade 2 81 q1 100 ∷ trade_for efgh 3 81 (sale 50 99000 70 plain) 70 ∷ summary_for efgh 4 251000 251000 8
          ∷ summary_for efgh 5 99000 99000 9 ∷ [];
      arrivals = 1 ∷ 2 ∷ 3 ∷ 4 ∷ [];
      said = 0 ∷ 0 ∷ 0 ∷ 0 ∷ [];
      used = 4;
      shown =
          priced 250000 251000 251000 251000 (Some (pos 1000)) 100 1 100
          ∷ figures_for efgh 100000 (Some 99000) (Some 99000) (Some 99000) (Some (negsuc 999)) 70 1 false (Some 8) ∷ [];
    }
    -- and one that agrees with its own
    ∷ record {
      sheet = both;
      day =
          event 1 79 ∷ trade 2 81 q1 100 ∷ trade_for efgh 3 81 (sale 50 99000 70 plain) 70 ∷ summary_for efgh 4 251000 251000 8
          ∷ summary_for efgh 5 99000 99000 9 ∷ [];
      arrivals = 1 ∷ 2 ∷ 3 ∷ 4 ∷ 5 ∷ [];
      said = 0 ∷ 0 ∷ 0 ∷ 0 ∷ 0 ∷ [];
      used = 5;
      shown =
          priced 250000 251000 251000 251000 (Some (pos 1000)) 100 1 100
          ∷ figures_for efgh 100000 (Some 99000) (Some 99000) (Some 99000) (Some (negsuc 999)) 70 1 true (Some 9) ∷ [];
    }
    ∷ []

-- each field's rule from both sides, each type's length, each number's end
unfoldable pub bounded : List Case
bounded =
    -- each centre, Q L B X, under one control; then the bytes beside each of them
    record {
      sheet = alone 1000;
      day =
          event 1 79 ∷ trade 2 81 (sale 49 1000 1 plain) 2 ∷ trade 3 76 (sale 49 1100 2 plain) 3 ∷ trade 4 66 (sale 49 1200 4 plain) 4
          ∷ trade 5 88 (sale 49 1300 8 plain) 5
          ∷ map (λ (centre : ℕ). trade 6 centre (sale 50 5000 16 plain) 6) (80 ∷ 82 ∷ 75 ∷ 77 ∷ 65 ∷ 67 ∷ 87 ∷ 89 ∷ []);
      arrivals = in_order 13;
      said = replicate 5 0 ++ replicate 8 5;
      used = 13;
      shown = priced 1000 1300 1300 1000 (Some (pos 300)) 15 4 5 ∷ [];
    }
    -- each class, Q N A P Z B; the bytes beside each of them; an X that names the first trade under another class
    ∷ record {
      sheet = alone 1000;
      day =
          event 1 79 ∷ report_at abcd 2000 84 81 81 (sale 49 900 1 plain) 1 ∷ report_at abcd 3000 84 81 78 (sale 50 1000 2 plain) 2
          ∷ report_at abcd 4000 84 81 65 (sale 51 1000 4 plain) 3 ∷ report_at abcd 5000 84 81 80 (sale 52 1000 8 plain) 4
          ∷ report_at abcd 6000 84 81 90 (sale 53 1000 16 plain) 5 ∷ report_at abcd 7000 84 81 66 (sale 54 1000 32 plain) 6
          ∷ map (λ (class : ℕ). report_at abcd 8000 84 81 class (sale 55 5000 64 plain) 7) (82 ∷ 77 ∷ 79 ∷ 64 ∷ 89 ∷ 91 ∷ 67 ∷ [])
          ++ (report_at abcd 9000 88 81 78 (sale 49 900 1 plain) 8 ∷ []);
      arrivals = in_order 15;
      said = replicate 7 0 ++ (replicate 7 5 ++ (0 ∷ []));
      used = 15;
      shown = priced 1000 1000 1000 1000 (Some (pos 0)) 62 5 8 ∷ [];
    }
    -- each event, O S Q M E C, and beside each the bytes next to it: O N P, S R T, Q, M L, E D F, C B; and O once more
    ∷ record {
      sheet = alone 1000;
      day = map (event 1) (79 ∷ 78 ∷ 80 ∷ 83 ∷ 82 ∷ 84 ∷ 81 ∷ 77 ∷ 76 ∷ 69 ∷ 68 ∷ 70 ∷ 67 ∷ 66 ∷ 79 ∷ []);
      arrivals = in_order 15;
      said = 0 ∷ 5 ∷ 5 ∷ 0 ∷ 5 ∷ 5 ∷ 0 ∷ 0 ∷ 5 ∷ 0 ∷ 5 ∷ 5 ∷ 0 ∷ 5 ∷ 6 ∷ [];
      used = 15;
      shown = figures 1000 None None None None 0 0 false None ∷ [];
    }
    -- J's high, low and close at their top, and one of them above it; the row has neither high nor low, so the J does not agree
    ∷ record {
      sheet = alone 1000;
      day =
          event 1 79 ∷ summary_at abcd 2000 2000000000 2000000000 2000000000 2 ∷ summary_at abcd 3000 2000000001 0 0 3
          ∷ summary_at abcd 4000 0 2000000001 0 4 ∷ summary_at abcd 5000 0 0 2000000001 5 ∷ [];
      arrivals = in_order 5;
      said = 0 ∷ 0 ∷ 5 ∷ 5 ∷ 5 ∷ [];
      used = 5;
      shown = figures 1000 None None None None 0 0 false (Some 2) ∷ [];
    }
    -- a time that goes backwards, and 11's two times: the trade of the last millisecond is not the last; a correction before both keeps
    -- the older place; a T, an S, an X and a J of the next day's first millisecond
    ∷ record {
      sheet = alone 1000;
      day =
          event_at 5000 79 ∷ report_at abcd 86399999 84 81 81 (sale 49 1000 1 plain) 1 ∷ report_at abcd 0 84 81 81 (sale 50 2000 2 plain) 2
          ∷ correct 0 81 (sale 49 1000 1 plain) (sale 51 1500 4 plain) 3 ∷ report_at abcd 86400000 84 81 81 (sale 52 3000 8 plain) 4
          ∷ event_at 86400000 83 ∷ report_at abcd 86400000 88 81 81 (sale 50 2000 2 plain) 5 ∷ summary_at abcd 86400000 2000 1500 0 6 ∷ [];
      arrivals = in_order 8;
      said = 0 ∷ 0 ∷ 0 ∷ 0 ∷ 5 ∷ 5 ∷ 5 ∷ 5 ∷ [];
      used = 8;
      shown = priced 1000 2000 2000 1500 (Some (pos 1000)) 6 2 3 ∷ [];
    }
    -- the largest size, twice, and the smallest and the largest consolidated volume
    ∷ record {
      sheet = alone 1000;
      day =
          event 1 79 ∷ trade 2 81 (sale 49 1000 4294967295 plain) 0
          ∷ trade 3 81 (sale 50 1000 4294967295 plain) 18446744073709551615 ∷ [];
      arrivals = in_order 3;
      said = 0 ∷ 0 ∷ 0 ∷ [];
      used = 3;
      shown = priced 1000 1000 1000 1000 (Some (pos 0)) 8589934590 2 18446744073709551615 ∷ [];
    }
    -- numbers above 4,294,967,295, and that number itself, which is only too early
    ∷ record {
      sheet = alone 250000;
      day = w;
      arrivals = 4294967296 ∷ 1 ∷ 4294967295 ∷ 4294967296 ∷ 18446744073709551615 ∷ 0 ∷ 2 ∷ 1 ∷ [];
      said = 1 ∷ 0 ∷ 3 ∷ 1 ∷ 1 ∷ 1 ∷ 0 ∷ 2 ∷ [];
      used = 2;
      shown = priced 250000 251000 251000 251000 (Some (pos 1000)) 100 1 100 ∷ [];
    }
    -- 11: each type a byte too short and a byte too long; no such type; four bytes, which have no type
    ∷ record {
      sheet = alone 250000;
      day =
          event 1 79 ∷ take 5 (event 2 83) ∷ (event 3 83 ++ (32 ∷ [])) ∷ take 44 (trade 4 81 q1 1) ∷ (trade 5 81 q1 1 ++ (32 ∷ []))
          ∷ take 44 (cancel 6 81 q1 1) ∷ (cancel 7 81 q1 1 ++ (32 ∷ [])) ∷ take 66 (correct 8 81 q1 q9 1)
          ∷ (correct 9 81 q1 q9 1 ++ (32 ∷ [])) ∷ take 33 (summary 10 1 1 1) ∷ (summary 11 1 1 1 ++ (32 ∷ []))
          ∷ report_for abcd 12 85 81 q1 1 ∷ take 4 (event 13 83) ∷ [];
      arrivals = in_order 13;
      said = 0 ∷ replicate 12 4;
      used = 13;
      shown = figures 250000 None None None None 0 0 false None ∷ [];
    }
    -- an event and a trade of PLS, which are no messages here
    ∷ record {
      sheet = alone 250000;
      day = letters "       0SO" ∷ letters "34200000TXABCD    Q1             251000      100@   " ∷ event 3 79 ∷ [];
      arrivals = 1 ∷ 2 ∷ 3 ∷ [];
      said = 4 ∷ 4 ∷ 0 ∷ [];
      used = 3;
      shown = figures 250000 None None None None 0 0 false None ∷ [];
    }
    -- codes that are not of their level: at 1 space ? A B, at 2 @ 3 8 E G N P, at 3 @ K M S V Y, at 4 @ C E G J L R T U Z
    ∷ record {
      sheet = alone 250000;
      day =
          event 1 79
          ∷ map (λ (condition : List ℕ). trade 2 81 (sale 49 251000 1 condition) 1)
          (map (λ (c : ℕ). codes c 32 32 32) (32 ∷ 63 ∷ 65 ∷ 66 ∷ [])
          ++ (map (λ (c : ℕ). codes 64 c 32 32) (64 ∷ 51 ∷ 56 ∷ 69 ∷ 71 ∷ 78 ∷ 80 ∷ [])
          ++ (map (λ (c : ℕ). codes 64 32 c 32) (64 ∷ 75 ∷ 77 ∷ 83 ∷ 86 ∷ 89 ∷ [])
          ++ map (λ (c : ℕ). codes 64 32 32 c) (64 ∷ 67 ∷ 69 ∷ 71 ∷ 74 ∷ 76 ∷ 82 ∷ 84 ∷ 85 ∷ 90 ∷ []))));
      arrivals = in_order 28;
      said = 0 ∷ replicate 27 5;
      used = 28;
      shown = figures 250000 None None None None 0 0 false None ∷ [];
    }
    -- controls of ! and of ~, and one of ten letters; then of spaces, a space first, one in the middle, of byte 127, padded with zeros; and
    -- symbols of spaces and with a space first, which break the rule and are not merely unlisted
    ∷ record {
      sheet = alone 1000;
      day =
          event 1 79 ∷ trade 2 81 (sale 33 1000 1 plain) 2 ∷ trade 3 81 (sale 126 1000 2 plain) 3
          ∷ trade 4 81 (sale_under (replicate 10 65) 1000 4 plain) 4
          ∷ map (λ (key : List ℕ). trade 5 81 (sale_under key 2000 8 plain) 5)
          (spaces 10 ∷ (32 ∷ 65 ∷ spaces 8) ∷ (65 ∷ 32 ∷ 66 ∷ spaces 7) ∷ (127 ∷ spaces 9) ∷ (65 ∷ replicate 9 0) ∷ [])
          ++ (trade_for (spaces 8) 6 81 q1 6 ∷ trade_for (32 ∷ 65 ∷ spaces 6) 7 81 q1 7 ∷ []);
      arrivals = in_order 11;
      said = replicate 4 0 ++ replicate 7 5;
      used = 11;
      shown = priced 1000 1000 1000 1000 (Some (pos 0)) 7 3 4 ∷ [];
    }
    ∷ []

-- days of PLS, whose messages are texts
unfoldable pub spelt : List Case
spelt =
    -- an event of NLS Plus, which is no message here; then an event and a trade
    record {
      sheet = alone 250000;
      day = event 1 79 ∷ letters "       0SO" ∷ letters "34200000TXABCD    Q1             251000      100@   " ∷ [];
      arrivals = 1 ∷ 2 ∷ 3 ∷ [];
      said = 4 ∷ 0 ∷ 0 ∷ [];
      used = 3;
      shown = silent 250000 251000 251000 251000 (Some (pos 1000)) 100 1 ∷ [];
    }
    -- W, all at X: its rows, with nothing reported
    ∷ record {
      sheet = alone 250000;
      day =
          letters "    1000SO"
          ∷ letters "    2000TXABCD    Q1             251000      100@   "
          ∷ letters "    3000TXABCD    Q2             260000      300@   "
          ∷ letters "    4000TXABCD    Q3             249000       50@  I"
          ∷ letters "    5000XXABCD    Q2             260000      300@   "
          ∷ letters "    6000CXABCD    Q1             251000      100@   9             252500      120@   "
          ∷ [];
      arrivals = in_order 6;
      said = replicate 6 0;
      used = 6;
      shown = silent 250000 252500 252500 252500 (Some (pos 2500)) 170 2 ∷ [];
    }
    -- a cancel names its trade however it spells price and size; with another size it differs from the line
    ∷ record {
      sheet = alone 250000;
      day =
          letters "00001000SO"
          ∷ letters "    2000TXABCD    Q1             251000      100@   "
          ∷ letters "    3000XXABCD    Q1             251000      101@   "
          ∷ letters "00004000XXABCD    Q1         0000251000000000100@   "
          ∷ [];
      arrivals = in_order 4;
      said = 0 ∷ 0 ∷ 10 ∷ 0 ∷ [];
      used = 4;
      shown = figures 250000 None None None None 0 0 false None ∷ [];
    }
    -- a price that four bytes would take for 1, no digit, three decimals, centre Q, class B, a J and a trade of NLS Plus
    ∷ record {
      sheet = alone 250000;
      day =
          letters "    1000SO"
          ∷ letters "    2000TXABCD    Q1         4294967297      100@   "
          ∷ letters "    2000TXABCD    Q1             251000         @   "
          ∷ letters "    2000TXABCD    Q1                001      100@   "
          ∷ letters "    2000TQABCD    Q1             251000      100@   "
          ∷ letters "    2000TXABCD    B1             251000      100@   "
          ∷ summary 7 260000 251000 700
          ∷ trade 8 88 q1 800
          ∷ [];
      arrivals = in_order 8;
      said = 0 ∷ replicate 5 5 ++ (4 ∷ 4 ∷ []);
      used = 8;
      shown = figures 250000 None None None None 0 0 false None ∷ [];
    }
    ∷ []

-- the whole table
abbrev pub DaysAsSaid : Type 0
DaysAsSaid =
    AsSaid NlsPlus numbered × AsSaid NlsPlus marked × AsSaid NlsPlus summed × AsSaid NlsPlus answered × AsSaid NlsPlus bounded
    × AsSaid Pls spelt
