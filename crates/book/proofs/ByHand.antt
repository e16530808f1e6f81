-- The book by hand: what a listing leaves, and what an event, a trade and its cancel leave when they are taken, when their number is
-- used up, and when it was not wanted. The figures are document 01's and come from no definition, so a call that is wrong in the code and
-- in its promise alike is found here.
-- Assumes nothing.
use Rattle.std.specs.Prelude.{None, Option, Some, ℕ}
use Prim.Native.Nat.{ℕ}
use mathlib.Core.Path.{◌≡◌, refl}
use mathlib.Core.List.{List, [], ◌∷◌}
use mathlib.Core.Bool.{Bool, true, false}
use lib.ListN.{replicate}
use Rattle.answers.specs.Cases.{done, says, spends}
use Rattle.octets.specs.Run as Run
use Rattle.numbers.specs.Number as Number
use Rattle.bounds.specs.Up as Up
use Rattle.editions.specs.declared.Edition.{Edition}
use Rattle.editions.specs.declared.Edition.TheVariants.{NlsPlus, Pls}
use Rattle.kinds.specs.Kinds as Kinds
use Rattle.cells.specs.Search as Search
use Rattle.records.specs.declared.Sale.{Sale}
use Rattle.records.specs.declared.Record.{Record}
use Rattle.lines.specs.declared.Line.{Line}
use Rattle.lines.specs.Lines as Lines
use Rattle.rows.specs.declared.Listing.{Listing}
use Rattle.rows.specs.declared.Row.{Row}
use Rattle.rows.specs.Rows as Rows
use Rattle.counters.specs.declared.Counters.{Counters}
use Rattle.counters.specs.Counting as Counting
use Rattle.counters.specs.Counting.{started_for, fresh_counters}
use Rattle.take.specs.Taking as Taking
use Rattle.book.specs.State.{State, lent, rows_in, lines_in}
use Rattle.book.specs.Calls.{with_listing, after}

-- ---- what arrives

abbrev abcd : List ℕ
abcd = 65 ∷ 66 ∷ 67 ∷ 68 ∷ replicate 4 32

abbrev listing : Listing
listing = record { symbol = abcd; close = 258 }

abbrev plain : List ℕ
plain = 64 ∷ 32 ∷ 32 ∷ 32 ∷ []

abbrev no_sale : Sale
no_sale = record { control = replicate 10 0; price = 0; size = 0; condition = replicate 4 0 }

abbrev sale : Sale
sale = record { control = 49 ∷ replicate 9 32; price = 3; size = 4; condition = plain }

-- letter, time, event, centre, symbol, class, sale and consolidated volume
abbrev message : ℕ → ℕ → ℕ → ℕ → List ℕ → ℕ → Sale → ℕ → Record
message letter time event centre symbol class s volume =
    record {
      letter = letter;
      time = time;
      event = event;
      centre = centre;
      symbol = symbol;
      class = class;
      sale = s;
      new = no_sale;
      high = 0;
      low = 0;
      close = 0;
      consolidated = volume;
    }

-- event O, a T of Q 1 and its X
abbrev event : Record
event = message 83 1 79 0 (replicate 8 0) 0 no_sale 0

abbrev trade : Record
trade = message 84 20 0 81 abcd 81 sale 7

abbrev cancel : Record
cancel = message 88 30 0 81 abcd 81 sale 9

-- ---- what is left, in rooms for one row and one line, all 35 at first

abbrev opened : Edition → State
opened e = with_listing (lent (fresh_counters e) (replicate 30 35) (replicate 40 35)) listing

pub record Left : Type 0 where
  pub counters : Counters
  pub rows : List Row
  pub lines : List Line

unfoldable pub left : State → Left
unfolding Run.tab Run.part Number.be Number.digits Up.up Kinds.kind_of Search.first
    Lines.line_from Lines.line_bytes Lines.used_lines Lines.line_in Lines.with_line Lines.with_dead
    Rows.listing_from Rows.summary_at Rows.reported_at Rows.row_from Rows.new_row Rows.report_bytes Rows.used_rows Rows.row_in Rows.in_row
    Taking.lines_by Taking.reported_by Taking.rows_by Counting.taken_by
left s = record { counters = s.counters; rows = rows_in s; lines = lines_in s }

-- edition, wanted number, phase, rows, lines, taken
abbrev counted : Edition → ℕ → ℕ → ℕ → ℕ → ℕ → Counters
counted e wanted phase rows lines taken =
    record { start = started_for e; wanted = wanted; phase = phase; rows = rows; lines = lines; taken = taken }

abbrev row : Option ℕ → Row
row reported = record { listing = listing; summary = None; reported = reported }

-- the trade's line, whose place is its number, 2
abbrev line : Bool → Line
line live =
    record {
      key = 81 ∷ 49 ∷ replicate 9 32;
      symbol = abcd;
      price = 3;
      size = 4;
      condition = plain;
      place = 2;
      time = 20;
      live = live;
    }

abbrev begun : Edition → State
begun e = after (opened e) event done

abbrev traded : Edition → State
traded e = after (begun e) trade done

abbrev before : Edition → Option ℕ → Left
before e v = record { counters = counted e 3 1 1 1 2; rows = row v ∷ []; lines = line true ∷ [] }

-- a listing; an event, a trade and its cancel taken
pub moves : (left (opened NlsPlus) ≡ record { counters = counted NlsPlus 1 0 1 0 0; rows = row None ∷ []; lines = [] })
    × (left (begun NlsPlus) ≡ record { counters = counted NlsPlus 2 1 1 0 1; rows = row None ∷ []; lines = [] })
    × (left (traded NlsPlus) ≡ before NlsPlus (Some 7))
    × (left (after (traded NlsPlus) cancel done)
    ≡ record { counters = counted NlsPlus 4 1 1 1 3; rows = row (Some 9) ∷ []; lines = line false ∷ [] })
unfolding left
moves = (refl, refl, refl, refl)

-- the same in a PLS book, whose messages report no volume: the row stays as it was listed
pub unreported : (left (traded Pls) ≡ before Pls None)
    × (left (after (traded Pls) cancel done)
    ≡ record { counters = counted Pls 4 1 1 1 3; rows = row None ∷ []; lines = line false ∷ [] })
unfolding left
unreported = (refl, refl)

-- the cancel refused: by 10, which uses its number up, and by 3, which does not
pub stays : (left (after (traded NlsPlus) cancel (spends 10 true))
    ≡ record { counters = counted NlsPlus 4 1 1 1 2; rows = row (Some 7) ∷ []; lines = line true ∷ [] })
    × (left (after (traded NlsPlus) cancel (says 3 true)) ≡ before NlsPlus (Some 7))
unfolding left
stays = (refl, refl)
