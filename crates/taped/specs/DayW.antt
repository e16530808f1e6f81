-- The tape of the day W, entry by entry, and its play on a fresh book in rooms for two rows and twelve lines.
-- Assumes nothing.
use Rattle.std.specs.Prelude.{ℕ, List, [], ◌∷◌, ◌++◌, take, Option}
use Rattle.editions.specs.declared.Edition.TheVariants.{NlsPlus}
use Rattle.book.specs.State.{arrives}
use Rattle.tape.specs.Entries as Entries
use Rattle.tape.specs.Playing as Playing
use Rattle.tape.specs.Entries.{Entry, Lists, Delivers, entry_bytes, tape_of}
use Rattle.tape.specs.Playing.{Play, played}
use Rattle.decimal.specs.Letters.{letters}
use Rattle.decimal.specs.Decimal as Decimal
use Rattle.decimal.specs.Amount as Amount
use Rattle.print.specs.Texts as Texts
use Rattle.clerk.specs.Clerk.{clerk_sheet}
use Rattle.clerk.specs.Arrivals.{upto}
use Rattle.taped.specs.ClerksWall as ClerksWall
use Rattle.taped.specs.ClerksWall.{clerk_wall}
use Rattle.trials.specs.Days.{abcd, w, alone, day_of, fresh_rooms, case_run, clerk_shows}

-- the listing and the six messages, each under its number; the kinds are S T T T X C
unfoldable pub entries_w : List Entry
entries_w =
    Lists (record { symbol = abcd; close = 250000 })
    ∷ Delivers 83 (arrives 1 (day_of w 1))
    ∷ Delivers 84 (arrives 2 (day_of w 2))
    ∷ Delivers 84 (arrives 3 (day_of w 3))
    ∷ Delivers 84 (arrives 4 (day_of w 4))
    ∷ Delivers 88 (arrives 5 (day_of w 5))
    ∷ Delivers 67 (arrives 6 (day_of w 6))
    ∷ []

unfoldable pub tape_w : List ℕ
unfolding case_run Entries.entry_bytes entries_w
tape_w = tape_of entries_w

unfoldable pub play_w : Play
unfolding tape_w Entries.body_length Entries.head_of Entries.entry_of Playing.acted Playing.play_some Playing.played
play_w = played (fresh_rooms NlsPlus) tape_w

-- ---- the wall of W

-- the wall that the clerk prints of its first n messages, in the program's room: 64 rows and 1,024 lines
unfoldable pub wall_w : ℕ → Option ℕ → List ℕ
unfolding clerk_shows ClerksWall.clerk_wall Texts.header_text Texts.row_text Texts.closing_text Texts.stop_text Amount.amount_text
    Decimal.digit_count Decimal.lowest Decimal.decimal
wall_w n e = clerk_wall (clerk_sheet 64 (alone 250000)) 1024 (upto (day_of w) n) e

-- as document 01 prints it
abbrev pub printed_w : List ℕ
printed_w =
    letters
    "SYMBOL LAST HIGH LOW NET VOLUME TRADES CONSOL\nABCD 25.2500 25.2500 25.2500 +0.2500 170 2 600\nTAKEN 6 REFUSED 0 WANTED 7\n"

-- W, and behind it a byte that is no kind: the same lines, and where the tape stops
abbrev pub stopped_w : List ℕ
stopped_w =
    letters "SYMBOL LAST HIGH LOW NET VOLUME TRADES CONSOL\nABCD 25.2500 25.2500 25.2500 +0.2500 170 2 600\n"
    ++ letters "TAKEN 6 REFUSED 0 WANTED 7\nTAPE STOPS AT 296\n"

-- W without its last byte: the correction is not played, and the tape stops at its kind byte
abbrev pub cut_w : List ℕ
cut_w =
    letters "SYMBOL LAST HIGH LOW NET VOLUME TRADES CONSOL\nABCD 25.1000 25.1000 25.1000 +0.1000 150 2 500\n"
    ++ letters "TAKEN 5 REFUSED 0 WANTED 6\nTAPE STOPS AT 224\n"

-- the first six entries, and the seventh without its last byte
unfoldable pub entries_cut : List Entry
entries_cut = take 6 entries_w

unfoldable pub rest_cut : List ℕ
unfolding tape_w entries_cut
rest_cut = take 71 (entry_bytes (Delivers 67 (arrives 6 (day_of w 6))))
