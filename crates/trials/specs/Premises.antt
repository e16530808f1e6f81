-- Small days, each without one of the things that `one_true_day` asks for, and each with one figure that the calls leave and the
-- clerk's, which differ. For a number above N no book is needed: the numbers alone show that n is not at most N. A day shows that the thing
-- cannot be left out altogether, not that less of it would not do. The day's messages are event O, a trade and its cancel.
-- Assumes nothing.
use Rattle.std.specs.Prelude.{ℕ, ◌≤◌, ◌≡◌, List, [], ◌∷◌}
use Rattle.editions.specs.declared.Edition.TheVariants.{NlsPlus}
use Rattle.lines.specs.Lines.{line_limit}
use Rattle.rows.specs.Rows.{row_limit}
use Rattle.book.specs.State.{State, with_counters, with_rows, with_lines, arrives}
use Rattle.book.specs.Calls.{listed, spent, delivered}
use Rattle.clerk.specs.Steps.{Book}
use Rattle.clerk.specs.Clerk as Clerk
use Rattle.clerk.specs.Clerk.{clerk_sheet, clerk_book}
use Rattle.clerk.specs.Arrivals.{Largest, upto}
use Rattle.trials.specs.Days.{abcd, q1, event, trade, cancel, day_of, alone, rows_room, lines_room, fresh_rooms, opened, delivered_in}
use Rattle.trials.specs.Days.{left_by, clerk_shows}

abbrev pub day : ℕ → List ℕ
day = day_of (event 1 79 ∷ trade 2 81 q1 100 ∷ cancel 3 81 q1 200 ∷ [])

-- the clerk's book after the first n
unfoldable pub clerks : ℕ → Book
unfolding clerk_shows Clerk.book_by Clerk.clerk_book
clerks n = clerk_book NlsPlus (clerk_sheet (row_limit rows_room) (alone 250000)) (line_limit lines_room) (upto day n)

-- the book with the sheet finished, and with nothing done
unfoldable pub ready : State
unfolding clerks
ready = opened NlsPlus (alone 250000)

unfoldable pub untouched : State
unfolding ready
untouched = fresh_rooms NlsPlus

-- the book after these arrivals
unfoldable pub after_these : List ℕ → State
unfolding untouched
after_these ns = left_by day ready ns

-- ready, but a number is used up already
unfoldable pub begun : State
unfolding after_these
begun = spent ready

pub record Breaks : Type 0 where
  -- copies that differ: 2 comes as the day has it, a trade, and is too early; then 1; then 2 as event S, and that is used
  pub other_bytes : ((delivered_in (delivered_in (delivered_in ready 2 (day 2)) 1 (day 1)) 2 (event 2 83)).counters.phase ≡ 2)
      × ((clerks 2).phase ≡ 1)
  -- a number above N: 1 and 2 come, where N is 1. No book and no clerk is asked here: what fails is `n ≤ N`
  pub above_last : Largest (1 ∷ 2 ∷ []) 2 × (2 ≤ 1 → ⊥)
  -- n counts numbers that did not come in order: 2, then 1
  pub other_order : ((after_these (2 ∷ 1 ∷ [])).counters.wanted ≡ 2) × ((clerks 2).wanted ≡ 3)
  -- n is less than came in order
  pub not_largest : ((after_these (1 ∷ 2 ∷ [])).counters.wanted ≡ 3) × ((clerks 1).wanted ≡ 2)
  -- the book is not fresh: it has used up a number before
  pub not_fresh : ((left_by day begun (1 ∷ [])).counters.taken ≡ 0) × ((clerks 1).taken ≡ 1)
  -- the sheet is not finished first
  pub lateListing :
      let s = delivered_in untouched 1 (day 1) in
      ((listed s (record { symbol = abcd; close = 250000 })).state.counters.rows ≡ 0) × ((clerks 1).listed ≡ 1)
  -- another room for rows is lent after number 1: the trade's symbol is not listed there
  pub otherRows :
      let s = after_these (1 ∷ []) in
      ((delivered (with_rows untouched.rows s) (arrives 2 (day 2))).state.counters.taken ≡ 1) ×
      ((clerks 2).taken ≡ 2)
  -- no room for lines is lent after number 1: the trade gives 12, and the clerk knows the room that was lent at first
  pub otherSize :
      let s = after_these (1 ∷ []) in
      ((delivered (with_lines [] s) (arrives 2 (day 2))).state.counters.taken ≡ 1) × ((clerks 2).taken ≡ 2)
  -- another room for lines, of the same size, is lent after number 2: the cancel finds no line
  pub otherLines :
      let s = after_these (1 ∷ 2 ∷ []) in
      ((delivered (with_lines untouched.lines s) (arrives 3 (day 3))).state.counters.taken ≡ 2) ×
      ((clerks 3).taken ≡ 3)
  -- the counters of an earlier call are handed in again
  pub oldCounters :
      let s = after_these (1 ∷ 2 ∷ []) in
      let t = delivered_in s 3 (day 3) in
      ((delivered (with_counters s.counters t) (arrives 3 (day 3))).state.counters.taken ≡ 2) × ((clerks 3).taken ≡ 3)
