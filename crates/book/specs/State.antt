-- What a call is lent, and what it leaves: each is one record. Theorems speak of the records, so that a further room or a further word of
-- the counters changes none of them; a contract names the rooms once, where it makes the record of them (`lent`).
-- Assumes nothing.
use Rattle.std.specs.Prelude.{ℕ, List, [], Bool, length}
use Rattle.answers.specs.Answers.{number_of}
use Rattle.editions.specs.declared.Edition.{Edition}
use Rattle.lines.specs.declared.Line.{Line}
use Rattle.lines.specs.Lines.{used_lines}
use Rattle.rows.specs.declared.Listing.{Listing}
use Rattle.rows.specs.declared.Row.{Row}
use Rattle.rows.specs.Rows.{used_rows, sheet_in}
use Rattle.counters.specs.declared.Counters.{Counters}
use Rattle.sound.specs.Sound.{sound, Unsound}
use Rattle.table.specs.Table.{Basis, basis_in}
use Rattle.book.specs.declared.Said.{Said}

-- the counters, and the rooms for rows and for lines as they stand
pub record State : Type 0 where
  pub counters : Counters
  pub rows : List ℕ
  pub lines : List ℕ

abbrev pub lent : Counters → List ℕ → List ℕ → State
lent c rows lines = record { counters = c; rows = rows; lines = lines }

-- a state that is lent no byte
abbrev pub roomless : Counters → State
roomless c = lent c [] []

-- a state with one part set and all else equal
abbrev pub with_counters : Counters → State → State
with_counters c s = lent c s.rows s.lines

abbrev pub with_rows : List ℕ → State → State
with_rows rows s = lent s.counters rows s.lines

abbrev pub with_lines : List ℕ → State → State
with_lines lines s = lent s.counters s.rows lines

-- the answer's number, and the state that is left
pub record Outcome : Type 0 where
  pub answer : ℕ
  pub state : State

-- what a call that told so, and left these rooms, comes to
abbrev pub leaving : Said → List ℕ → List ℕ → Outcome
leaving s rows lines = record { answer = number_of s.answer; state = lent s.counters rows lines }

-- a message under its number, as it arrives
pub record Arrival : Type 0 where
  pub number : ℕ
  pub message : List ℕ

abbrev pub arrives : ℕ → List ℕ → Arrival
arrives n m = record { number = n; message = m }

-- ---- what stands in a state

-- the edition that the book was started for
abbrev pub edition_of : State → Edition
edition_of s = s.counters.start.edition

abbrev pub wanted_in : State → ℕ
wanted_in s = s.counters.wanted

abbrev pub rows_in : State → List Row
rows_in s = used_rows s.rows s.counters.rows

-- the sheet of the day
abbrev pub sheet_of : State → List Listing
sheet_of s = sheet_in (rows_in s)

abbrev pub lines_in : State → List Line
lines_in s = used_lines s.lines s.counters.lines

-- what the table of a message is worked from
abbrev pub basis_of : State → Basis
basis_of s = basis_in s.counters.phase s.rows s.counters.rows s.lines s.counters.lines

abbrev pub sound_in : State → Bool
sound_in s = sound s.counters (length s.rows) (length s.lines)

abbrev pub UnsoundIn : State → Type 0
UnsoundIn s = Unsound s.counters (length s.rows) (length s.lines)
