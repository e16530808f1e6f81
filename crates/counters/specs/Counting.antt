-- What a book was started with, the wanted number, the phase and the counts: one value. Each move keeps what the book was started with.
-- Assumes nothing.
use Rattle.std.specs.Prelude.{ℕ, cond}
use Rattle.bounds.specs.Up.{up}
use Rattle.editions.specs.declared.Edition.{Edition}
use Rattle.kinds.specs.declared.Kind.{Kind}
use Rattle.kinds.specs.Kinds.{is_event, makes_new}
use Rattle.phases.specs.Phases.{phase_of}
use Rattle.counters.specs.declared.Start.{Start}
use Rattle.counters.specs.declared.Counters.{Counters}

-- the greatest number that a message may bear
abbrev pub last_number : ℕ
last_number = 4294967295

-- what a book of an edition is started with
abbrev pub started_for : Edition → Start
started_for e = record { edition = e }

-- what a book of an edition starts from: it wants 1 and has no phase, rows, lines or taken messages
abbrev pub fresh_counters : Edition → Counters
fresh_counters e = record { start = started_for e; wanted = 1; phase = 0; rows = 0; lines = 0; taken = 0 }

-- ---- the counters with one word set and all else equal

abbrev pub with_wanted : ℕ → Counters → Counters
with_wanted n c = record { start = c.start; wanted = n; phase = c.phase; rows = c.rows; lines = c.lines; taken = c.taken }

abbrev pub with_phase : ℕ → Counters → Counters
with_phase n c = record { start = c.start; wanted = c.wanted; phase = n; rows = c.rows; lines = c.lines; taken = c.taken }

abbrev pub with_row_count : ℕ → Counters → Counters
with_row_count n c = record { start = c.start; wanted = c.wanted; phase = c.phase; rows = n; lines = c.lines; taken = c.taken }

abbrev pub with_line_count : ℕ → Counters → Counters
with_line_count n c = record { start = c.start; wanted = c.wanted; phase = c.phase; rows = c.rows; lines = n; taken = c.taken }

abbrev pub with_taken : ℕ → Counters → Counters
with_taken n c = record { start = c.start; wanted = c.wanted; phase = c.phase; rows = c.rows; lines = c.lines; taken = n }

-- ---- each move. `up` is one more, and stays at the greatest number of 64 bits; in a sound book nothing comes near that (`sound_gives`),
-- and below it `up` is one more (`up_is`)

-- used up: wanted number up by one, all else equal
abbrev pub used_up : Counters → Counters
used_up c = with_wanted (up c.wanted) c

abbrev pub advanced : ℕ → Counters → Counters
advanced phase c = with_phase phase c

abbrev pub counted_taken : Counters → Counters
counted_taken c = with_taken (up c.taken) c

abbrev pub one_row_more : Counters → Counters
one_row_more c = with_row_count (up c.rows) c

abbrev pub one_line_more : Counters → Counters
one_line_more c = with_line_count (up c.lines) c

-- a message of a type taken: its number used up and it counted; an event begins its phase, and T and C use a line
unfoldable pub taken_by : Kind → ℕ → Counters → Counters
taken_by kind event c =
    let moved = counted_taken (used_up c) in
    cond (is_event kind) (advanced (phase_of event) moved) (cond (makes_new kind) (one_line_more moved) moved)
