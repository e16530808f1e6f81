-- When a book is sound, for room of that many bytes for rows and for lines.
-- Assumes nothing.
use Rattle.std.specs.Prelude.{ℕ, ◌-◌, ◌<◌, ◌⊎◌, Bool, ◌&&◌, leb}
use Rattle.lines.specs.Lines.{line_limit}
use Rattle.rows.specs.Rows.{row_limit}
use Rattle.phases.specs.Phases.{last_phase}
use Rattle.counters.specs.declared.Counters.{Counters}

-- the faults of a book, one by one: the wanted number outside 1 to 4,294,967,296, too many rows, too many lines, a phase that is
-- none of the seven, more messages taken than numbers used up
abbrev pub Unsound : Counters → ℕ → ℕ → Type 0
Unsound c rows lines =
    ((c.wanted < 1) ⊎ (4294967296 < c.wanted))
    ⊎ ((row_limit rows < c.rows) ⊎ ((line_limit lines < c.lines) ⊎ ((last_phase < c.phase) ⊎ (c.wanted - 1 < c.taken))))

-- the same, as a test
unfoldable pub sound : Counters → ℕ → ℕ → Bool
sound c rows lines =
    leb 1 c.wanted && leb c.wanted 4294967296 && leb c.rows (row_limit rows) && leb c.lines (line_limit lines)
    && leb c.phase last_phase && leb c.taken (c.wanted - 1)
