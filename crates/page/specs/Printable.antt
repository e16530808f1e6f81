-- What the types say of all that a wall is printed from, and the longest wall that they allow.
-- Assumes nothing.
use Rattle.std.specs.Prelude.{ℕ, ◌+◌, ◌*◌, ◌^◌, ◌<◌, None, Option, Some}
use Rattle.octets.specs.Run.{Bytes}
use Rattle.print.specs.Fits.{header_longest, row_longest, closing_longest, stop_longest}
use Rattle.book.specs.State.{State}

abbrev pub EndingFits : Option ℕ → Type 0
EndingFits None = Unit
EndingFits (Some n) = n < 2 ^ 64

-- the rooms are bytes, the numbers have their widths
pub record Printable (s : State) (e : Option ℕ) : Type 0 where
  pub rows : Bytes s.rows
  pub lines : Bytes s.lines
  pub taken : s.counters.taken < 2 ^ 64
  pub wanted : s.counters.wanted < 2 ^ 64
  pub ending : EndingFits e

-- of so many rows: each line at its longest
abbrev pub wall_longest : ℕ → ℕ
wall_longest rows = header_longest + (rows * row_longest + (closing_longest + stop_longest))
