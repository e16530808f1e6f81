-- The printed wall: its lines in order, the text that they are, and the wall of a whole tape.
-- Assumes nothing.
use Rattle.std.specs.Prelude.{ℕ, List, [], ◌∷◌, ◌++◌, map, get_or, None, Option, Some}
use Rattle.editions.specs.declared.Edition.TheVariants.{NlsPlus}
use Rattle.counters.specs.Counting.{fresh_counters}
use Rattle.rows.specs.declared.Row.{Row}
use Rattle.walk.specs.Walking.{figures_of}
use Rattle.show.specs.declared.RowShown.{RowShown}
use Rattle.show.specs.Showing.{shown_of}
use Rattle.print.specs.Texts.{header_text, row_text, closing_text, stop_text}
use Rattle.book.specs.State.{State, with_counters, rows_in, lines_in}
use Rattle.tape.specs.declared.Stop.{Stop}
use Rattle.tape.specs.declared.Stop.TheVariants.{Ended, NoKind, CutShort}
use Rattle.tape.specs.Playing.{Play, played, joined}

-- ---- the lines

-- a row with the figures of its symbol's live lines
abbrev pub shown_row : State → Row → RowShown
shown_row s w = shown_of w (figures_of w.listing.symbol (lines_in s))

-- a line for each row, in listing order
abbrev pub row_lines : State → List (List ℕ)
row_lines s = map (λ (w : Row). row_text (shown_row s w)) (rows_in s)

-- TAPE STOPS AT, where it does; none where nothing of the tape was left
abbrev pub end_lines : Option ℕ → List (List ℕ)
end_lines None = []
end_lines (Some n) = stop_text n ∷ []

-- what that line says, and nothing where there is none
abbrev pub end_text : Option ℕ → List ℕ
end_text e = get_or (end_lines e) 0 []

-- the columns' names, the rows, the closing line, and then where the tape stops
unfoldable pub wall_lines : State → Option ℕ → List (List ℕ)
wall_lines s e = header_text ∷ (row_lines s ++ (closing_text s.counters.taken s.counters.wanted ∷ end_lines e))

-- line k, and nothing past the last
unfoldable pub line_of : State → Option ℕ → ℕ → List ℕ
line_of s e k = get_or (wall_lines s e) k []

-- ---- the whole

-- line after line
unfoldable pub wall_of : State → Option ℕ → List ℕ
wall_of s e = joined (wall_lines s e)

-- how a play ended: nothing was left, or what is left cannot be played
abbrev pub ending_at : Stop → ℕ → Option ℕ
ending_at Ended n = None
ending_at NoKind n = Some n
ending_at CutShort n = Some n

abbrev pub wall_after : Play → List ℕ
wall_after p = wall_of p.state (ending_at p.stop p.used)

-- what is printed of a tape that is played on a fresh book of NLS Plus in these rooms, whatever they hold at first
unfoldable pub wall_text : State → List ℕ → List ℕ
wall_text rooms tape = wall_after (played (with_counters (fresh_counters NlsPlus) rooms) tape)
