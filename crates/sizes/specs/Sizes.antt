-- The sizes that a caller needs: what it lends room by, and how much of it is written.
-- Assumes nothing.
use Rattle.std.specs.Prelude.{ℕ, ◌-◌, cond, List, ◌∷◌, ◌++◌, map, leb, length, get_or}
use Rattle.lines.specs.Cell.{line_cell, line_cap}
use Rattle.rows.specs.Cell.{row_cell, row_cap}
use Rattle.editions.specs.declared.Edition.TheVariants.{NlsPlus, Pls}
use Rattle.kinds.specs.declared.Kind.TheVariants.{Correction}
use Rattle.kinds.specs.Kinds.{all_kinds, kind_at}
use Rattle.formats.specs.Formats.{length_of}
use Rattle.records.specs.Packed.{packed}
use Rattle.words.specs.Words.{counter_count, row_count}

-- the bytes of the longest message, a C of PLS
abbrev pub longest : ℕ
longest = length_of Pls Correction

-- the bytes of a message of each type, edition by edition: S, T, X, C, J; what an edition lacks has none
abbrev pub lengths : List ℕ
lengths = map (length_of NlsPlus) all_kinds ++ map (length_of Pls) all_kinds

-- the same, by the place
abbrev pub length_at : ℕ → ℕ
length_at i = cond (leb (length all_kinds) i) (length_of Pls (kind_at (i - length all_kinds))) (length_of NlsPlus (kind_at i))

-- 0 bytes of a row's cell, 1 rows at most, 2 bytes of a line's cell, 3 lines at most, 4 bytes of the longest message, 5 bytes of a record,
-- 6 words of the counters, 7 words of a row, from 8 on the bytes of a message of each type of NLS Plus, and from 13 on those of PLS
abbrev pub sizes : List ℕ
sizes = row_cell ∷ row_cap ∷ line_cell ∷ line_cap ∷ longest ∷ packed.size ∷ counter_count ∷ row_count ∷ lengths

unfoldable pub size_of : ℕ → ℕ
size_of which = get_or sizes which 0
