-- The lengths of NLS Plus's messages.
-- Assumes nothing.
use Rattle.std.specs.Prelude.{ℕ}
use Rattle.kinds.specs.declared.Kind.{Kind}
use Rattle.records.specs.Held.{size_in}
use Rattle.packing.specs.Layouts.{layout_of, layout_by}

-- the length of a type's messages; 0 of what is no type
abbrev pub length_of : Kind → ℕ
length_of k = size_in (layout_of k)

-- the length of the messages that bear a letter
unfoldable pub length_by : ℕ → ℕ
length_by k = size_in (layout_by k)
