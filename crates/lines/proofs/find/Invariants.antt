-- `lines::find` meets its contract.
-- Assumes nothing.
use mathlib.Core.Path.{◌≡◌}
use Prim.Native.Nat.{◌-◌, ◌*◌, ◌≤◌}
use lib.ListN.{length, drop}
use Rattle.octets.specs.Run.{tab, same}
use Rattle.octets.proofs.Laws.{left}
use Rattle.cells.specs.Search.{first}
use Rattle.lines.specs.Cell.{line_cell, key_length}
use Rattle.lines.specs.Lines.{line_at, line_limit, used_lines, bears, line_with}
use Rattle.lines.proofs.find.Given as goal

abbrev pub invariant-bytes : goal.invariant-bytes
invariant-bytes l = (l.j ≤ key_length) × (same (left l.lines l.key (l.i * line_cell) l.j) (drop l.j l.key) ≡ bears l.key (line_at l.lines l.i))

abbrev pub decreases-bytes : goal.decreases-bytes
decreases-bytes l = key_length - l.j

abbrev pub invariant-lines : goal.invariant-lines
invariant-lines l = (l.i ≤ l.n) × (l.n ≤ line_limit (length l.lines)) × (first (bears l.key) (tab (line_at l.lines) l.i (l.n - l.i)) l.i ≡ line_with l.key (used_lines l.lines l.used))

abbrev pub decreases-lines : goal.decreases-lines
decreases-lines l = l.n - l.i
