-- `walk::walk` meets its contract. The loop: what is left of the lines, with the figures so far, makes the whole.
-- Assumes nothing.
use mathlib.Core.Path.{◌≡◌}
use mathlib.Core.List.{List}
use Prim.Native.Nat.{ℕ, ◌-◌, ◌*◌, ◌≤◌}
use Rattle.octets.specs.Run.{tab}
use Rattle.lines.specs.Lines.{line_at, used_lines}
use Rattle.eights.proofs.Low.{Named}
use Rattle.walk.specs.Walking.{fold, tally, figures_of}
use Rattle.walk.proofs.walk.Given as goal

abbrev pub invariant-loop-i : goal.invariant-loop-i
invariant-loop-i l = record {
  volume : l.t.volume ≤ l.i * 4294967295;
  count : l.t.count ≤ l.i;
  rest : (symbol : List ℕ) → Named l.name symbol
      → fold (tally symbol) l.t (tab (line_at l.lines) l.i (l.n - l.i)) ≡ figures_of symbol (used_lines l.lines l.used);
}
