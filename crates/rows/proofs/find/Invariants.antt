-- `rows::find` meets its contract.
-- Assumes nothing.
use mathlib.Core.Path.{◌≡◌}
use mathlib.Core.Bool.{Bool}
use mathlib.Core.List.{List}
use Prim.Native.Nat.{ℕ, ◌-◌}
use Rattle.octets.specs.Run.{tab}
use Rattle.eights.proofs.Low.{Named}
use Rattle.cells.specs.Search.{first}
use Rattle.rows.specs.declared.Row.{Row}
use Rattle.rows.specs.Rows.{is_of, row_at, used_rows}
use Rattle.rows.proofs.find.Given as goal

abbrev pub serves : List ℕ → Row → Bool
serves symbol r = is_of symbol r.listing

abbrev pub invariant-loop-i : goal.invariant-loop-i
invariant-loop-i l = (symbol : List ℕ) → Named l.name symbol
    → first (serves symbol) (tab (row_at l.rows) l.i (l.n - l.i)) l.i ≡ first (serves symbol) (used_rows l.rows l.used) 0
