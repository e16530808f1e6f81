-- `page::write` meets its contract. After k lines these stand in `out`, as far as there is room.
-- Assumes nothing.
use Prim.Native.Nat.{◌≤◌, ◌-◌}
use Rattle.book.specs.State.{lent}
use Rattle.page.proofs.Laws.{Written}
use Rattle.page.proofs.write.Given as goal

abbrev pub invariant-loop-k : goal.invariant-loop-k
invariant-loop-k l = (l.k ≤ l.end) × Written (lent l.c l.rows l.lines) l.ending l.initial.out l.k l.at l.out

abbrev pub decreases-loop-k : goal.decreases-loop-k
decreases-loop-k l = l.end - l.k
