-- `plswrite::number::put_rest` meets its contract. The loop: the digits of what is left, stored before those that are, make the whole.
-- Assumes nothing.
use Rattle.plswrite.proofs.Shown.{Rest}
use Rattle.plswrite.proofs.number.put_rest.Given as goal

abbrev pub invariant-loop-y : goal.invariant-loop-y
invariant-loop-y l = Rest l.out l.initial.out l.at l.i l.y l.n l.x

abbrev pub decreases-loop-y : goal.decreases-loop-y
decreases-loop-y l = l.i
