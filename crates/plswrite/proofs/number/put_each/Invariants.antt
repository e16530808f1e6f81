-- `plswrite::number::put_each` meets its contract. The loop: the digits that are to be stored, with those that are, make the whole.
-- Assumes nothing.
use Rattle.plswrite.proofs.Shown.{Low}
use Rattle.plswrite.proofs.number.put_each.Given as goal

abbrev pub invariant-loop-i : goal.invariant-loop-i
invariant-loop-i l = Low l.out l.initial.out l.at l.i l.y l.n l.x
