-- `plswrite::number::put_low` meets its contract. The loop: the digits that are to be stored, with those that are, make the whole.
-- Assumes nothing.
use Prim.Native.Nat.{◌+◌, ◌*◌}
use Rattle.plswrite.proofs.Shown.{Low}
use Rattle.plswrite.proofs.number.put_low.Given as goal

abbrev pub invariant-loop-i : goal.invariant-loop-i
invariant-loop-i l = Low l.out l.initial.out l.at (l.before + 4 * l.i) l.y l.n l.x
