-- `plswrite::number::put_low` meets its contract. The loop: the digits that are to be stored, with those that are, make the whole.
-- Assumes nothing.
use native.Mathlib.Omega.{arith}
use Rattle.plswrite.proofs.Shown.{low_four}
use Rattle.plswrite.proofs.number.put_low.Goals as goal

pub loop-i-preserved : goal.loop-i-preserved
loop-i-preserved c = let e = c.put_four-y.ensures in low_four _ _ _ _ _ _ _ _ _ _ c.loop-i.invariant (omega arith) e.bytes e.left
