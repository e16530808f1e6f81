-- `plswrite::number::put_each` meets its contract. The loop: the digits that are to be stored, with those that are, make the whole.
-- Assumes nothing.
use native.Mathlib.Omega.{arith}
use Rattle.plswrite.proofs.Shown.{low_turn, low_end}
use Rattle.plswrite.proofs.number.put_each.Goals as goal

pub loop-i-preserved : goal.loop-i-preserved
loop-i-preserved c = low_turn _ _ _ _ _ _ _ c.loop-i.invariant c.loop-i-test.true

pub returns : goal.returns
returns c = let told = low_end _ _ _ _ _ _ _ c.loop-i.invariant (omega arith) in record { bytes = told.0; left = told.1 }
