-- `print::closing` meets its contract.
-- Assumes nothing.
use Rattle.print.proofs.Laws.{from_start, closing_put}
use Rattle.print.proofs.closing.Goals as goal
use Prim.Native.Nat.{◌<◌, ◌^◌}
use Rattle.print.proofs.closing.Goals.{Start}

-- what a call brings fits its types
pub entered : (c : Start) → (c.args.taken < 2 ^ 64) × (c.args.wanted < 2 ^ 64)
entered c = (c.ranges.taken.fits, c.ranges.wanted.fits)

pub returns : goal.returns
returns c = let a = c.args in let told = (from_start (closing_put a.taken a.wanted c.refused.result c.refused.ensures
    c.put_named-a.ensures c.put_named-b.ensures c.put_named-c.ensures
    c.put_byte.ensures)) in record { bytes = told.0; count = told.1 }
