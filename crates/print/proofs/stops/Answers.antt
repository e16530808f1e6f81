-- `print::stops` meets its contract.
-- Assumes nothing.
use Rattle.print.specs.Texts.{stop_text}
use Rattle.print.proofs.Laws.{byte, then, from_start}
use Rattle.print.proofs.stops.Goals as goal
use Prim.Native.Nat.{◌<◌, ◌^◌}
use Rattle.print.proofs.stops.Goals.{Start}

-- what a call brings fits its type
pub entered : (c : Start) → c.args.offset < 2 ^ 64
entered c = c.ranges.offset.fits

pub returns : goal.returns
unfolding stop_text
returns c = let told = (from_start (then c.put_named-a.ensures (byte c.put_byte.ensures))) in record { bytes = told.0; count = told.1 }
