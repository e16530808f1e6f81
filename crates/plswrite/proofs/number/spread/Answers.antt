-- `plswrite::number::spread` meets its contract.
-- Assumes nothing.
use mathlib.Core.Path.{refl}
use Rattle.plswrite.proofs.Shown.{spread_is}
use Rattle.plswrite.proofs.number.spread.Goals as goal

pub returns : goal.returns
returns c = spread_is c.args.x _ refl
