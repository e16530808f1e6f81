-- `print::columns::put_named` meets its contract.
-- Assumes nothing.
use mathlib.Core.Path.{refl}
use Prim.Native.Nat.{◌+◌}
use native.Mathlib.Omega.{arith}
use lib.ListN.{length}
use Rattle.decimal.proofs.Numbers.{decimal_short}
use Rattle.print.proofs.Laws.{run, then, figure}
use Rattle.print.proofs.columns.put_named.Goals as goal

pub overflow_add-result : goal.overflow_add-result
overflow_add-result c = omega (arith, c.put.ensures.count, decimal_short c.args.n c.ranges.n.fits, c.requires.0, c.requires.1)

pub returns : goal.returns
returns c = let p = c.put in
    let name = c.args.name.now in
    then {xs = name} (run 20 c.paste.ensures refl c.requires.1)
    (figure 20 (c.args.at + length name) p.result (p.ensures.bytes, p.ensures.count) (decimal_short c.args.n c.ranges.n.fits))
