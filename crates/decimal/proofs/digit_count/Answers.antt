-- `decimal::digit_count` meets its contract.
-- Assumes nothing.
use native.Mathlib.Omega.{arith}
use Rattle.decimal.proofs.Numbers.{count_by, count_small}
use Rattle.decimal.proofs.digit_count.Goals as goal

pub returns-in-Some : goal.returns-in-Some
returns-in-Some c = let power = c.in-Some in
    let e = count_by power.power c.args.n power.ensures.power_le power.ensures.next_power_gt in
    (omega (arith, e), omega (arith, power.ensures.bound))

pub returns-in-None : goal.returns-in-None
returns-in-None c = let e = count_small c.args.n (omega (arith, c.in-None.ensures.none)) in
    (omega (arith, e), omega arith)
