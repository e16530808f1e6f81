-- `decimal::put_digits` meets its contract. The loop: what is left of the number, stored in the first i places, makes the whole.
-- Assumes nothing.
use mathlib.Core.Path.{◌≡◌, sym, ◌∙◌}
use native.Mathlib.Omega.{arith}
use Rattle.decimal.proofs.Laws.{digit_turn}
use Rattle.decimal.specs.Decimal.{lowest}
use Rattle.decimal.proofs.put_digits.Goals as goal

pub loop-i-preserved : goal.loop-i-preserved
loop-i-preserved c = let a = c.args in
    let l = c.loop-i in
    rw c.put_past.ensures (sym (digit_turn l.out a.at l.i l.y (omega arith)) ∙ l.invariant)

pub returns : goal.returns
unfolding lowest
returns c = let l = c.loop-i in
    let e : l.i ≡ 0 = omega arith in
    rw e at l.invariant
