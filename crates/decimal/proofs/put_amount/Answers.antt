-- `decimal::put_amount` meets its contract.
-- Assumes nothing.
use native.Mathlib.Omega.{arith}
use borrow.Author.Rules.{rules}
use Rattle.decimal.proofs.Numbers.{short_of}
use Rattle.decimal.proofs.Laws.{amount_put}
use Rattle.decimal.proofs.put_amount.Goals as goal

pub overflow_add-result : goal.overflow_add-result
overflow_add-result c = omega (arith, short_of c.put-k.ensures.count (omega (arith, c.ranges.n)))

pub returns : goal.returns
returns c = let a = c.args in
    let p = c.put-k in
    let told = amount_put a.out.now _ _ _ a.at p.result c.saturating_add-point.result c.saturating_add.result a.n (search rules)
    p.ensures.bytes p.ensures.count c.saturating_add-point.ensures c.put_byte.ensures c.saturating_add.ensures
    c.put_digits.ensures in
    record { bytes = told.0; count = told.1 }
