-- `decimal::put_behind` meets its contract.
-- Assumes nothing.
use native.Mathlib.Omega.{arith}
use borrow.Author.Rules.{rules}
use Rattle.decimal.specs.Amount.{amount_text}
use Rattle.decimal.proofs.Amount.{amount_short}
use Rattle.decimal.proofs.Laws.{byte_then}
use Rattle.decimal.proofs.put_behind.Goals as goal

pub overflow_add-result : goal.overflow_add-result
overflow_add-result c = omega (arith, c.put_amount.ensures.count, amount_short c.args.n (omega (arith, c.ranges.n)))

pub returns : goal.returns
returns c = let a = c.args in
    let p = c.put_amount in record {
      bytes = byte_then a.out.now _ _ (amount_text a.n) a.at c.saturating_add.result a.sign (search rules) c.put_byte.ensures
          c.saturating_add.ensures p.ensures.bytes;
      count = omega (arith, p.ensures.count);
    }
