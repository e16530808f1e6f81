-- `decimal::put` meets its contract.
-- Assumes nothing.
use Rattle.decimal.proofs.Laws.{decimal_put}
use Rattle.decimal.proofs.put.Goals as goal

pub returns : goal.returns
returns c = let a = c.args in
    let d = c.digit_count-k in let told = (decimal_put a.out.now _ a.at d.result a.n d.ensures.0 c.put_digits.ensures) in record { bytes = told.0; count = told.1 }
