-- `plswrite::put_sale` meets its contract.
-- Assumes nothing.
use Rattle.plswrite.proofs.Laid.{sale_shown_lem}
use Rattle.plswrite.proofs.put_sale.Goals as goal

pub returns : goal.returns
returns c = let a = c.args in
    rw (
      c.copy_four.ensures,
      c.put_number-2.ensures,
      c.number-2.ensures,
      c.put_number.ensures,
      c.number.ensures,
      c.copy_run.ensures,
    )
    (sale_shown_lem a.out.now a.b.now a.to a.at)
