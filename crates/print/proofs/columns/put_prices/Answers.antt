-- `print::columns::put_prices` meets its contract.
-- Assumes nothing.
use Rattle.print.proofs.Laws.{then}
use Rattle.print.proofs.columns.put_prices.Goals as goal

pub returns-clause-put : goal.returns-clause-put
returns-clause-put c = then c.put_price-a.ensures.put (then c.put_price-b.ensures.put c.put_price.ensures.put)
