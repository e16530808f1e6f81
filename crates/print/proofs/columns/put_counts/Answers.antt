-- `print::columns::put_counts` meets its contract.
-- Assumes nothing.
use Rattle.print.proofs.Laws.{then}
use Rattle.print.proofs.columns.put_counts.Goals as goal

pub returns-clause-put : goal.returns-clause-put
returns-clause-put c = then c.put_named-a.ensures (then c.put_named-b.ensures c.put_reported.ensures.put)
