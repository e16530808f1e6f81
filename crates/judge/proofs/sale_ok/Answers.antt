-- `judge::sale_ok` meets its contract.
-- Assumes nothing.
use Rattle.judge.specs.Judged.{sale_rules}
use Rattle.judge.proofs.sale_ok.Goals as goal

pub returns : goal.returns
unfolding sale_rules
returns c = simp (c.condition.ensures, c.size_ok.ensures, c.price_ok.ensures, c.text.ensures)
