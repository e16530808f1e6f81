-- `judge::kept` meets its contract.
-- Assumes nothing.
use Rattle.judge.proofs.Asked.{t_kept, x_kept}
use Rattle.judge.proofs.kept.Goals as goal

pub returns-in-Trade : goal.returns-in-Trade
returns-in-Trade c = rw (c.trade_ok.ensures, c.in-Trade.is) (t_kept c.args.edition _)

pub returns-in-Cancel : goal.returns-in-Cancel
returns-in-Cancel c = rw (c.trade_ok-in-Cancel.ensures, c.in-Cancel.is) (x_kept c.args.edition _)
