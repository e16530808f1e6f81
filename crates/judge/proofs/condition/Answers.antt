-- `judge::condition` meets its contract.
-- Assumes nothing.
use mathlib.Core.Path.{◌∙◌}
use Rattle.judge.proofs.Runs.{four_bytes}
use Rattle.judge.proofs.condition.Goals as goal

pub returns : goal.returns
returns c = let a = c.args in
    c.condition_ok.ensures ∙ four_bytes a.b.now a.at
