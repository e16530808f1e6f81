-- `octets::run::fill` meets its contract.
-- Assumes nothing.
use mathlib.Core.Path.{◌∙◌}
use native.Mathlib.Omega.{arith}
use Rattle.octets.proofs.Ends.{part_inside}
use Rattle.octets.proofs.run.fill.Goals as goal

pub returns-then-n-run : goal.returns-then-n-run
returns-then-n-run c = let a = c.args in
    c.copy_over.ensures ∙ part_inside a.s.now c.rest-run.result.now a.at _ c.rest-run.ensures (omega arith)
