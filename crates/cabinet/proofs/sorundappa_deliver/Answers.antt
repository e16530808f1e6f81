-- `cabinet::sorundappa_deliver` meets its contract.
-- Assumes nothing.
use mathlib.Core.Path.{sym, ◌∙◌}
use Rattle.cabinet.specs.Crossing.{holding}
use Rattle.cabinet.proofs.Calls.{deliver_said, deliver_none}
use Rattle.cabinet.proofs.sorundappa_deliver.Goals as goal

pub returns-in-None-clause-left : goal.returns-in-None-clause-left
returns-in-None-clause-left c =
    let a = c.args in
    deliver_none (holding a.counters.now a.rows.now a.lines.now) (sym c.counters.ensures.counters ∙ c.in-None.is) _ c.told.ensures _

pub returns-in-Some-clause-left : goal.returns-in-Some-clause-left
returns-in-Some-clause-left c =
    deliver_said _ _ (sym c.counters.ensures.counters ∙ c.in-Some.is) c.deliver-delivered.result _ _ _ _ c.put_counters.ensures
    c.told-in-Some.ensures _ c.deliver-delivered.ensures
