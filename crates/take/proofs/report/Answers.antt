-- `take::report` meets its contract.
-- Assumes nothing.
use mathlib.Core.Path.{sym, ◌∙◌}
use Rattle.take.proofs.Laws.{rows_summed, rows_reported, rows_left}
use Rattle.take.proofs.report.Goals as goal

pub returns-then-is_summary : goal.returns-then-is_summary
returns-then-is_summary c = let a = c.args in
    c.summarise.ensures
    ∙ rows_summed a.kind a.rows.now a.r a.i (sym c.is_summary.ensures ∙ c.if-is_summary.true)

pub returns-then-sets_volume : goal.returns-then-sets_volume
returns-then-sets_volume c = let a = c.args in
    c.report.ensures
    ∙ rows_reported a.kind a.rows.now a.r a.i (sym c.is_summary.ensures ∙ c.if-is_summary.false)
    (sym c.sets_volume.ensures ∙ c.if-sets_volume.true)

pub returns-else-sets_volume : goal.returns-else-sets_volume
returns-else-sets_volume c = let a = c.args in
    rows_left a.kind a.rows.now a.r a.i (sym c.is_summary.ensures ∙ c.if-is_summary.false)
    (sym c.sets_volume.ensures ∙ c.if-sets_volume.false)
