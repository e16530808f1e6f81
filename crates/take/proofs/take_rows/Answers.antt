-- `take::take_rows` meets its contract.
-- Assumes nothing.
use mathlib.Core.Path.{sym, ◌∙◌}
use Rattle.take.proofs.Laws.{rows_of_reporting, rows_kept}
use Rattle.take.proofs.take_rows.Goals as goal

pub returns-then-does_report : goal.returns-then-does_report
returns-then-does_report c = let a = c.args in
    c.report.ensures
    ∙ rows_of_reporting a.kind a.rows.now a.r a.i a.edition
    (sym c.does_report.ensures ∙ c.if-does_report.true)

pub returns-else-does_report : goal.returns-else-does_report
returns-else-does_report c = let a = c.args in
    sym
    (rows_kept a.kind a.rows.now a.r a.i a.edition (sym c.does_report.ensures ∙ c.if-does_report.false))
