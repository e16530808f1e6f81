-- `table::judge` meets its contract.
-- Assumes nothing.
use mathlib.Core.Path.{◌≡◌, ap, sym, ◌∙◌}
use Rattle.table.proofs.Laws.{not_read, was_read, due_not, due_event, due_listed}
use Rattle.table.proofs.judge.Goals as goal

pub returns-in-Err : goal.returns-in-Err
returns-in-Err c = c.plainly.ensures ∙ not_read _ _ _ _ c.in-Err.is

pub returns-then-not-is_due : goal.returns-then-not-is_due
returns-then-not-is_due c =
    was_read _ _ _ _ c.in-Ok.is _ (c.plainly-then-not-is_due.ensures ∙ sym (due_not _ _ _ (sym c.is_due.ensures ∙ c.if-not-is_due.true)))

pub returns-then-is_event : goal.returns-then-is_event
returns-then-is_event c =
    was_read _ _ _ _ c.in-Ok.is _ (c.plainly-then-is_event.ensures ∙ sym (due_event _ _ _ (sym c.is_due.ensures ∙ c.if-not-is_due.false)
    (sym c.is_event.ensures ∙ c.if-is_event.true)))

pub returns : goal.returns
returns c =
    was_read _ _ _ _ c.in-Ok.is _ (c.judge_listed.ensures ∙ sym (due_listed _ _ _ (sym c.is_due.ensures ∙ c.if-not-is_due.false)
    (sym c.is_event.ensures ∙ c.if-is_event.false)))
