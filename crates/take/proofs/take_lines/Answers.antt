-- `take::take_lines` meets its contract.
-- Assumes nothing.
use mathlib.Core.Path.{ap, sym, ◌∙◌}
use Rattle.lines.specs.Lines.{with_line}
use Rattle.take.proofs.Laws.{lines_corrected, lines_killed, lines_added, lines_left}
use Rattle.take.proofs.take_lines.Goals as goal

pub returns-then-is_correction : goal.returns-then-is_correction
returns-then-is_correction c = let a = c.args in
    c.correct.ensures
    ∙ lines_corrected a.kind a.lines.now a.used a.n a.r a.k
    (sym c.is_correction.ensures ∙ c.if-is_correction.true)

pub returns-then-names_old : goal.returns-then-names_old
returns-then-names_old c = let a = c.args in
    c.kill.ensures
    ∙ lines_killed a.kind a.lines.now a.used a.n a.r a.k
    (sym c.is_correction.ensures ∙ c.if-is_correction.false)
    (sym c.names_old.ensures ∙ c.if-names_old.true)

pub returns-then-makes_new : goal.returns-then-makes_new
returns-then-makes_new c = let a = c.args in
    c.put.ensures
    ∙ ap (with_line a.lines.now a.used) c.made_line.ensures
    ∙ lines_added a.kind a.lines.now a.used a.n a.r a.k
    (sym c.names_old.ensures ∙ c.if-names_old.false)
    (sym c.makes_new.ensures ∙ c.if-makes_new.true)

pub returns-else-makes_new : goal.returns-else-makes_new
returns-else-makes_new c = let a = c.args in
    lines_left a.kind a.lines.now a.used a.n a.r a.k
    (sym c.names_old.ensures ∙ c.if-names_old.false)
    (sym c.makes_new.ensures ∙ c.if-makes_new.false)
