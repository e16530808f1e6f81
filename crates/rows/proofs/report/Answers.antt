-- `rows::report` meets its contract.
-- Assumes nothing.
use mathlib.Core.Path.{refl, ◌∙◌}
use Rattle.rows.proofs.Laws.{in_place, report_stored}
use Rattle.rows.proofs.report.Goals as goal

pub returns-in-Some : goal.returns-in-Some
returns-in-Some c =
    let a = c.args in
    report_stored a.rows.now _ _ c.in-Some.at a.volume refl c.put.ensures
    ∙ in_place a.rows.now a.i _ _ _ c.in-Some.ensures.0 c.in-Some.ensures.1
