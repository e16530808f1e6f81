-- `rows::summarise` meets its contract.
-- Assumes nothing.
use mathlib.Core.Path.{refl, ◌∙◌}
use Rattle.rows.proofs.Laws.{in_place, summary_stored}
use Rattle.rows.proofs.summarise.Goals as goal

pub returns-in-Some : goal.returns-in-Some
returns-in-Some c =
    let a = c.args in
    summary_stored a.rows.now _ _ _ c.in-Some.at a.high a.low refl c.put.ensures c.put-in-Some.ensures
    ∙ in_place a.rows.now a.i _ _ _ c.in-Some.ensures.0 c.in-Some.ensures.1
