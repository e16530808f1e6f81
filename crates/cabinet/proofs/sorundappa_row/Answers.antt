-- `cabinet::sorundappa_row` meets its contract.
-- Assumes nothing.
use mathlib.Core.Path.{refl, sym, ◌∙◌}
use Rattle.cabinet.proofs.Calls.{row_said, row_none}
use Rattle.cabinet.proofs.sorundappa_row.Goals as goal

pub returns-in-None : goal.returns-in-None
returns-in-None c =
    let told = row_none _ (sym c.counters.ensures.counters ∙ c.in-None.is) _ c.told.ensures _ in
    record { answer = told.0; row = told.1 }

pub returns-in-Some : goal.returns-in-Some
returns-in-Some c =
    let told = row_said _ _ (sym c.counters.ensures.counters ∙ c.in-Some.is) _ _ _ _
    c.row.ensures c.row_words.ensures.row c.row_words.ensures.answer in
    record { answer = told.0; row = told.1 }
