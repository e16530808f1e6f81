-- `cabinet::row_words` meets its contract.
-- Assumes nothing.
use mathlib.Core.Path.{ap, ◌∙◌}
use Rattle.words.specs.Words.{row_words}
use Rattle.cabinet.proofs.row_words.Goals as goal

pub returns-in-Ok-clause-row : goal.returns-in-Ok-clause-row
returns-in-Ok-clause-row c = c.put_row.ensures ∙ ap row_words c.shown_row.ensures
