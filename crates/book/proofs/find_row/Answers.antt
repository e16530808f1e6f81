-- `book::find_row` meets its contract.
-- Assumes nothing.
use mathlib.Core.Path.{ap, sym, ◌∙◌}
use Rattle.book.specs.Calls.{place_told}
use Rattle.book.proofs.Steps.{locate_by, locate_unsound}
use Rattle.book.proofs.find_row.Goals as goal

pub returns-then-not-is_sound : goal.returns-then-not-is_sound
returns-then-not-is_sound c = locate_unsound _ _ (sym c.is_sound.ensures ∙ c.if-not-is_sound.true)

pub returns : goal.returns
returns c =
    ap place_told (c.ok_or.ensures.value)
    ∙ locate_by _ _ (sym c.is_sound.ensures ∙ c.if-not-is_sound.false) _ (sym c.find.ensures)
