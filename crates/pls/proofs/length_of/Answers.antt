-- `pls::length_of` meets its contract.
-- Assumes nothing.
use borrow.Author.Rules.{rules}
use Rattle.pls.specs.Layouts.{layout_s, layout_t, layout_c}
use Rattle.pls.proofs.length_of.Goals as goal

pub returns-in-Event : goal.returns-in-Event
unfolding layout_s
returns-in-Event c = search rules

pub returns-in-Trade : goal.returns-in-Trade
unfolding layout_t
returns-in-Trade c = search rules

pub returns-in-Correction : goal.returns-in-Correction
unfolding layout_c
returns-in-Correction c = search rules
