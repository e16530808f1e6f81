-- `texts::is_text` meets its contract.
-- Assumes nothing.
use borrow.Author.Tests.{eq-eqb, ne_eqb}
use Rattle.texts.specs.Text as Text
use Rattle.texts.proofs.is_text.Goals as goal

pub returns-then-k-ne0 : goal.returns-then-k-ne0
unfolding Text.text
returns-then-k-ne0 c = rw (← c.inked-k.ensures, ne_eqb _ _ c.if-k-ne0.true) c.is_all.ensures

pub returns-else-k-ne0 : goal.returns-else-k-ne0
unfolding Text.text
returns-else-k-ne0 c = rw (← c.inked-k.ensures, eq-eqb _ _ c.if-k-ne0.false)
