-- `sound::is_sound` meets its contract.
-- Assumes nothing.
use borrow.Author.Tests.{lt-leb, le-leb}
use Rattle.sound.specs.Sound.{sound}
use Rattle.sound.proofs.is_sound.Goals as goal

pub returns-then-c-lt1 : goal.returns-then-c-lt1
unfolding sound
returns-then-c-lt1 c = simp (lt-leb _ _ c.if-c-lt1.true)

pub returns : goal.returns
unfolding sound
returns c = simp (le-leb _ _ c.if-c-lt1.false, c.limit-2.ensures, c.limit.ensures)
