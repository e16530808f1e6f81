-- `show::shown` meets its contract.
-- Assumes nothing.
use Rattle.show.specs.Showing.{shown_of}
use Rattle.show.proofs.shown.Goals as goal

pub returns : goal.returns
unfolding shown_of
returns c = simp (c.agrees_with.ensures, c.net_of.ensures, c.last_of-last.ensures)
