-- `feed::reading::go_on` meets its contract.
-- Assumes nothing.
use mathlib.Core.Path.{refl}
use Rattle.feed.proofs.Laws.{gone_is}
use Rattle.feed.proofs.reading.go_on.Goals as goal

pub returns-clause-stands : goal.returns-clause-stands
returns-clause-stands c = gone_is c.feed-fed.result _ _ _ _ _ _ c.feed-fed.ensures _ refl
