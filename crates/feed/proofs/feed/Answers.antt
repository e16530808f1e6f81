-- `feed::feed` meets its contract.
-- Assumes nothing.
use Rattle.feed.proofs.Laws.{used_fits, fed_is}
use Rattle.feed.proofs.feed.Goals as goal

pub overflow_sub-held : goal.overflow_sub-held
overflow_sub-held c = used_fits _ _ _ _ c.lesser-k.ensures c.play-played.result _ c.play-played.ensures

pub returns : goal.returns
returns c =
    let p = c.play-played in
    fed_is _ _ _ _ c.lesser-k.ensures p.result _ p.ensures _ c.to_front.ensures
