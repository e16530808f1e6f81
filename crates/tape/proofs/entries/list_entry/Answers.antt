-- `tape::entries::list_entry` meets its contract.
-- Assumes nothing.
use Rattle.tape.proofs.Plays.{listing_acted}
use Rattle.tape.proofs.entries.list_entry.Goals as goal

pub returns : goal.returns
returns c = listing_acted _ _ _ _ c.bytes.ensures c.number.ensures _ c.list.ensures
