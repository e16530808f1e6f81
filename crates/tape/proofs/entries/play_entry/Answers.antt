-- `tape::entries::play_entry` meets its contract.
-- Assumes nothing.
use Rattle.tape.proofs.Plays.{listing_played, message_played}
use Rattle.tape.proofs.entries.play_entry.Goals as goal

pub returns-then-byte-eq-LISTING : goal.returns-then-byte-eq-LISTING
returns-then-byte-eq-LISTING c = listing_played _ _ _ c.byte.ensures _ c.if-byte-eq-LISTING.true c.list_entry.ensures

pub returns : goal.returns
returns c = message_played _ _ _ c.byte.ensures _ c.if-byte-eq-LISTING.false c.deliver_entry.ensures
