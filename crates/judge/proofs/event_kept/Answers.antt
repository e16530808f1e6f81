-- `judge::event_kept` meets its contract.
-- Assumes nothing.
use Rattle.octets.specs.Run.{tab, part}
use Rattle.records.specs.Held.{read_by, record_from}
use Rattle.records.specs.Packed.{slots, packed, record_of}
use Rattle.judge.proofs.Asked.{s_rules}
use Rattle.judge.proofs.event_kept.Goals as goal

pub returns : goal.returns
unfolding record_of read_by record_from packed slots part tab
returns c = let a = c.args in
    simp (c.event_ok.ensures, c.time_ok.ensures, c.number.ensures) (s_rules a.edition (record_of a.b.now))
