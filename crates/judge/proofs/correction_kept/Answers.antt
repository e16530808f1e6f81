-- `judge::correction_kept` meets its contract.
-- Assumes nothing.
use Rattle.octets.specs.Run.{tab, part}
use Rattle.records.specs.Held.{read_by, record_from, new_from}
use Rattle.records.specs.Packed.{slots, packed, record_of}
use Rattle.judge.proofs.Asked.{c_rules}
use Rattle.judge.proofs.correction_kept.Goals as goal

pub returns : goal.returns
unfolding record_of read_by record_from new_from packed slots part tab
returns c = simp (c.sale_ok.ensures, c.number-size.ensures, c.number-price.ensures, c.trade_ok-head.ensures)
    (c_rules c.args.edition (record_of c.args.b.now))
