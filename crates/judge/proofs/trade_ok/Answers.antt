-- `judge::trade_ok` meets its contract.
-- Assumes nothing.
use Rattle.octets.specs.Run.{tab, part}
use Rattle.records.specs.Held.{read_by, record_from, sale_from}
use Rattle.records.specs.Packed.{slots, packed, record_of}
use Rattle.judge.specs.Judged.{sale_rules, trade_rules}
use Rattle.judge.proofs.trade_ok.Goals as goal

pub returns : goal.returns
unfolding record_of read_by record_from sale_from packed slots part tab sale_rules trade_rules
returns c = simp (
  c.sale_ok.ensures,
  c.number-size.ensures,
  c.number-price.ensures,
  c.class_ok.ensures,
  c.text.ensures,
  c.centre_ok.ensures,
  c.time_ok.ensures,
  c.number.ensures,
)
