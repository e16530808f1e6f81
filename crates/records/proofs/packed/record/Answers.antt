-- `records::packed::record` meets its contract.
-- Assumes nothing.
use Rattle.octets.specs.Run.{tab, part}
use Rattle.records.specs.Held.{read_by, record_from, sale_from, new_from}
use Rattle.records.specs.Packed as W
use Rattle.records.proofs.packed.record.Goals as goal

pub returns : goal.returns
unfolding W.record_of W.sale_at W.packed W.slots read_by record_from sale_from new_from part tab
returns c = simp (
  c.number-5.ensures,
  c.number-4.ensures,
  c.number-3.ensures,
  c.number-2.ensures,
  c.sale_at-2.ensures,
  c.sale_at.ensures,
  c.byte-4.ensures,
  c.bytes.ensures,
  c.byte-3.ensures,
  c.byte-2.ensures,
  c.number.ensures,
  c.byte.ensures,
)
