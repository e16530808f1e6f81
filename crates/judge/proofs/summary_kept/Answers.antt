-- `judge::summary_kept` meets its contract.
-- Assumes nothing.
use mathlib.Core.Bool.{and-true}
use Rattle.octets.specs.Run.{tab, part}
use Rattle.layout.specs.Tables.{kept_by}
use Rattle.records.specs.Held.{holds, read_by, record_from, sale_from, new_from}
use Rattle.records.specs.Packed.{slots, packed, record_of}
use Rattle.packing.specs.Layouts.{layout_j}
use Rattle.judge.proofs.summary_kept.Goals as goal

pub returns : goal.returns
unfolding record_of read_by record_from sale_from new_from holds packed slots part tab kept_by layout_j
returns c = simp (
  c.summary_price_ok-3.ensures,
  c.number-4.ensures,
  c.summary_price_ok-2.ensures,
  c.number-3.ensures,
  c.summary_price_ok.ensures,
  c.number-2.ensures,
  c.class_ok.ensures,
  c.text.ensures,
  c.time_ok.ensures,
  c.number.ensures,
  and-true,
)
