-- `records::packed::sale_at` meets its contract.
-- Assumes nothing.
use Rattle.records.specs.Held.{sale_from}
use Rattle.records.specs.Packed as W
use Rattle.records.proofs.packed.sale_at.Goals as goal

pub returns : goal.returns
unfolding W.sale_at sale_from
returns c = simp (c.bytes-2.ensures, c.number-2.ensures, c.number.ensures, c.bytes.ensures)
