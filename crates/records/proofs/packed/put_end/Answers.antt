-- `records::packed::put_end` meets its contract.
-- Assumes nothing.
use Rattle.records.proofs.Stores.{end-stored}
use Rattle.records.proofs.packed.put_end.Goals as goal

pub returns : goal.returns
returns c = let a = c.args in
    rw (c.put-4.ensures, c.put-3.ensures, c.put-2.ensures, c.put.ensures) (end-stored a.b.now a.r)
