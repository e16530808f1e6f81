-- `cells::cut` meets its contract.
-- Assumes nothing.
use Prim.Native.Nat.{◌*◌}
use Rattle.cells.proofs.Told.{cell_inside, sliced}
use Rattle.cells.proofs.cut.Goals as goal

pub returns-then-i-cells-clause-inside : goal.returns-then-i-cells-clause-inside
returns-then-i-cells-clause-inside g c = λ h.
    let k = g.C.Cell in
    let m = c.args.room.now in
    rw (c.BYTES.ensures, c.BYTES-then-i-cells.ensures) (sliced m (c.args.i * k.BYTES) k.BYTES (cell_inside k.CAP k.BYTES _ c.args.i h))
