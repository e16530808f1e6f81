-- `page::printed` meets its contract.
-- Assumes nothing.
use Prim.Native.Nat.{min}
use mathlib.Core.Path.{ap, sym, ◌∙◌}
use Rattle.rows.proofs.Slabs.{used_rows_length}
use Rattle.page.proofs.printed.Goals as goal

pub returns : goal.returns
returns c = c.lesser.ensures
    ∙ ap (min c.args.c.rows) c.limit.ensures
    ∙ sym (used_rows_length c.args.rows.now c.args.c.rows)
