-- `eights::low8` meets its contract.
-- Assumes nothing.
use mathlib.Core.Path.{◌∙◌}
use Rattle.eights.proofs.Low.{low_turned}
use Rattle.eights.proofs.low8.Goals as goal

pub returns : goal.returns
returns c = let a = c.args in
    c.swap_bytes.ensures ∙ low_turned a.s.now a.at _ (λ i. (c.type_inv.s i).fits) c.number.ensures
