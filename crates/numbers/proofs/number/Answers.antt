-- `numbers::number` meets its contract.
-- Assumes nothing.
use Prim.Native.Nat.{◌+◌}
use mathlib.Core.Path.{ap, ◌∙◌}
use native.Mathlib.Omega.{arith}
use Rattle.octets.proofs.Ends.{part_lent}
use Rattle.numbers.specs.Number.{be}
use Rattle.numbers.proofs.number.Goals as goal

pub returns-then-at-left : goal.returns-then-at-left
returns-then-at-left g c = let a = c.args in
    let n = g.T.Unsigned.WIDTH in
    let w = c.WIDTH-then-at-left.result in
    c.first.ensures ∙ ap be (part_lent a.s.now a.at (a.at + w) n (omega arith) (omega (arith, g.met.T.Unsigned.some)))
