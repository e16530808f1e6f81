-- `numbers::number_past` meets its contract.
-- Assumes nothing.
use mathlib.Core.Path.{ap, ◌∙◌}
use mathlib.Core.List.{List}
use Prim.Native.Nat.{ℕ}
use Rattle.octets.specs.Run.{part}
use Rattle.octets.proofs.Ends.{part_part}
use Rattle.numbers.specs.Number.{be}
use Rattle.numbers.proofs.number_past.Goals as goal

pub returns : goal.returns
returns g c = let a = c.args in
    let n = g.T.Unsigned.WIDTH in
    c.first.ensures
    ∙ ap (λ (xs : List ℕ). be (part xs 0 n)) c.fill.ensures
    ∙ ap be (part_part a.s.now a.at n 8 g.met.T.Unsigned.most)
