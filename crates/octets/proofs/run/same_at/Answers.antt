-- `octets::run::same_at` meets its contract.
-- Assumes nothing.
use mathlib.Core.Path.{ap, ◌∙◌}
use mathlib.Core.List.{List}
use Prim.Native.Nat.{ℕ}
use lib.ListN.{length}
use Rattle.octets.specs.Run.{same}
use Rattle.octets.proofs.Ends.{part_inside}
use Rattle.octets.proofs.run.same_at.Goals as goal

pub returns-then-t-run : goal.returns-then-t-run
returns-then-t-run c = let a = c.args in
    c.same_run.ensures
    ∙ ap (λ (xs : List ℕ). same xs a.t.now)
    (part_inside a.s.now c.rest-run.result.now a.at (length a.t.now) c.rest-run.ensures c.if-t-run.true)
