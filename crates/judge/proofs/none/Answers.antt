-- `judge::none` meets its contract.
-- Assumes nothing.
use mathlib.Core.Path.{ap, ◌∙◌}
use mathlib.Core.Bool.{true, ◌&&◌}
use mathlib.Core.List.{List}
use Prim.Native.Nat.{ℕ, ◌+◌, ◌-◌}
use native.Mathlib.Omega.{arith}
use lib.Dec.{eqb}
use lib.ListN.{take, drop}
use Rattle.std.proofs.Common.{rules, tests}
use Rattle.std.proofs.lemmas.Iterator.{YieldsList-from_slice}
use Rattle.std.proofs.lemmas.Iterator.Consumers.{fold_from_yields_List}
use Rattle.octets.specs.Run.{all}
use Rattle.octets.proofs.Trips.{lent}
use Rattle.judge.proofs.Runs.{none_walked}
use Rattle.judge.proofs.none.Goals as goal

pub returns : goal.returns
returns c = let a = c.args in
    let xs : List ℕ = take (a.at + a.n - a.at) (drop a.at a.b.now) in
    fold_from_yields_List _ (λ t x. t && eqb x 0) true _ c.fold.ensures.ran (YieldsList-from_slice xs (cc))
    (λ t x b q k. search (rules, tests))
    ∙ none_walked true xs
    ∙ ap (all 0) (lent a.b.now a.at (a.at + a.n) a.n (omega arith) (omega arith))
