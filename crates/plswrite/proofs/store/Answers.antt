-- `plswrite::store` meets its contract.
-- Assumes nothing.
use mathlib.Core.Path.{ap, ◌∙◌}
use mathlib.Core.List.{List}
use Prim.Native.Nat.{ℕ, ◌-◌}
use native.Mathlib.Omega.{arith}
use lib.ListN.{take, drop}
use lib.Seq.{sets}
use Rattle.pls.proofs.Laws.{longest}
use Rattle.plswrite.proofs.Laid.{whole_lent}
use Rattle.plswrite.proofs.store.Goals as goal

pub store_whole-requires-2 : goal.store_whole-requires-2
store_whole-requires-2 c = longest c.args.k

pub slice_bounds-paste-end : goal.slice_bounds-paste-end
slice_bounds-paste-end c = omega (arith, c.length_of-n.ensures, longest c.args.k)

pub returns : goal.returns
returns c = let a = c.args in
    c.paste.ensures
    ∙ ap (λ (m : List ℕ). sets a.out.now 0 (take (c.length_of-n.result - 0) (drop 0 m))) c.store_whole-2.ensures
    ∙ whole_lent a.k a.b.now a.out.now c.length_of-n.result c.length_of-n.ensures
