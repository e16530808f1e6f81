-- `octets::run::to_front` meets its contract.
-- Assumes nothing.
use mathlib.Core.Path.{◌≡◌, ap, ◌∙◌}
use Prim.Native.Nat.{ℕ, ◌+◌, ◌-◌}
use native.Mathlib.Omega.{arith}
use lib.ListN.{length, take, drop, replicate, length-drop}
use lib.Seq.{length-take-le}
use Rattle.octets.proofs.Ends.{moved}
use Rattle.octets.proofs.run.to_front.Goals as goal

pub returns : goal.returns
returns c = let a = c.args in
    let s = c.min-start.result in
    let e = c.min-end.result in
    let i = c.min-inside.result in
    let w : s + i - s ≡ i = omega arith in
    let k : length (take (e - i) (drop i c.copy_within.new.self)) ≡ e - i = length-take-le _ _ (rw length-drop (omega arith)) in
    let z : c.fill.new.self ≡ replicate (e - i) 0 = c.fill.ensures.after (λ y e. e) ∙ ap (λ (n : ℕ). replicate n 0) k in
    rw (c.copy_within.ensures.after, w)
    (moved a.out.now c.fill.new.self a.at a.n s e i c.min-start.ensures c.min-end.ensures c.min-inside.ensures z)
