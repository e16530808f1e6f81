-- `plswrite::number::put_rest` meets its contract. The loop: the digits of what is left, stored before those that are, make the whole.
-- Assumes nothing.
use Prim.Native.Nat.{◌≤◌, ◌<◌}
use native.Mathlib.Omega.{arith}
use lib.ListN.{length-set}
use Rattle.plswrite.proofs.Shown.{rest_place, rest_places, rest_two, rest_end, rest_last}
use Rattle.plswrite.proofs.number.put_rest.Goals as goal

pub overflow_sub-i : goal.overflow_sub-i
overflow_sub-i c =
    let two : 2 ≤ c.loop-y.i = rest_places _ _ _ _ _ _ _ c.loop-y.invariant (omega arith) in
    omega (arith, two)

pub bounds-out-at : goal.bounds-out-at
bounds-out-at c =
    let two : 2 ≤ c.loop-y.i = rest_places _ _ _ _ _ _ _ c.loop-y.invariant (omega arith) in
    omega (arith, two, c.loop-y.invariant.places, c.loop-y.invariant.same)

pub overflow_sub-i-in-loop-y : goal.overflow_sub-i-in-loop-y
overflow_sub-i-in-loop-y c =
    let two : 2 ≤ c.loop-y.i = rest_places _ _ _ _ _ _ _ c.loop-y.invariant (omega arith) in
    omega (arith, two)

pub bounds-out-at-in-loop-y : goal.bounds-out-at-in-loop-y
bounds-out-at-in-loop-y c =
    let two : 2 ≤ c.loop-y.i = rest_places _ _ _ _ _ _ _ c.loop-y.invariant (omega arith) in
    simp length-set (omega (arith, two, c.loop-y.invariant.places, c.loop-y.invariant.same))

pub loop-y-smaller : goal.loop-y-smaller
loop-y-smaller c =
    let two : 2 ≤ c.loop-y.i = rest_places _ _ _ _ _ _ _ c.loop-y.invariant (omega arith) in
    omega (arith, two)

pub loop-y-preserved : goal.loop-y-preserved
loop-y-preserved c = let a = c.args in
    let l = c.loop-y in
    rest_two l.out a.out.now a.at l.i l.y a.n a.x l.invariant (omega arith)

pub returns-then-y-eq0 : goal.returns-then-y-eq0
returns-then-y-eq0 c = let a = c.args in
    let l = c.loop-y in
    rest_end l.out a.out.now a.at l.i l.y a.n a.x l.invariant c.if-y-eq0.true

pub overflow_sub-i-2 : goal.overflow_sub-i-2
overflow_sub-i-2 c =
    let one : 0 < c.loop-y.i = rest_place _ _ _ _ _ _ _ c.loop-y.invariant c.if-y-eq0.false in
    one

pub bounds-out-at-2 : goal.bounds-out-at-2
bounds-out-at-2 c =
    let one : 0 < c.loop-y.i = rest_place _ _ _ _ _ _ _ c.loop-y.invariant c.if-y-eq0.false in
    omega (arith, one, c.loop-y.invariant.places, c.loop-y.invariant.same)

pub returns : goal.returns
returns c = let a = c.args in
    let l = c.loop-y in
    rest_last l.out a.out.now a.at l.i l.y a.n a.x l.invariant (omega arith) c.if-y-eq0.false
