-- `plswrite::number::put_number` meets its contract.
-- Assumes nothing.
use mathlib.Core.Path.{ap}
use Prim.Native.Nat.{◌+◌, ◌-◌}
use native.Mathlib.Omega.{arith}
use Rattle.plswrite.specs.Stored.{due}
use Rattle.plswrite.proofs.Shown.{room_left, spaces_put, shown_stored, shown_full}
use Rattle.plswrite.proofs.number.put_number.Goals as goal

pub returns-then-full-x : goal.returns-then-full-x
returns-then-full-x c = let a = c.args in
    shown_full a.out.now _ a.at a.width a.least a.x (omega arith) (omega arith) c.put_low.ensures.bytes

pub put_rest-requires : goal.put_rest-requires
put_rest-requires c = let a = c.args in
    let room = room_left a.width a.least a.x (omega arith) (omega arith) (omega arith) in
    (omega arith, omega (arith, room, ap due c.put_low-left.ensures.left))

pub returns : goal.returns
returns c = let a = c.args in
    shown_stored a.out.now _ _ _ a.at a.width a.least a.x _ (omega arith) (omega arith) (omega arith)
    c.put_low-left.ensures.bytes
    c.put_low-left.ensures.left
    (spaces_put _ _ a.at (a.at + (a.width - a.least)) (a.width - a.least) (omega arith) (omega arith) (c.fill.ensures.after (λ y e. e)))
    c.put_rest.ensures
