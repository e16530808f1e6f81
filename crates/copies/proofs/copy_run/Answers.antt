-- `copies::copy_run` meets its contract.
-- Assumes nothing.
use Prim.Native.Nat.{◌+◌, ◌-◌}
use mathlib.Core.Path.{◌≡◌}
use native.Mathlib.Omega.{arith}
use lib.ListN.{length, take, drop, length-drop}
use lib.Seq.{length-take-le}
use Rattle.octets.proofs.Ends.{copied}
use Rattle.copies.proofs.copy_run.Goals as goal

pub returns-then-n-out : goal.returns-then-n-out
returns-then-n-out c = let a = c.args in
    let m = c.min-start.result in
    let w : m + a.n - m ≡ a.n = omega arith in
    let k : length (take a.n (drop m a.out.now)) ≡ a.n = length-take-le a.n _ (rw length-drop (omega arith)) in
    rw (c.fill.ensures, w, k) (copied a.out.now a.s.now a.to a.from a.n m a.n c.min-start.ensures (omega arith))
