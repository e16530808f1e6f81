-- `octets::run::paste` meets its contract.
-- Assumes nothing.
use Prim.Native.Nat.{◌+◌, ◌-◌}
use mathlib.Core.Path.{◌≡◌}
use native.Mathlib.Omega.{arith}
use lib.ListN.{length}
use lib.Seq.{take-length}
use Rattle.octets.proofs.Ends.{stored}
use Rattle.octets.proofs.run.paste.Goals as goal

pub returns-then-s-out : goal.returns-then-s-out
returns-then-s-out c = let a = c.args in
    let m = c.min-start.result in
    let n = length a.s.now in
    let w : m + n - m ≡ n = omega arith in
    rw (w, c.copy_over.ensures) (rw take-length at (stored a.s.now a.out.now a.at m n c.min-start.ensures (omega arith)))
