-- `judge::text` meets its contract.
-- Assumes nothing.
use native.Mathlib.Omega.{arith}
use Prim.Native.Nat.{◌+◌}
use Rattle.octets.proofs.Trips.{lent}
use Rattle.judge.proofs.text.Goals as goal

pub returns : goal.returns
returns c = let a = c.args in
    rw (c.is_text.ensures, lent a.b.now a.at (a.at + a.n) a.n (omega arith) (omega arith))
