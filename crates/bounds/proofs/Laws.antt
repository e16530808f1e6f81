-- Laws of one more.
-- Assumes nothing.
use mathlib.Core.Path.{◌≡◌}
use Prim.Native.Nat.{ℕ, ◌+◌, ◌<◌}
use native.Mathlib.Omega.{arith}
use Rattle.bounds.specs.Up.{greatest, up}

-- below the greatest number one more is one more
pub up_is : (x : ℕ) → x < greatest → up x ≡ x + 1
unfolding up
up_is x h = omega arith
