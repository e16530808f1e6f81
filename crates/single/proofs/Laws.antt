-- What is read past the end.
-- Assumes nothing.
use mathlib.Core.Path.{◌≡◌, sym}
use mathlib.Core.List.{List}
use Prim.Native.Nat.{ℕ, ◌≤◌}
use lib.ListN.{length, get_or, get_or-eq_default}

-- nothing stands past the end
pub past_end : (m : List ℕ) (k : ℕ) → length m ≤ k → 0 ≡ get_or m k 0
past_end m k h = sym (get_or-eq_default m 0 h)
