-- One more, of a number of 64 bits: the greatest of them stays.
-- Assumes nothing.
use Rattle.std.specs.Prelude.{ℕ, suc, ◌-◌, ◌^◌, min}

abbrev pub greatest : ℕ
greatest = 2 ^ 64 - 1

unfoldable pub up : ℕ → ℕ
up x = min (suc x) greatest
