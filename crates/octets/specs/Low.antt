-- Bytes as a number, the first the lowest, as the machines that we know have them: so a few bytes are moved and compared
-- at once.
-- Assumes nothing.
use Rattle.std.specs.Prelude.{ℕ, zero, suc, ◌+◌, ◌*◌, ◌/◌, ◌%◌, List, [], ◌∷◌}

-- the number that a run of bytes is
unfoldable pub low : List ℕ → ℕ
low [] = 0
low (x ∷ xs) = x + 256 * low xs

-- the n lowest bytes of a number, the lowest first
unfoldable pub lows : ℕ → ℕ → List ℕ
lows zero x = []
lows (suc n) x = x % 256 ∷ lows n (x / 256)
