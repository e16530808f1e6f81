-- Laws of eight bytes as one number, the first byte the lowest; those of any width are octets'.
-- Assumes nothing.
use mathlib.Core.Path.{◌≡◌, ap, ◌∙◌}
use mathlib.Core.List.{List}
use Prim.Native.Nat.{ℕ, ◌+◌, ◌-◌, ◌≤◌}
use native.Mathlib.Omega.{arith}
use lib.Dec.{eqb}
use lib.ListN.{length, take, drop}
use Rattle.std.specs.Int.{w64, swap_bytes}
use Rattle.numbers.specs.Number.{be, digits}
use Rattle.numbers.proofs.Trips.{digits_part}
use Rattle.octets.specs.Run.{part, same, Bytes}
use Rattle.octets.proofs.Laws.{part_length}
use Rattle.octets.proofs.Low.{low_same}
use Rattle.octets.proofs.Trips.{whole, lent}
use Rattle.eights.specs.Low.{low}

-- the eight bytes of a number, turned about
turned : (x : ℕ) → swap_bytes w64 x ≡ low (digits 8 x)
unfolding low digits
turned x = omega arith

-- a number read with the first byte the highest, and turned about
pub low_turned : (m : List ℕ) (at x : ℕ) → Bytes m → x ≡ be (part m at 8) → swap_bytes w64 x ≡ low (part m at 8)
low_turned m at x b e = ap (swap_bytes w64) e ∙ turned (be (part m at 8)) ∙ ap low (digits_part m at 8 b)

-- eight bytes lent to a call, from the part's first byte on
pub low_lent : (m : List ℕ) (at : ℕ) → at + 8 ≤ length m → low (part (take (at + 8 - at) (drop at m)) 0 8) ≡ low (part m at 8)
low_lent m at h =
    let e : take (at + 8 - at) (drop at m) ≡ part m at 8 = lent m at (at + 8) 8 (omega arith) h in
    ap (λ (xs : List ℕ). low (part xs 0 8)) e ∙ ap low (whole (part m at 8) 8 (part_length m at 8))

-- a symbol that a loop knows by its number
abbrev pub Named : ℕ → List ℕ → Type 0
Named name symbol = (length symbol ≡ 8) × Bytes symbol × (name ≡ low (part symbol 0 8))

pub named_same : (m symbol : List ℕ) (at name : ℕ) → Bytes m → Named name symbol
    → eqb (low (part m at 8)) name ≡ same (part m at 8) symbol
named_same m symbol at name b h = rw h.2 (low_same m symbol at 8 b h.1 h.0)
