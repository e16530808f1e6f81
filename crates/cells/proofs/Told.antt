-- A cell that is cut out of the room, and runs compared as slices.
-- Assumes nothing.
use Prim.Native.Nat.{ℕ, suc, ◌+◌, ◌-◌, ◌*◌, ◌/◌, ◌≤◌, ◌<◌}
use mathlib.Core.Path.{◌≡◌, refl, ap}
use mathlib.Core.List.{List, [], ◌∷◌}
use mathlib.Core.Bool.{Bool, ◌&&◌}
use native.Mathlib.Nat.{suc-mul, mul-le-mul_right}
use native.Mathlib.Omega.{arith}
use lib.Dec.{eqb}
use lib.ListN.{length, take, drop}
use lib.Pointwise.{pointwise}
use Rattle.std.proofs.Math.Nat.{div-mul-le_self}
use Rattle.octets.specs.Run.{part, same}
use Rattle.octets.proofs.Trips.{lent}
use Rattle.cells.specs.Room.{cell_limit}

-- all of a cell stands inside
pub cell_inside : (cap size room i : ℕ) → i < cell_limit cap size room → i * size + size ≤ room
cell_inside cap size room i h =
    let whole : suc i * size ≤ room / size * size = mul-le-mul_right size (omega arith) in
    omega (arith, suc-mul i size, div-mul-le_self room size)

-- a slice of a room, as the run that stands there
pub sliced : (m : List ℕ) (at n : ℕ) → at + n ≤ length m → take (at + n - at) (drop at m) ≡ part m at n
sliced m at n h = lent m at (at + n) n (omega arith) h

-- ---- runs compared as slices

pub pointwise_same : (xs ys : List ℕ) → pointwise eqb xs ys ≡ same xs ys
pointwise_same [] [] = refl
pointwise_same [] (y ∷ ys) = refl
pointwise_same (x ∷ xs) [] = refl
pointwise_same (x ∷ xs) (y ∷ ys) = ap (λ (b : Bool). eqb x y && b) (pointwise_same xs ys)
