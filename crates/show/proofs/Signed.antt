-- The difference of two prices, each of 32 bits, is exact in 64 signed bits.
-- Assumes nothing.
use Rattle.std.specs.Prelude.{Some}
use Prim.Native.Nat.{ℕ, zero, suc, ◌<◌, ◌^◌, ◌-◌}
use mathlib.Core.Path.{◌≡◌, refl, ap, ◌∙◌, subst⁻¹}
use mathlib.Core.Bool.{Bool, true, false, cond}
use lib.Dec.{ltb}
use native.Mathlib.Omega.{arith}
use lib.IntN.{ℤ, pos, negsuc, ◌-ℤ◌}
use lib.Signed.{mag}
use mir.Syntax.{w64}
use mir.Val.{SFits, to_z}
use mir.Facts.{to_z_pos}
use Rattle.show.specs.Showing.{net_of}

size_of : (t : Bool) (x y n : ℕ) → x < n → y < n → mag (cond t (negsuc x) (pos y)) < n
size_of true x y n hx hy = hx
size_of false x y n hx hy = hy

pub below : (p q : ℕ) → p < 2 ^ 32 → q < 2 ^ 32 → mag (pos p -ℤ pos q) < 2 ^ 63
below p zero hp hq = omega arith
below p (suc q) hp hq = size_of (ltb p (suc q)) (suc q - suc p) (p - suc q) (2 ^ 63) (omega arith) (omega arith)

-- the machine's subtraction is the one of whole numbers
pub net_is : (p q : ℕ) → p < 2 ^ 32 → q < 2 ^ 32 → to_z w64 p -ℤ to_z w64 q ≡ pos p -ℤ pos q
net_is p q hp hq =
    let ep : to_z w64 p ≡ pos p = to_z_pos w64 (omega arith) in
    let eq : to_z w64 q ≡ pos q = to_z_pos w64 (omega arith) in
    ap (λ (z : ℤ). z -ℤ to_z w64 q) ep ∙ ap (λ (z : ℤ). pos p -ℤ z) eq

pub net_fits : (p q : ℕ) → p < 2 ^ 32 → q < 2 ^ 32 → SFits w64 (to_z w64 p -ℤ to_z w64 q)
net_fits p q hp hq = subst⁻¹ (λ (z : ℤ). SFits w64 z) (net_is p q hp hq) (record { sfits = below p q hp hq })

-- at both ends and at zero
pub net_ends : (net_of (Some 1) 2000000000 ≡ Some (negsuc 1999999998)) × (net_of (Some 2000000000) 1 ≡ Some (pos 1999999999))
    × (net_of (Some 2000000000) 2000000000 ≡ Some (pos 0))
net_ends = (refl, refl, refl)
