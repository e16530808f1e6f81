-- Numbers of 64 signed bits as the machine holds them. A negative one's size is one more than what is left when it is taken from -1,
-- which is right at the most negative one too.
-- Assumes nothing.
use Prim.Native.Nat.{ℕ, suc, ◌<◌, ◌+◌, ◌^◌}
use mathlib.Core.Path.{◌≡◌, ap, sym, ◌∙◌, subst⁻¹}
use mathlib.Core.Bool.{true, false}
use native.Mathlib.Omega.{arith}
use lib.Dec.{T, lit<}
use lib.IntN.{ℤ, pos, negsuc, nat_abs, ◌-ℤ◌}
use lib.Signed.{mag, lt_z, non_neg}
use mir.Syntax.{w64}
use mir.Val.{Fits, SFits, to_z, of_z}
use mir.Facts.{to_z_pos, to_z-of_z}
use borrow.Author.Tests.{ltb-true, le-ltb}

-- what the machine holds for a number
abbrev pub held : ℤ → ℤ
held z = to_z w64 (of_z w64 z)

-- what is left when it is taken from -1
abbrev pub left : ℤ → ℤ
left y = negsuc 0 -ℤ y

pub held_is : (z : ℤ) → mag z < 2 ^ 63 → held z ≡ z
held_is z h = to_z-of_z {w = w64} (record { sfits = h })

left_is : (a : ℕ) → left (negsuc a) ≡ pos a
left_is a = rw (le-ltb (suc a) 1 (omega arith)) (ap pos (omega arith))

size_is : (a : ℕ) → a < 2 ^ 63 → held (left (negsuc a)) ≡ pos a
size_is a h = ap held (left_is a) ∙ to_z_pos w64 h

pub not_below : (a : ℕ) → lt_z (pos a) (pos 0) ≡ true → ⊥
not_below a t = omega (arith, ltb-true a 0 t)

pub not_above : (a : ℕ) → lt_z (negsuc a) (pos 0) ≡ false → ⊥
not_above a t = let z : ◌≡◌ {A = ℕ} 0 1 = cc in omega arith

-- ---- below zero

pub size_held : (a : ℕ) → a < 2 ^ 63 → held (left (held (negsuc a))) ≡ pos a
size_held a h = ap (λ (y : ℤ). held (left y)) (held_is (negsuc a) h) ∙ size_is a h

pub left_fits : (z : ℤ) → mag z < 2 ^ 63 → lt_z (held z) (pos 0) ≡ true → SFits w64 (left (held z))
left_fits (pos a) h t = absurd (not_below a (rw (held_is (pos a) h) at t))
left_fits (negsuc a) h t = subst⁻¹ (λ (y : ℤ). SFits w64 y) (ap left (held_is (negsuc a) h) ∙ left_is a) (record { sfits = h })

pub left_casts : (z : ℤ) → mag z < 2 ^ 63 → lt_z (held z) (pos 0) ≡ true
    → T (non_neg (held (left (held z)))) × Fits w64 (nat_abs (held (left (held z))))
left_casts (pos a) h t = absurd (not_below a (rw (held_is (pos a) h) at t))
left_casts (negsuc a) h t = subst⁻¹ (λ (y : ℤ). T (non_neg y) × Fits w64 (nat_abs y)) (size_held a h) (tt, record { fits = omega (arith, h) })

pub left_below : (z : ℤ) → mag z < 2 ^ 63 → lt_z (held z) (pos 0) ≡ true → nat_abs (held (left (held z))) < 2 ^ 63
left_below (pos a) h t = absurd (not_below a (rw (held_is (pos a) h) at t))
left_below (negsuc a) h t = subst⁻¹ (λ (y : ℤ). nat_abs y < 2 ^ 63) (size_held a h) h

pub left_adds : (z : ℤ) → mag z < 2 ^ 63 → lt_z (held z) (pos 0) ≡ true → Fits w64 (nat_abs (held (left (held z))) + 1)
left_adds z h t = record { fits = omega (arith, left_below z h t) }

-- ---- from zero on

-- only zero is held as 0
pub zero_is : (z : ℤ) → mag z < 2 ^ 63 → of_z w64 z ≡ 0 → z ≡ pos 0
zero_is z h e = sym (held_is z h) ∙ ap (to_z w64) e ∙ to_z_pos w64 (lit< tt)

pub casts : (z : ℤ) → mag z < 2 ^ 63 → lt_z (held z) (pos 0) ≡ false → T (non_neg (held z)) × Fits w64 (nat_abs (held z))
casts (pos a) h t = subst⁻¹ (λ (y : ℤ). T (non_neg y) × Fits w64 (nat_abs y)) (held_is (pos a) h) (tt, record { fits = omega (arith, h) })
casts (negsuc a) h t = absurd (not_above a (rw (held_is (negsuc a) h) at t))
