-- The word of a number of 64 signed bits is its two's complement, as the machine works it out.
-- Assumes nothing.
use Prim.Native.Nat.{ℕ, ◌+◌, ◌-◌, ◌≤◌, ◌<◌, ◌^◌}
use mathlib.Core.Path.{◌≡◌, ap}
use mathlib.Core.Bool.{true, false}
use native.Mathlib.Omega.{arith}
use lib.IntN.{ℤ, pos, negsuc, nat_abs}
use lib.Signed.{mag, lt_z}
use Rattle.numbers.proofs.Signed.{held, left, held_is, size_held, not_below, not_above}
use Rattle.words.specs.Words.{signed_word}

-- below zero a number's size and its word make 2^64, and the word is none of a number from zero on
pub below_zero : (n : ℕ) → n < 2 ^ 63 → (signed_word (negsuc n) + (n + 1) ≡ 2 ^ 64) × (2 ^ 63 ≤ signed_word (negsuc n))
below_zero n h = (omega arith, omega arith)

pub below_word : (z : ℤ) → mag z < 2 ^ 63 → lt_z (held z) (pos 0) ≡ true
    → 18446744073709551615 - nat_abs (held (left (held z))) ≡ signed_word z
below_word (pos a) h t = absurd (not_below a (rw (held_is (pos a) h) at t))
below_word (negsuc a) h t = ap (λ (y : ℤ). 18446744073709551615 - nat_abs y) (size_held a h)

pub above_word : (z : ℤ) → mag z < 2 ^ 63 → lt_z (held z) (pos 0) ≡ false → nat_abs (held z) ≡ signed_word z
above_word (pos a) h t = ap nat_abs (held_is (pos a) h)
above_word (negsuc a) h t = absurd (not_above a (rw (held_is (negsuc a) h) at t))
