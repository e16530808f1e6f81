-- std's bytes of a number, the highest first, are the digits of it, and the number that std reads from bytes is the number
-- that they stand for.
-- Assumes nothing.
use mathlib.Core.Path.{◌≡◌, refl, ap, ◌∙◌}
use mathlib.Core.List.{List, ◌∷◌}
use Prim.Native.Nat.{ℕ, zero, suc, ◌+◌, ◌/◌, ◌%◌, ◌^◌}
use native.Mathlib.Omega.{arith}
use Rattle.std.specs.Int.{w16, w32, w64, from_be_bytes, bytes_high_first}
use Rattle.octets.specs.Run.{tab, part}
use Rattle.numbers.specs.Number.{be, digits}
use Rattle.numbers.proofs.Laws.{digits_join}

module _ (m : List ℕ) (at : ℕ) where
  pub read_two : from_be_bytes w16 (part m at 2) ≡ be (part m at 2)
  unfolding be part tab
  read_two = omega arith

  pub read_four : from_be_bytes w32 (part m at 4) ≡ be (part m at 4)
  unfolding be part tab
  read_four = omega arith

  pub read_eight : from_be_bytes w64 (part m at 8) ≡ be (part m at 8)
  unfolding be part tab
  read_eight = omega arith

pub written : (n x : ℕ) → bytes_high_first n x ≡ digits n x
unfolding digits
written zero x = refl
written (suc zero) x = refl
written (suc (suc n)) x =
    let e : 1 + suc n ≡ suc (suc n) = omega arith in
    ap (λ (xs : List ℕ). x / 256 ^ suc n % 256 ∷ xs) (written (suc n) x)
    ∙ digits_join 1 (suc n) x
    ∙ ap (λ (k : ℕ). digits k x) e
