-- The bytes of a number are bytes.
-- Assumes nothing.
use Prim.Native.Nat.{ℕ, zero, suc, ◌/◌, ◌%◌}
use mathlib.Core.List.{[], ◌∷◌}
use native.Mathlib.Omega.{arith}
use Rattle.octets.specs.Run.{Bytes}
use Rattle.octets.proofs.Bytes.{none_bytes, cons_bytes, append_bytes}
use Rattle.numbers.specs.Number.{digits}

pub digits_bytes : (n x : ℕ) → Bytes (digits n x)
unfolding digits
digits_bytes zero x = none_bytes
digits_bytes (suc n) x =
    append_bytes (digits n (x / 256)) (x % 256 ∷ []) (digits_bytes n (x / 256)) (cons_bytes (x % 256) [] (omega arith) none_bytes)
