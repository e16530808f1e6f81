-- From a number to its bytes and back, and from bytes to their number and back.
-- Assumes nothing.
use mathlib.Core.Path.{◌≡◌, refl, ap, sym, ◌∙◌}
use mathlib.Core.List.{List, [], ◌∷◌, ◌++◌}
use Prim.Native.Nat.{ℕ, zero, suc, ◌+◌, ◌*◌, ◌/◌, ◌%◌, ◌^◌, ◌<◌}
use native.Mathlib.Nat.{pow-succ', div-eq_of_lt}
use native.Mathlib.Omega.{arith}
use lib.ListN.{get_or, drop, replicate}
use lib.Seq.{drop_at}
use Rattle.octets.specs.Run.{tab, part, Bytes}
use Rattle.octets.proofs.Laws.{part_snoc, part_length}
use Rattle.octets.proofs.Trips.{join}
use Rattle.numbers.specs.Number.{be, digits}
use Rattle.numbers.proofs.Laws.{be_part, be_below, after_snoc, digits_join, digits_length}

-- one number written out: the highest byte is the first, and each counts 256 times the one behind it
pub big_endian : (be (0 ∷ 3 ∷ 208 ∷ 144 ∷ []) ≡ 250000) × (digits 4 250000 ≡ 0 ∷ 3 ∷ 208 ∷ 144 ∷ [])
unfolding be digits
big_endian = (refl, refl)

-- a number that fits comes back from its bytes
pub be_digits : (n x : ℕ) → x < 256 ^ n → be (digits n x) ≡ x
unfolding be digits
be_digits zero x h = omega arith
be_digits (suc n) x h =
    let g : x / 256 < 256 ^ n = omega (arith, pow-succ' 256 n) in
    let e : be (digits n (x / 256)) ≡ x / 256 = be_digits n (x / 256) g in
    after_snoc 0 (digits n (x / 256)) (x % 256) ∙ omega arith

-- bytes come back from their number
pub digits_part : (m : List ℕ) (at n : ℕ) → Bytes m → digits n (be (part m at n)) ≡ part m at n
unfolding digits part tab
digits_part m at zero b = refl
digits_part m at (suc n) b =
    let x = be (part m at n) in
    let y = get_or m (at + n) 0 in
    let h : y < 256 = b (at + n) in
    let e : be (part m at (suc n)) ≡ x * 256 + y = be_part m at n in
    let q : (x * 256 + y) / 256 ≡ x = omega arith in
    let r : (x * 256 + y) % 256 ≡ y = omega arith in
    let d : digits (suc n) (x * 256 + y) ≡ digits n x ++ (y ∷ []) = rw (q, r) in
    ap (digits (suc n)) e ∙ d ∙ ap (λ (xs : List ℕ). xs ++ (y ∷ [])) (digits_part m at n b) ∙ sym (part_snoc m at n)

-- ---- a number in more bytes than it was read from, and in fewer

none_of_zero : (k : ℕ) → digits k 0 ≡ replicate k 0
unfolding digits
none_of_zero zero = refl
none_of_zero (suc k) = ap (λ (xs : List ℕ). xs ++ (0 ∷ [])) (none_of_zero k) ∙ behind k
  where
    behind : (k : ℕ) → replicate {A = ℕ} k 0 ++ (0 ∷ []) ≡ replicate (suc k) 0
    behind zero = refl
    behind (suc k) = ap (λ (xs : List ℕ). 0 ∷ xs) (behind k)

-- in more bytes, zeros stand before those that it was read from
pub digits_wider : (m : List ℕ) (at k n : ℕ) → Bytes m → digits (k + n) (be (part m at n)) ≡ replicate k 0 ++ part m at n
digits_wider m at k n b =
    let x = be (part m at n) in
    let z : x / 256 ^ n ≡ 0 = div-eq_of_lt (be_below m at n b) in
    sym (digits_join k n x)
    ∙ ap (λ (y : ℕ). digits k y ++ digits n x) z
    ∙ ap (λ (xs : List ℕ). xs ++ digits n x) (none_of_zero k)
    ∙ ap (λ (xs : List ℕ). replicate k 0 ++ xs) (digits_part m at n b)

-- in fewer, the last of those that it was read from
pub digits_fewer : (m : List ℕ) (at k n : ℕ) → Bytes m → digits n (be (part m at (k + n))) ≡ part m (at + k) n
digits_fewer m at k n b =
    let x = be (part m at (k + n)) in
    let high = digits k (x / 256 ^ n) in
    let e : high ++ digits n x ≡ part m at k ++ part m (at + k) n
    = digits_join k n x ∙ digits_part m at (k + n) b ∙ sym (join m at k n (at + k) refl) in
    sym (drop_at high (digits n x) k (digits_length k (x / 256 ^ n)))
    ∙ ap (drop k) e
    ∙ drop_at (part m at k) (part m (at + k) n) k (part_length m at k)
