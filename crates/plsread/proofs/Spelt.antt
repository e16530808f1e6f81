-- What the walks over a number field come to.
-- Assumes nothing.
use mathlib.Core.Path.{◌≡◌, refl}
use mathlib.Core.Bool.{Bool, true, false, cond, ◌&&◌}
use mathlib.Core.List.{List, [], ◌∷◌}
use Prim.Native.Nat.{ℕ, suc, ◌+◌, ◌-◌, ◌^◌, ◌≤◌, ◌<◌}
use native.Mathlib.Nat.{pow-le-pow_right}
use native.Mathlib.Omega.{arith}
use borrow.Author.Tests.{le-leb, lt-leb}
use lib.Dec.{eqb, ltb, lit<}
use lib.ListN.{length, drop, get_or, drop_of_length-le, length-drop}
use lib.Seq.{drop-cons}
use Rattle.std.specs.Prelude.{None, Some, MatchOption, unwrap_or}
use Rattle.std.specs.List.{prefix_len}
use Rattle.std.proofs.lemmas.List.Sums.{prefix_len-le-length}
use Rattle.decimal.specs.Decimal.{worth_after, worth}
use Rattle.digits.specs.Field.{blanks, rest, is_digit, are_digits, spelt, value_of}
use Rattle.plsread.specs.Moved.{number_of, storable}

-- ---- the spaces at the head, and what stands behind them

-- as a walk over the bytes counts them
pub blanks_walked : (s : List ℕ) → prefix_len (λ x. eqb x 32) s ≡ blanks s
blanks_walked [] = refl
blanks_walked (x ∷ s) = go (eqb x 32) (blanks_walked s)
  where
    go : (t : Bool) → prefix_len (λ x. eqb x 32) s ≡ blanks s
        → cond t (1 + prefix_len (λ x. eqb x 32) s) 0 ≡ cond t (suc (blanks s)) 0
    go true h = omega (arith, h)
    go false h = refl

-- no more of them than bytes
pub blanks_most : (s : List ℕ) → blanks s ≤ length s
blanks_most s = omega (arith, blanks_walked s, prefix_len-le-length (λ x. eqb x 32) s)

-- ---- what is left of a field, at its head and at its end

module _ (s : List ℕ) (i : ℕ) where
  pub digit_stop : i < length s → is_digit (get_or s i 0) ≡ false → are_digits (drop i s) ≡ false
  digit_stop h e = rw (drop-cons s i 0 h, e)

  pub digits_end : length s ≤ i → are_digits (drop i s) ≡ true
  digits_end h = rw (drop_of_length-le s h)

  pub worth_end : (x : ℕ) → length s ≤ i → worth_after x (drop i s) ≡ x
  worth_end x h = rw (drop_of_length-le s h)

-- the number so far has as many digits as were read, so there is room for one more
pub room_more : (i x : ℕ) → i ≤ 18 → x < 10 ^ i → x < 10 ^ 18
room_more i x h l = omega (arith, pow-le-pow_right {n = 10} (lit< tt) h)

-- ---- what the field says

module _ (least : ℕ) (s : List ℕ) where
  pub number_broken : are_digits (rest s) ≡ false → None ≡ number_of least s
  unfolding number_of spelt value_of
  number_broken e = rw e

  pub number_short : are_digits (rest s) ≡ true → length s - blanks s < least → None ≡ number_of least s
  unfolding number_of spelt value_of
  number_short e l = rw (e, lt-leb least (length (rest s)) (omega (arith, length-drop (blanks s) s)))

  pub number_whole : (x : ℕ) → are_digits (rest s) ≡ true → least ≤ length s - blanks s → x ≡ worth (rest s)
      → Some x ≡ number_of least s
  unfolding number_of spelt value_of
  number_whole x e l w = rw (e, le-leb least (length (rest s)) (omega (arith, length-drop (blanks s) s)), w)

-- ---- what is made of it

module _ (least : ℕ) (s : List ℕ) where
  pub value_told : unwrap_or (number_of least s) 0 ≡ value_of least s
  unfolding number_of value_of
  value_told = go (spelt least s)
    where
      go : (t : Bool) → unwrap_or (cond t (Some (cond t (worth (rest s)) 0)) None) 0 ≡ cond t (worth (rest s)) 0
      go true = refl
      go false = refl

  pub room_told : (r : Bool) → MatchOption (number_of least s) (r ≡ false) (λ x. r ≡ ltb x (2 ^ 32)) → r ≡ storable least s
  unfolding number_of
  room_told r = go (spelt least s)
    where
      go : (t : Bool) → MatchOption (cond t (Some (value_of least s)) None) (r ≡ false) (λ x. r ≡ ltb x (2 ^ 32))
          → r ≡ t && ltb (value_of least s) (2 ^ 32)
      go true h = h
      go false h = h
