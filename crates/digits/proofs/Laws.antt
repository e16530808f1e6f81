-- Laws of a number field, over its width and its least number of digits: what spells a number and what is worked out are one, a number
-- that is written is read as it was, and bytes that were read are written as they were exactly if they have the form that we write.
-- Assumes nothing.
use mathlib.Core.Path.{◌≡◌, refl, ap, ap₂, sym, ◌∙◌}
use mathlib.Core.Logic.{◌↔◌}
use mathlib.Core.Bool.{Bool, true, false, cond, not, ◌&&◌, ◌||◌, and-eq-true_iff, or-true}
use mathlib.Core.List.{List, [], ◌∷◌, ◌++◌}
use Prim.Native.Nat.{ℕ, zero, suc, ◌+◌, ◌-◌, ◌^◌, ◌≤◌, ◌<◌, min, max}
use native.Mathlib.Nat.{pow-le-pow_right, one-le-pow}
use native.Mathlib.Omega.{arith}
use borrow.Author.Tests.{leb-true, leb-false, le-leb, eqb-true, eqb-false, eq-eqb, ne_eqb, ltb-true, ltb-false, not-true}
use lib.Dec.{eqb, leb, ltb, lit<}
use lib.ListN.{length, take, drop, get_or, replicate, length-append, length-replicate, length-drop, take-append-drop}
use Rattle.octets.specs.Run.{all}
use Rattle.decimal.specs.Decimal.{digit_count, lowest, decimal, worth, Digits, Decimal}
use Rattle.decimal.proofs.Numbers.{count_most, lowest_length, decimal_length, decimal_is, decimal_one, lowest_digits}
use Rattle.decimal.proofs.Numbers.{worth_again, lowest_again, worth_below}
use Rattle.digits.specs.Field.{Spells, blanks, rest, is_digit, are_digits, spelt, value_of, shown_count, shown_in, lean}

-- ---- digits, as a test and as a fact

digits_are : (xs : List ℕ) → are_digits xs ≡ true → Digits xs
digits_are [] e = tt
digits_are (x ∷ xs) e =
    let p = (and-eq-true_iff (is_digit x) (are_digits xs)).0 e in
    let q = (and-eq-true_iff (leb 48 x) (leb x 57)).0 p.0 in
    (leb-true 48 x q.0, leb-true x 57 q.1, digits_are xs p.1)

are_digits_lem : (xs : List ℕ) → Digits xs → are_digits xs ≡ true
are_digits_lem [] d = refl
are_digits_lem (x ∷ xs) d = rw (le-leb 48 x d.0, le-leb x 57 d.1, are_digits_lem xs d.2)

-- ---- spaces

-- those at the head are spaces
blanks_all : (xs : List ℕ) → all 32 (take (blanks xs) xs) ≡ true
blanks_all [] = refl
blanks_all (x ∷ xs) = go (eqb x 32) refl (blanks_all xs)
  where
    go : (t : Bool) → eqb x 32 ≡ t → all 32 (take (blanks xs) xs) ≡ true → all 32 (take (cond t (suc (blanks xs)) 0) (x ∷ xs)) ≡ true
    go true e r = rw (e, r)
    go false e r = refl

-- behind spaces stand the digits
rest_is : (xs ys : List ℕ) → all 32 xs ≡ true → Digits ys → rest (xs ++ ys) ≡ ys
rest_is [] [] e d = refl
rest_is [] (y ∷ ys) e d = rw (ne_eqb y 32 (λ q. omega (arith, d.0)))
rest_is (x ∷ xs) ys e d =
    let p = (and-eq-true_iff (eqb x 32) (all 32 xs)).0 e in
    rw p.0 (rest_is xs ys p.1 d)

all_replicate : (n v : ℕ) → all v (replicate n v) ≡ true
all_replicate zero v = refl
all_replicate (suc n) v = rw (eq-eqb v v refl, all_replicate n v)

replicate_all : (v : ℕ) (xs : List ℕ) → all v xs ≡ true → replicate (length xs) v ≡ xs
replicate_all v [] e = refl
replicate_all v (x ∷ xs) e =
    let p = (and-eq-true_iff (eqb x v) (all v xs)).0 e in
    ap₂ {C = List ℕ} (λ y ys. y ∷ ys) (sym (eqb-true x v p.0)) (replicate_all v xs p.1)

-- ---- what is said apart is what is worked out

value_spelt : (least : ℕ) (xs : List ℕ) → spelt least xs ≡ true → value_of least xs ≡ worth (rest xs)
unfolding value_of
value_spelt least xs e = rw e

value_none : (least : ℕ) (xs : List ℕ) → spelt least xs ≡ false → value_of least xs ≡ 0
unfolding value_of
value_none least xs e = rw e

pub spells_is : (least : ℕ) (xs : List ℕ) → spelt least xs ≡ true → Spells least xs (value_of least xs)
unfolding spelt
spells_is least xs e =
    let p = (and-eq-true_iff (are_digits (rest xs)) (leb least (length (rest xs)))).0 e in
    record {
      spaces = take (blanks xs) xs;
      shown = rest xs;
      whole = sym (take-append-drop (blanks xs) xs);
      blank = blanks_all xs;
      digits = digits_are (rest xs) p.0;
      enough = leb-true least (length (rest xs)) p.1;
      value = sym (value_spelt least xs e);
    }

-- what is shown is what stands behind the spaces
rest_shown : (least : ℕ) (xs : List ℕ) (x : ℕ) (s : Spells least xs x) → rest xs ≡ s.shown
rest_shown least xs x s = ap rest s.whole ∙ rest_is s.spaces s.shown s.blank s.digits

spelt_shown : (least : ℕ) (xs : List ℕ) (x : ℕ) → Spells least xs x → spelt least xs ≡ true
unfolding spelt
spelt_shown least xs x s =
    rw (rest_shown least xs x s, are_digits_lem s.shown s.digits, le-leb least (length s.shown) s.enough)

-- so a number that bytes spell is one
pub is_spells : (least : ℕ) (xs : List ℕ) (x : ℕ) → Spells least xs x → (spelt least xs ≡ true) × (value_of least xs ≡ x)
is_spells least xs x s =
    let h = spelt_shown least xs x s in
    (h, value_spelt least xs h ∙ ap worth (rest_shown least xs x s) ∙ s.value)

-- ---- lengths and bounds

pub shown_length : (w d x : ℕ) → length (shown_in w d x) ≡ w
unfolding shown_in
shown_length w d x =
    simp (length-append, length-replicate, lowest_length (shown_count w d x) x) (omega arith)

inside : (d : ℕ) (xs : List ℕ) (x : ℕ) (s : Spells d xs x) → length s.shown ≤ length xs
inside d xs x s = omega (arith, ap length s.whole, length-append s.spaces s.shown)

-- a field spells a number that has no more digits than the field has bytes
pub value_below : (d : ℕ) (xs : List ℕ) → value_of d xs < 10 ^ length xs
value_below d xs = go (spelt d xs) refl
  where
    go : (t : Bool) → spelt d xs ≡ t → value_of d xs < 10 ^ length xs
    go true e =
        let s = spells_is d xs e in
        omega
        (arith, s.value, worth_below s.shown s.digits, pow-le-pow_right {n = 10} (lit< tt) (inside d xs (value_of d xs) s))
    go false e = omega (arith, value_none d xs e, one-le-pow (length xs) 10 (lit< tt))

-- ---- written, then read

-- a number has as many digits as are counted
count_below : (x : ℕ) → x < 10 ^ digit_count x
count_below x =
    let d = decimal_is x in
    omega (arith, d.value, worth_below (decimal x) d.digits, ap (λ (k : ℕ). 10 ^ k) (decimal_length x))

-- what is shown of a number that has room is all of it
shown_all : (w d x : ℕ) → x < 10 ^ w → x < 10 ^ shown_count w d x
shown_all w d x h = go (ltb (max d (digit_count x)) w) refl
  where
    go : (t : Bool) → ltb (max d (digit_count x)) w ≡ t → x < 10 ^ shown_count w d x
    go true e =
        let l : max d (digit_count x) < w = ltb-true _ _ e in
        let k : digit_count x ≤ shown_count w d x = omega arith in
        omega (arith, count_below x, pow-le-pow_right {n = 10} (lit< tt) k)
    go false e =
        let l : w ≤ max d (digit_count x) = ltb-false _ _ e in
        let k : shown_count w d x ≡ w = omega arith in
        rw k h

shown_spells : (w d x : ℕ) → d ≤ w → x < 10 ^ w → Spells d (shown_in w d x) x
unfolding shown_in
shown_spells w d x l h =
    let k = shown_count w d x in
    record {
      spaces = replicate (w - k) 32;
      shown = lowest k x;
      whole = refl;
      blank = all_replicate (w - k) 32;
      digits = lowest_digits k x;
      enough = omega (arith, lowest_length k x);
      value = worth_again k x (shown_all w d x h);
    }

-- what is read of a number written is the number
pub digits_again : (w d x : ℕ) → d ≤ w → x < 10 ^ w → (spelt d (shown_in w d x) ≡ true) × (value_of d (shown_in w d x) ≡ x)
digits_again w d x l h = is_spells d (shown_in w d x) x (shown_spells w d x l h)

-- ---- the form that we write

module _ (d : ℕ) (xs : List ℕ) (x : ℕ) (s : Spells d xs x) where
  lean_least : length s.shown ≡ d → lean d xs ≡ true
  unfolding lean
  lean_least e = rw (spelt_shown d xs x s, rest_shown d xs x s, eq-eqb (length s.shown) d e)

  lean_first : (get_or s.shown 0 0 ≡ 48 → ⊥) → lean d xs ≡ true
  unfolding lean
  lean_first n =
      rw (spelt_shown d xs x s, rest_shown d xs x s, ne_eqb (get_or s.shown 0 0) 48 n) (or-true (eqb (length s.shown) d))

  -- what is written has as many digits as were read: then it is the same
  shown_again : shown_count (length xs) d x ≡ length s.shown → shown_in (length xs) d x ≡ xs
  unfolding shown_in
  shown_again e =
      let l : length xs ≡ length s.spaces + length s.shown
      = ap length s.whole ∙ length-append s.spaces s.shown in
      let n : length xs - length s.shown ≡ length s.spaces = omega arith in
      let digits : lowest (length s.shown) x ≡ s.shown
      = ap (lowest (length s.shown)) (sym s.value) ∙ lowest_again s.shown s.digits in
      rw (e, n) (ap₂ {C = List ℕ} (λ p q. p ++ q) (replicate_all 32 s.spaces s.blank) digits ∙ sym s.whole)

-- a number of at most so many digits
pub count_room : (k x : ℕ) → 1 ≤ k → x < 10 ^ k → digit_count x ≤ k
count_room zero x h l = absurd (omega arith)
count_room (suc k) x h l = count_most k x l

-- what is written has the form
pub lean_written : (w d x : ℕ) → 1 ≤ d → d ≤ w → x < 10 ^ w → lean d (shown_in w d x) ≡ true
unfolding decimal shown_spells
lean_written w d x h l b = go (leb (digit_count x) d) refl
  where
    s : Spells d (shown_in w d x) x
    s = shown_spells w d x l b

    go : (t : Bool) → leb (digit_count x) d ≡ t → lean d (shown_in w d x) ≡ true
    go true e =
        let f : digit_count x ≤ d = leb-true _ _ e in
        lean_least d (shown_in w d x) x s (lowest_length (shown_count w d x) x ∙ omega arith)
    go false e =
        let f : d < digit_count x = leb-false _ _ e in
        let k : shown_count w d x ≡ digit_count x = omega (arith, count_room w x (omega arith) b) in
        let q : lowest (shown_count w d x) x ≡ decimal x = ap (λ (n : ℕ). lowest n x) k in
        lean_first d (shown_in w d x) x s
        (λ z. (decimal_is x).lean (omega (arith, decimal_length x)) (ap (λ (ys : List ℕ). get_or ys 0 0) (sym q) ∙ z))

-- and what has the form is written again
lean_again : (d : ℕ) (xs : List ℕ) (x : ℕ) → 1 ≤ d → (s : Spells d xs x)
    → eqb (length s.shown) d || not (eqb (get_or s.shown 0 0) 48) ≡ true → shown_in (length xs) d x ≡ xs
lean_again d xs x h s e = go (eqb (length s.shown) d) refl e
  where
    room : x < 10 ^ length s.shown
    room = omega (arith, s.value, worth_below s.shown s.digits)

    go : (t : Bool) → eqb (length s.shown) d ≡ t → t || not (eqb (get_or s.shown 0 0) 48) ≡ true → shown_in (length xs) d x ≡ xs
    go true q r =
        let n : length s.shown ≡ d = eqb-true _ _ q in
        shown_again d xs x s
        (omega (arith, inside d xs x s, count_room (length s.shown) x (omega arith) room))
    go false q r =
        let whole : Decimal x s.shown
        = record {
          some = omega (arith, s.enough);
          digits = s.digits;
          lean = λ l z. eqb-false (get_or s.shown 0 0) 48 (not-true _ r) z;
          value = s.value;
        } in
        let n : length s.shown ≡ digit_count x
        = ap length (decimal_one x s.shown (decimal x) whole (decimal_is x)) ∙ decimal_length x in
        shown_again d xs x s (omega (arith, inside d xs x s, s.enough))

-- bytes that were read are written as they were exactly if they have the form
pub digits_canonical : (d : ℕ) (xs : List ℕ) → 1 ≤ d → spelt d xs ≡ true
    → (shown_in (length xs) d (value_of d xs) ≡ xs) ↔ (lean d xs ≡ true)
unfolding lean spells_is
digits_canonical d xs h e =
    let s = spells_is d xs e in (
      λ q. ap (lean d) (sym q)
          ∙ lean_written (length xs) d (value_of d xs) h (omega (arith, s.enough, inside d xs (value_of d xs) s)) (value_below d xs),
      λ q. lean_again d xs (value_of d xs) h s ((and-eq-true_iff (spelt d xs) _).0 q).1,
    )
