-- The turns of the loops that store a number field, and what they come to.
-- Assumes nothing.
use mathlib.Core.Path.{◌≡◌, refl, ap, sym, ◌∙◌}
use mathlib.Core.Bool.{Bool, true, false}
use mathlib.Core.List.{List, [], ◌∷◌, ◌++◌, append_assoc, append-nil}
use Prim.Native.Nat.{ℕ, zero, suc, ◌+◌, ◌-◌, ◌*◌, ◌/◌, ◌%◌, ◌^◌, ◌≤◌, ◌<◌, max}
use native.Mathlib.Nat.{add-zero, zero-add, pow-succ', one-le-pow, not-suc-le-zero}
use native.Mathlib.Omega.{arith}
use borrow.Author.Tests.{ltb-true, ltb-false, ne_eqb}
use borrow.Rule.Slice.PartMut.{put_mid}
use lib.Dec.{ltb, lit<}
use lib.ListN.{length, take, drop, set, replicate, length-take, length-drop, length-set, length-replicate, length-append}
use lib.ListN.{replicate-append-replicate}
use lib.Seq.{drop-drop, sets, sets-eq, set-set, set_comm, length-sets}
use Rattle.octets.specs.Low.{low}
use Rattle.octets.proofs.Laws.{sets_then}
use Rattle.decimal.specs.Decimal.{digit_count, lowest}
use Rattle.decimal.proofs.Numbers.{count_small, count_more, lowest_length, decimal_length, decimal_is}
use Rattle.decimal.proofs.Laws.{digit_turn}
use Rattle.digits.specs.Field.{shown_count, shown_in}
use Rattle.digits.proofs.Laws.{count_room}
use Rattle.plswrite.specs.Stored.{higher, due}

-- ---- spaces

-- the part of a list between two places, written over with spaces
pub spaces_put : (l ys : List ℕ) (at to n : ℕ) → to - at ≡ n → at + n ≤ length l
    → ys ≡ replicate (length (take (to - at) (drop at l))) 32 → put_mid at (to - at) l ys ≡ sets l at (replicate n 32)
spaces_put l ys at to n e h f =
    let long : length (take n (drop at l)) ≡ n = simp (length-take, length-drop) (omega arith) in
    let spaces : length (replicate {A = ℕ} n 32) ≡ n = length-replicate n 32 in
    let stored = sets-eq (replicate n 32) l at (omega (arith, spaces)) in
    rw (f, e, long, drop-drop, ← append_assoc) (sym (rw spaces at stored))

-- ---- the lowest digits, from the last to the first

-- what is left of a number, with i of its digits to be stored, and what was there at first
pub record Low (out l : List ℕ) (at i y n x : ℕ) : Type 0 where
  pub places : i ≤ n
  pub same : length out ≡ length l
  pub bytes : sets out at (lowest i y) ≡ sets l at (lowest n x)
  pub left : higher i y ≡ higher n x

pub low_first : (l : List ℕ) (at n x : ℕ) → Low l l at n x n x
low_first l at n x = record { places = omega arith; same = refl; bytes = refl; left = refl }

higher_turn : (i y : ℕ) → 0 < i → higher i y ≡ higher (i - 1) (y / 10)
unfolding higher
higher_turn zero y h = absurd (not-suc-le-zero h)
higher_turn (suc i) y h =
    let e : suc i - 1 ≡ i = omega arith in
    rw e

pub low_turn : (out l : List ℕ) (at i y n x : ℕ) → Low out l at i y n x → 0 < i
    → Low (set out (at + (i - 1)) (48 + y % 10)) l at (i - 1) (y / 10) n x
low_turn out l at i y n x w h =
    record {
      places = omega (arith, w.places);
      same = length-set out (at + (i - 1)) (48 + y % 10) ∙ w.same;
      bytes = sym (digit_turn out at i y h) ∙ w.bytes;
      left = sym (higher_turn i y h) ∙ w.left;
    }

-- where none are to be stored, all stand there
pub low_end : (out l : List ℕ) (at i y n x : ℕ) → Low out l at i y n x → i ≡ 0 → (out ≡ sets l at (lowest n x)) × (y ≡ higher n x)
unfolding lowest higher
low_end out l at i y n x w e = (rw e at w.bytes, rw e at w.left)

-- two of four digits, and one of two
two_low : (x : ℕ) → x % 10000 % 100 ≡ x % 100
two_low x = omega arith

two_high : (x : ℕ) → x % 10000 / 100 ≡ x / 10 / 10 % 100
two_high x =
    let y : x / 10 / 10 ≡ x / 100 = omega arith in
    rw y (omega arith)

one_low : (x : ℕ) → x % 100 % 10 ≡ x % 10
one_low x = omega arith

one_high : (x : ℕ) → x % 100 / 10 ≡ x / 10 % 10
one_high x = omega arith

-- two numbers below 100, side by side: their tens, and both digits of each
module _ (a b : ℕ) (h : a < 100) (k : b < 100) where
  tenths_of : (a + b * 65536) * 103 / 1024 ≡ a / 10 + b * 6592
  tenths_of = omega arith

  tens_of : (a + b * 65536) * 103 / 1024 / 65536 * 65536 + (a + b * 65536) * 103 / 1024 % 16 ≡ b / 10 * 65536 + a / 10
  tens_of =
      let high : (a / 10 + b * 6592) / 65536 ≡ b / 10 = omega arith in
      let low : (a / 10 + b * 6592) % 16 ≡ a / 10 = omega arith in
      rw (tenths_of, high, low)

  digits_of : (a + b * 65536) * 256 - (b / 10 * 65536 + a / 10) * 2559 + 808464432
      ≡ 48 + a / 10 + 256 * (48 + a % 10 + 256 * (48 + b / 10 + 256 * (48 + b % 10)))
  digits_of = omega arith

  tens_less : (b / 10 * 65536 + a / 10) * 2559 ≤ (a + b * 65536) * 256
  tens_less = omega arith

-- what is taken away is there
pub spread_less : (x : ℕ)
    → let twos = x % 10000 / 100 + x % 10000 % 100 * 65536 in
    let tenths = twos * 103 / 1024 in
    (tenths / 65536 * 65536 + tenths % 16) * 2559 ≤ twos * 256
spread_less x =
    let a = x % 10000 / 100 in
    let b = x % 10000 % 100 in
    rw (tens_of a b (omega arith) (omega arith)) (tens_less a b (omega arith) (omega arith))

low_word : (p q r s : ℕ) → low (p ∷ q ∷ r ∷ s ∷ []) ≡ p + 256 * (q + 256 * (r + 256 * s))
unfolding low
low_word p q r s = omega arith

word_is : (x : ℕ) → low (lowest 4 x)
    ≡ 48 + x / 10 / 10 / 10 % 10 + 256 * (48 + x / 10 / 10 % 10 + 256 * (48 + x / 10 % 10 + 256 * (48 + x % 10)))
unfolding lowest
word_is x = low_word (48 + x / 10 / 10 / 10 % 10) (48 + x / 10 / 10 % 10) (48 + x / 10 % 10) (48 + x % 10)

pub spread_is : (x w : ℕ)
    → (let twos = x % 10000 / 100 + x % 10000 % 100 * 65536 in
    let tenths = twos * 103 / 1024 in
    w ≡ twos * 256 - (tenths / 65536 * 65536 + tenths % 16) * 2559 + 808464432)
    → w ≡ low (lowest 4 x)
spread_is x w e =
    let a = x / 10 / 10 % 100 in
    let b = x % 100 in
    let f : w ≡ 48 + a / 10 + 256 * (48 + a % 10 + 256 * (48 + b / 10 + 256 * (48 + b % 10)))
    = rw (two_high x, two_low x, tens_of a b (omega arith) (omega arith)) at e ∙ digits_of a b (omega arith) (omega arith) in
    f ∙ rw (one_high (x / 10 / 10), one_low (x / 10 / 10), one_high x, one_low x) (sym (word_is x))

-- the bytes of a number
bytes_of : (p q r s w : ℕ) → p < 256 → q < 256 → r < 256 → s < 256 → w ≡ p + 256 * (q + 256 * (r + 256 * s))
    → (w % 256 ≡ p) × (w / 256 % 256 ≡ q) × (w / 65536 % 256 ≡ r) × (w / 16777216 ≡ s)
bytes_of p q r s w hp hq hr hs e = (omega arith, omega arith, omega arith, omega arith)

-- the four digits that are stored at once
pub four_low : (l : List ℕ) (at x w : ℕ) → w ≡ low (lowest 4 x)
    → (set (set (set (set l (at + 3) (w / 16777216)) (at + 2) (w / 65536 % 256)) (at + 1) (w / 256 % 256)) at (w % 256)
    ≡ sets l at (lowest 4 x))
    × (x / 10000 ≡ higher 4 x)
four_low l at x w f =
    let b = bytes_of
    (48 + x / 10 / 10 / 10 % 10)
    (48 + x / 10 / 10 % 10)
    (48 + x / 10 % 10)
    (48 + x % 10)
    w
    (omega arith)
    (omega arith)
    (omega arith)
    (omega arith)
    (f ∙ word_is x) in
    let e : x / 10000 ≡ x / 10 / 10 / 10 / 10 = omega arith in
    let one = low_turn l l at 4 x 4 x (low_first l at 4 x) (lit< tt) in
    let two = low_turn _ l at 3 (x / 10) 4 x one (lit< tt) in
    let three = low_turn _ l at 2 (x / 10 / 10) 4 x two (lit< tt) in
    let four = low_turn _ l at 1 (x / 10 / 10 / 10) 4 x three (lit< tt) in
    rw (b.0, b.1, b.2, b.3, e) (rw (add-zero at) at (low_end _ l at 0 (x / 10 / 10 / 10 / 10) 4 x four refl))

-- the lowest digits of a number are those of what is left, and those that are not
higher_more : (n k x : ℕ) → higher (n + k) x ≡ higher k (higher n x)
unfolding higher
higher_more zero k x = ap (λ (j : ℕ). higher j x) (zero-add k)
higher_more (suc n) k x =
    let e : suc n + k ≡ suc (n + k) = omega arith in
    rw e (higher_more n k (x / 10))

lowest_more : (n k x : ℕ) → lowest (n + k) x ≡ lowest k (higher n x) ++ lowest n x
unfolding higher lowest
lowest_more zero k x = ap (λ (j : ℕ). lowest j x) (zero-add k) ∙ sym (append-nil (lowest k x))
lowest_more (suc n) k x =
    let e : suc n + k ≡ suc (n + k) = omega arith in
    rw e
    (ap (λ (xs : List ℕ). xs ++ ((48 + x % 10) ∷ [])) (lowest_more n k (x / 10))
    ∙ append_assoc (lowest k (higher n (x / 10))) (lowest n (x / 10)) ((48 + x % 10) ∷ []))

-- a byte before a run of stores may be stored first
set_first : (ys l : List ℕ) (n j z : ℕ) → n < j → set (sets l j ys) n z ≡ sets (set l n z) j ys
set_first [] l n j z h = refl
set_first (y ∷ ys) l n j z h =
    set_first ys (set l j y) n (suc j) z (omega arith)
    ∙ ap (λ (m : List ℕ). sets m (suc j) ys) (set_comm l j n y z (λ e. omega arith))

-- the second of two runs may be stored first
sets_second : (xs ys l : List ℕ) (at n : ℕ) → at + length xs ≡ n → sets (sets l n ys) at xs ≡ sets l at (xs ++ ys)
sets_second [] ys l at n e = ap (λ (k : ℕ). sets l k ys) (sym e ∙ add-zero at)
sets_second (x ∷ xs) ys l at n e =
    ap (λ (m : List ℕ). sets m (suc at) xs) (set_first ys l at n x (omega arith))
    ∙ sets_second xs ys (set l at x) (suc at) n (omega arith)

pub low_four : (out l m : List ℕ) (at i j y z n x : ℕ) → Low out l at i y n x → i ≡ 4 + j → m ≡ sets out (at + j) (lowest 4 y)
    → z ≡ higher 4 y
    → Low m l at j z n x
low_four out l m at i j y z n x w k e f =
    let place : at + length (lowest j z) ≡ at + j = ap (λ (o : ℕ). at + o) (lowest_length j z) in
    let digits : lowest j z ++ lowest 4 y ≡ lowest i y
    = ap (λ (o : ℕ). lowest j o ++ lowest 4 y) f ∙ sym (lowest_more 4 j y) ∙ ap (λ (o : ℕ). lowest o y) (sym k) in
    record {
      places = omega (arith, w.places);
      same = ap length e ∙ length-sets out (at + j) (lowest 4 y) ∙ w.same;
      bytes =
          ap (λ (o : List ℕ). sets o at (lowest j z)) e
          ∙ sets_second (lowest j z) (lowest 4 y) out at (at + j) place
          ∙ ap (sets out at) digits
          ∙ w.bytes;
      left = ap (higher j) f ∙ sym (higher_more 4 j y) ∙ ap (λ (o : ℕ). higher o y) (sym k) ∙ w.left;
    }

-- ---- the digits of what is left, from the last to the first

due_none : due 0 ≡ 0
unfolding due
due_none = refl

due_some : (x : ℕ) → 0 < x → due x ≡ digit_count x
unfolding due
due_some x h = rw (ne_eqb x 0 (λ e. omega arith))

due_more : (x : ℕ) → 0 < x → due x ≡ suc (due (x / 10))
due_more x h = go (ltb x 10) refl
  where
    go : (t : Bool) → ltb x 10 ≡ t → due x ≡ suc (due (x / 10))
    go true e =
        let l : x < 10 = ltb-true x 10 e in
        let z : x / 10 ≡ 0 = omega arith in
        rw (z, due_none) (due_some x h ∙ count_small x l)
    go false e =
        let l : 10 ≤ x = ltb-false x 10 e in
        due_some x h ∙ count_more x l ∙ ap suc (sym (due_some (x / 10) (omega arith)))

-- the digits of what is left of a number, with i places before those that are stored, and what was there at first
pub record Rest (out l : List ℕ) (at i y n x : ℕ) : Type 0 where
  pub places : i ≤ n
  pub fits : due y ≤ i
  pub first : i - due y ≡ n - due x
  pub same : length out ≡ length l
  pub bytes : sets out (at + (n - due x)) (lowest (due y) y) ≡ sets l (at + (n - due x)) (lowest (due x) x)

pub rest_first : (l : List ℕ) (at n x : ℕ) → due x ≤ n → Rest l l at n x n x
rest_first l at n x h = record { places = omega arith; fits = h; first = refl; same = refl; bytes = refl }

-- a place before the stored digits
pub rest_place : (out l : List ℕ) (at i y n x : ℕ) → Rest out l at i y n x → (y ≡ 0 → ⊥) → 0 < i
rest_place out l at i y n x w h = omega (arith, w.fits, due_more y (omega arith))

pub rest_turn : (out l : List ℕ) (at i y n x : ℕ) → Rest out l at i y n x → (y ≡ 0 → ⊥)
    → Rest (set out (at + (i - 1)) (48 + y % 10)) l at (i - 1) (y / 10) n x
rest_turn out l at i y n x w h =
    let more : due y ≡ suc (due (y / 10)) = due_more y (omega arith) in
    let less : due y - 1 ≡ due (y / 10) = omega arith in
    let p : ℕ = at + (n - due x) in
    let place : p + (due y - 1) ≡ at + (i - 1) = omega (arith, w.fits, w.first) in
    record {
      places = omega (arith, w.places);
      fits = omega (arith, w.fits);
      first = omega (arith, w.fits, w.first);
      same = length-set out (at + (i - 1)) (48 + y % 10) ∙ w.same;
      bytes =
          sym
          (digit_turn out p (due y) y (omega arith)
          ∙ ap (λ (j : ℕ). sets (set out j (48 + y % 10)) p (lowest (due y - 1) (y / 10))) place
          ∙ ap (λ (j : ℕ). sets (set out (at + (i - 1)) (48 + y % 10)) p (lowest j (y / 10))) less)
          ∙ w.bytes;
    }

-- two digits
pub rest_two : (out l : List ℕ) (at i y n x : ℕ) → Rest out l at i y n x → 10 ≤ y
    → Rest (set (set out (at + (i - 1)) (48 + y % 100 % 10)) (at + (i - 1 - 1)) (48 + y % 100 / 10)) l at (i - 1 - 1) (y / 100) n x
rest_two out l at i y n x w h =
    let e : y / 100 ≡ y / 10 / 10 = omega arith in
    let one = rest_turn out l at i y n x w (λ z. omega arith) in
    rw (one_low y, one_high y, e) (rest_turn _ l at (i - 1) (y / 10) n x one (λ z. omega arith))

pub rest_places : (out l : List ℕ) (at i y n x : ℕ) → Rest out l at i y n x → 10 ≤ y → 2 ≤ i
rest_places out l at i y n x w h = omega (arith, w.fits, due_more y (omega arith), due_more (y / 10) (omega arith))

pub rest_end : (out l : List ℕ) (at i y n x : ℕ) → Rest out l at i y n x → y ≡ 0
    → out ≡ sets l (at + (n - due x)) (lowest (due x) x)
unfolding lowest
rest_end out l at i y n x w e = rw (e, due_none) at w.bytes

-- one digit, the first
pub rest_last : (out l : List ℕ) (at i y n x : ℕ) → Rest out l at i y n x → y < 10 → (y ≡ 0 → ⊥)
    → set out (at + (i - 1)) (48 + y) ≡ sets l (at + (n - due x)) (lowest (due x) x)
rest_last out l at i y n x w k h =
    let e : y % 10 ≡ y = omega arith in
    let turn = rest_turn out l at i y n x w h in
    ap (λ (d : ℕ). set out (at + (i - 1)) (48 + d)) (sym e) ∙ rest_end _ l at (i - 1) (y / 10) n x turn (omega arith)

-- ---- the whole field

-- what is stored over a run of its length
over : (ys zs l : List ℕ) (n : ℕ) → length ys ≡ length zs → sets (sets l n ys) n zs ≡ sets l n zs
over [] [] l n e = refl
over [] (z ∷ zs) l n e = absurd (omega arith)
over (y ∷ ys) [] l n e = absurd (omega arith)
over (y ∷ ys) (z ∷ zs) l n e =
    ap (λ (m : List ℕ). sets m (suc n) zs) (set_first ys (set l n y) n (suc n) z (omega arith))
    ∙ ap (λ (m : List ℕ). sets (sets m (suc n) ys) (suc n) zs) (set-set l n y z)
    ∙ over ys zs (set l n z) (suc n) (omega arith)

-- a run stored at the end of spaces
over_spaces : (l m out xs : List ℕ) (at n k : ℕ) → length xs ≡ k → k ≤ n → m ≡ sets l at (replicate n 32) → out ≡ sets m (at + (n - k)) xs
    → out ≡ sets l at (replicate (n - k) 32 ++ xs)
over_spaces l m out xs at n k h r e f =
    let spaces : List ℕ = replicate (n - k) 32 in
    let whole : n ≡ n - k + k = omega arith in
    let split : replicate n 32 ≡ spaces ++ replicate {A = ℕ} k 32
    = ap (λ (j : ℕ). replicate {A = ℕ} j 32) whole ∙ sym (replicate-append-replicate (n - k) k 32) in
    let place : at + length spaces ≡ at + (n - k) = ap (λ (j : ℕ). at + j) (length-replicate (n - k) 32) in
    let then : m ≡ sets (sets l at spaces) (at + (n - k)) (replicate k 32)
    = e ∙ ap (sets l at) split ∙ sym (sets_then spaces (replicate k 32) l at (at + (n - k)) place) in
    f
    ∙ ap (λ (j : List ℕ). sets j (at + (n - k)) xs) then
    ∙ over (replicate k 32) xs (sets l at spaces) (at + (n - k)) (length-replicate k 32 ∙ sym h)
    ∙ sets_then spaces xs l at (at + (n - k)) place

-- at least so many digits are that many, and those of what is left
count_split : (d x : ℕ) → 1 ≤ d → max d (digit_count x) ≡ d + due (higher d x)
unfolding higher
count_split zero x h = absurd (not-suc-le-zero h)
count_split (suc zero) x h = go (ltb x 10) refl
  where
    go : (t : Bool) → ltb x 10 ≡ t → max 1 (digit_count x) ≡ 1 + due (x / 10)
    go true e =
        let z : x / 10 ≡ 0 = omega (arith, ltb-true x 10 e) in
        rw (z, due_none, count_small x (ltb-true x 10 e))
    go false e =
        let l : 10 ≤ x = ltb-false x 10 e in
        omega (arith, count_more x l, due_some (x / 10) (omega arith))
count_split (suc (suc d)) x h = go (ltb x 10) refl (count_split (suc d) (x / 10) (omega arith))
  where
    go : (t : Bool) → ltb x 10 ≡ t → max (suc d) (digit_count (x / 10)) ≡ suc d + due (higher (suc d) (x / 10))
        → max (suc (suc d)) (digit_count x) ≡ suc (suc d) + due (higher (suc d) (x / 10))
    go true e r =
        let l : x < 10 = ltb-true x 10 e in
        omega (arith, r, count_small x l, count_small (x / 10) (omega arith))
    go false e r = omega (arith, r, count_more x (ltb-false x 10 e))

-- a number from a power of ten on has a digit more
count_least : (k x : ℕ) → 10 ^ k ≤ x → suc k ≤ digit_count x
count_least zero x h = omega (arith, (decimal_is x).some, decimal_length x)
count_least (suc k) x h =
    let l : 10 * 10 ^ k ≤ x = omega (arith, pow-succ' 10 k) in
    let one : 1 ≤ 10 ^ k = one-le-pow k 10 (lit< tt) in
    omega (arith, count_more x (omega arith), count_least k (x / 10) (omega arith))

-- what is left of a number that leaves the first place empty
pub room_left : (w d x : ℕ) → 1 ≤ d → d < w → x < 10 ^ (w - 1) → due (higher d x) ≤ w - d
room_left w d x h k l = omega (arith, count_split d x h, count_room (w - 1) x (omega arith) l)

pub shown_stored : (l a b out : List ℕ) (at w d x y : ℕ) → 1 ≤ d → d < w → x < 10 ^ (w - 1)
    → a ≡ sets l (at + (w - d)) (lowest d x)
    → y ≡ higher d x
    → b ≡ sets a at (replicate (w - d) 32)
    → out ≡ sets b (at + (w - d - due y)) (lowest (due y) y)
    → out ≡ sets l at (shown_in w d x)
unfolding shown_in
shown_stored l a b out at w d x y h k s e f g i =
    let room : due y ≤ w - d = omega (arith, room_left w d x h k s, ap due f) in
    let count : shown_count w d x ≡ d + due y = omega (arith, count_split d x h, ap due f) in
    let before : w - d - due y ≡ w - shown_count w d x = omega arith in
    let spaces : List ℕ = replicate (w - d - due y) 32 in
    let digits : lowest (due y) y ++ lowest d x ≡ lowest (shown_count w d x) x
    = ap (λ (j : ℕ). lowest (due y) j ++ lowest d x) f
    ∙ sym (lowest_more d (due y) x)
    ∙ ap (λ (j : ℕ). lowest j x) (sym count) in
    let long : at + length (spaces ++ lowest (due y) y) ≡ at + (w - d)
    = simp (length-append, length-replicate, lowest_length) (omega arith) in
    over_spaces a b out (lowest (due y) y) at (w - d) (due y) (lowest_length (due y) y) room g i
    ∙ ap (λ (j : List ℕ). sets j at (spaces ++ lowest (due y) y)) e
    ∙ sets_second (spaces ++ lowest (due y) y) (lowest d x) l at (at + (w - d)) long
    ∙ ap (sets l at) (append_assoc spaces (lowest (due y) y) (lowest d x) ∙ ap (λ (xs : List ℕ). spaces ++ xs) digits)
    ∙ ap (λ (j : ℕ). sets l at (replicate j 32 ++ lowest (shown_count w d x) x)) before

-- a number with a digit for each place
pub shown_full : (l out : List ℕ) (at w d x : ℕ) → d < w → 10 ^ (w - 1) ≤ x → out ≡ sets l at (lowest w x)
    → out ≡ sets l at (shown_in w d x)
unfolding shown_in
shown_full l out at w d x k s e =
    let count : shown_count w d x ≡ w = omega (arith, count_least (w - 1) x s) in
    let before : w - w ≡ 0 = omega arith in
    rw (count, before) e
