-- What is written by one table of what is read by another is copied, field by field. A field is zero exactly if its bytes are.
-- Assumes nothing.
use mathlib.Core.Path.{◌≡◌, refl, ap, ap₂, sym, ◌∙◌}
use mathlib.Core.Bool.{Bool, true, false, cond, ◌&&◌, and-true, and_assoc}
use mathlib.Core.List.{List, [], ◌∷◌, ◌++◌}
use Prim.Native.Nat.{ℕ, zero, suc, ◌+◌, ◌*◌}
use native.Mathlib.Nat.{zero-add, zero-mul}
use native.Mathlib.Omega.{arith}
use borrow.Author.Tests.{eqb-true, ne_eqb}
use lib.Dec.{eqb}
use lib.ListN.{get_or}
use Rattle.octets.specs.Run.{tab, part, all, Bytes}
use Rattle.octets.proofs.Trips.{all_append}
use Rattle.numbers.specs.Number.{be_after, be}
use Rattle.numbers.proofs.Trips.{digits_part}
use Rattle.layout.specs.Values.{Field, is_zero, is}
use Rattle.layout.specs.Forms.{Form, byte, big, numeral, chars, reads, writes}
use Rattle.layout.specs.Tables.{Item, at, field_of, width_of, form_of, stands, look, written, all_from}
use Rattle.layout.specs.Carrying.{alike, moved, fetch, carried, run_of, runs, clear}
use Rattle.layout.proofs.Forms.{both, clash}
use Rattle.layout.proofs.Tables.{zero_is}

-- ---- copies

module _ (m : List ℕ) (b : Bytes m) where
  -- the same bytes serve
  copied : (j : Form) (w : ℕ) (k : Form) (o n : ℕ) → alike j w k n ≡ true → part m o n ≡ writes j w (reads k (part m o n))
  unfolding part tab
  copied (byte p) w (byte q) o n a = rw (eqb-true n 1 a)
  copied (byte p) w (big q) o n a = clash a
  copied (byte p) w (numeral d q) o n a = clash a
  copied (byte p) w (chars q) o n a = clash a
  copied (big p) w (byte q) o n a = clash a
  copied (big p) w (big q) o n a = rw (eqb-true w n a) (sym (digits_part m o n b))
  copied (big p) w (numeral d q) o n a = clash a
  copied (big p) w (chars q) o n a = clash a
  copied (numeral d p) w (byte q) o n a = clash a
  copied (numeral d p) w (big q) o n a = clash a
  copied (numeral d p) w (numeral c q) o n a = clash a
  copied (numeral d p) w (chars q) o n a = clash a
  copied (chars p) w (byte q) o n a = clash a
  copied (chars p) w (big q) o n a = clash a
  copied (chars p) w (numeral d q) o n a = clash a
  copied (chars p) w (chars q) o n a = refl

  one : (j : Form) (w : ℕ) (e : Item) → moved j w e m ≡ writes j w (stands e m)
  one j w (at g o n k) = go (alike j w k n) refl
    where
      go : (t : Bool) → alike j w k n ≡ t
          → cond (alike j w k n) (part m o n) (writes j w (reads k (part m o n))) ≡ writes j w (reads k (part m o n))
      go true e = rw e (copied j w k o n e)
      go false e = rw e

  fetched : (from : List Item) (j : Form) (w : ℕ) (f : Field) → fetch from m j w f ≡ writes j w (look from m f)
  fetched [] j w f = refl
  fetched (e ∷ es) j w f = go (is f (field_of e)) refl (fetched es j w f)
    where
      go : (t : Bool) → is f (field_of e) ≡ t → fetch es m j w f ≡ writes j w (look es m f)
          → fetch (e ∷ es) m j w f ≡ writes j w (look (e ∷ es) m f)
      go true q r = rw q (one j w e)
      go false q r = rw q r

  pub carries : (to from : List Item) → carried to from m ≡ written to (look from m)
  carries [] from = refl
  carries (e ∷ es) from = ap₂ {C = List ℕ} (λ x y. x ++ y) (fetched from (form_of e) (width_of e) (field_of e)) (carries es from)

-- ---- zeros

digit_zero : (x y : ℕ) → eqb (x * 256 + y) 0 ≡ eqb x 0 && eqb y 0
digit_zero zero y = rw (zero-mul, zero-add)
digit_zero (suc x) y =
    ne_eqb (suc x * 256 + y) 0 (λ e. omega arith) ∙ sym (ap (λ (t : Bool). t && eqb y 0) (ne_eqb (suc x) 0 (λ e. omega arith)))

after_zero : (x : ℕ) (xs : List ℕ) → eqb (be_after x xs) 0 ≡ eqb x 0 && all 0 xs
after_zero x [] = sym (and-true (eqb x 0))
after_zero x (y ∷ ys) =
    after_zero (x * 256 + y) ys ∙ ap (λ (t : Bool). t && all 0 ys) (digit_zero x y) ∙ and_assoc (eqb x 0) (eqb y 0) (all 0 ys)

number_zero : (xs : List ℕ) → eqb (be xs) 0 ≡ all 0 xs
unfolding be
number_zero xs = after_zero 0 xs

module _ (b : List ℕ) where
  byte_zero : (o n : ℕ) → eqb n 1 ≡ true → eqb (get_or (part b o n) 0 0) 0 ≡ all 0 (part b o n)
  unfolding part tab
  byte_zero o n e = rw (eqb-true n 1 e) (sym (and-true (eqb (get_or b (o + 0) 0) 0)))

  -- a field is zero exactly if its bytes are
  found_zero : (g : Field) (o n : ℕ) (k : Form) (es : List Item) (f : Field) → is_zero (reads k (part b o n)) ≡ all 0 (part b o n)
      → is_zero (look es b f) ≡ all 0 (run_of es b f) → is_zero (look (at g o n k ∷ es) b f) ≡ all 0 (run_of (at g o n k ∷ es) b f)
  found_zero g o n k es f y r = go (is f g) refl
    where
      go : (t : Bool) → is f g ≡ t → is_zero (look (at g o n k ∷ es) b f) ≡ all 0 (run_of (at g o n k ∷ es) b f)
      go true e = rw e y
      go false e = rw e r

  run_zero : (es : List Item) (f : Field) → clear es ≡ true → is_zero (look es b f) ≡ all 0 (run_of es b f)
  run_zero [] f c = zero_is f
  run_zero (at g o n (byte p) ∷ es) f c =
      let q = both c in
      found_zero g o n (byte p) es f (byte_zero o n q.0) (run_zero es f q.1)
  run_zero (at g o n (big p) ∷ es) f c = found_zero g o n (big p) es f (number_zero (part b o n)) (run_zero es f c)
  run_zero (at g o n (numeral d p) ∷ es) f c = clash c
  run_zero (at g o n (chars p) ∷ es) f c = found_zero g o n (chars p) es f refl (run_zero es f c)

  -- several fields are, exactly if their bytes together are
  pub runs_zero : (es : List Item) (t : Bool) (fs : List Field) → clear es ≡ true
      → all_from (λ f. is_zero (look es b f)) t fs ≡ t && all 0 (runs es b fs)
  runs_zero es t [] c = sym (and-true t)
  runs_zero es t (f ∷ fs) c =
      runs_zero es (t && is_zero (look es b f)) fs c
      ∙ ap (λ (x : Bool). t && x && all 0 (runs es b fs)) (run_zero es f c)
      ∙ and_assoc t (all 0 (run_of es b f)) (all 0 (runs es b fs))
      ∙ ap (λ (x : Bool). t && x) (sym (all_append 0 (run_of es b f) (runs es b fs)))
