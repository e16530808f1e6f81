-- Laws of a symbol without its padding: what is left means what it should, nothing else does, and the turns of the loop.
-- Assumes nothing.
use mathlib.Core.Path.{◌≡◌, refl, ap, sym, ◌∙◌}
use mathlib.Core.Bool.{Bool, true, false, and-eq-true_iff}
use mathlib.Core.List.{List, [], ◌∷◌, ◌++◌}
use Prim.Native.Nat.{ℕ, suc, ◌-◌, ◌≤◌, ◌<◌}
use native.Mathlib.Omega.{arith}
use borrow.Author.Tests.{ne_eqb, eqb-false}
use lib.Dec.{eqb}
use lib.ListN.{length, take, get_or, length-append}
use lib.Seq.{take-suc, take-append_seam}
use Rattle.octets.specs.Run.{all}
use Rattle.print.specs.Texts.{kept, symbol_text, Unpadded}

-- ---- what is left means what it should

-- a space before padding is padding
none_kept : (x : ℕ) (xs : List ℕ) → all 32 xs ≡ true → (t : Bool) → eqb x 32 ≡ t → Unpadded (x ∷ xs) (kept x [])
none_kept x xs b true e =
    rw e
    (record {
      spaces = x ∷ xs;
      whole = refl;
      blank = rw e b;
      bare = λ zs q. short zs q;
    })
  where
    short : (zs : List ℕ) → [] ≡ zs ++ (32 ∷ []) → ⊥
    short zs q = omega (arith, simp length-append at (ap length q))
none_kept x xs b false e =
    rw e
    (record {
      spaces = xs;
      whole = refl;
      blank = b;
      bare = λ zs q. ends zs q;
    })
  where
    ends : (zs : List ℕ) → x ∷ [] ≡ zs ++ (32 ∷ []) → ⊥
    ends [] q =
        let f : x ≡ 32 = cc in
        eqb-false x 32 e f
    ends (z ∷ zs) q = omega (arith, simp length-append at (ap length q))

unpadded_cons : (x : ℕ) (xs ys : List ℕ) → Unpadded xs ys → Unpadded (x ∷ xs) (kept x ys)
unpadded_cons x xs [] u = none_kept x xs (ap (all 32) u.whole ∙ u.blank) (eqb x 32) refl
unpadded_cons x xs (y ∷ ys) u =
    record {
      spaces = u.spaces;
      whole = ap (λ (zs : List ℕ). x ∷ zs) u.whole;
      blank = u.blank;
      bare = λ zs q. ends zs q;
    }
  where
    ends : (zs : List ℕ) → x ∷ y ∷ ys ≡ zs ++ (32 ∷ []) → ⊥
    ends [] q = omega (arith, ap length q)
    ends (z ∷ zs) q =
        let f : y ∷ ys ≡ zs ++ (32 ∷ []) = cc in
        u.bare zs f

pub unpadded_is : (xs : List ℕ) → Unpadded xs (symbol_text xs)
unpadded_is [] = record { spaces = []; whole = refl; blank = refl; bare = λ zs q. omega (arith, simp length-append at (ap length q)) }
unpadded_is (x ∷ xs) = unpadded_cons x xs (symbol_text xs) (unpadded_is xs)

-- ---- and nothing else does

padding : (xs : List ℕ) → all 32 xs ≡ true → symbol_text xs ≡ []
padding [] b = refl
padding (x ∷ xs) b =
    let p = (and-eq-true_iff (eqb x 32) (all 32 xs)).0 b in
    rw (padding xs p.1, p.0)

left : (ys spaces : List ℕ) → all 32 spaces ≡ true → ((zs : List ℕ) → ys ≡ zs ++ (32 ∷ []) → ⊥) → symbol_text (ys ++ spaces) ≡ ys
left [] spaces b h = padding spaces b
left (y ∷ []) spaces b h =
    let n : y ≡ 32 → ⊥ = λ e. h [] (ap (λ (x : ℕ). x ∷ []) e) in
    rw (padding spaces b, ne_eqb y 32 n)
left (y ∷ a ∷ ys) spaces b h = ap (kept y) (left (a ∷ ys) spaces b (λ zs e. h (y ∷ zs) (ap (λ (l : List ℕ). y ∷ l) e)))

pub unpadded_one : (xs ys zs : List ℕ) → Unpadded xs ys → Unpadded xs zs → ys ≡ zs
unpadded_one xs ys zs u v = sym (whole ys u) ∙ whole zs v
  where
    whole : (ys : List ℕ) → Unpadded xs ys → symbol_text xs ≡ ys
    whole ys u = ap symbol_text u.whole ∙ left ys u.spaces u.blank u.bare

-- ---- as the bytes at the front

pub unpadded_front : (s : List ℕ) (k : ℕ) → k ≡ length (symbol_text s) → take k s ≡ symbol_text s
unpadded_front s k e =
    let u = unpadded_is s in
    ap (λ (n : ℕ). take n s) e ∙ ap (take (length (symbol_text s))) u.whole ∙ take-append_seam (symbol_text s) u.spaces

pub unpadded_short : (s : List ℕ) → length (symbol_text s) ≤ length s
unpadded_short s =
    let u = unpadded_is s in
    omega (arith, ap length u.whole ∙ length-append (symbol_text s) u.spaces)

-- ---- the turns of the loop

space_last : (xs : List ℕ) → symbol_text (xs ++ (32 ∷ [])) ≡ symbol_text xs
space_last [] = refl
space_last (x ∷ xs) = ap (kept x) (space_last xs)

ink_last : (xs : List ℕ) (y : ℕ) → (y ≡ 32 → ⊥) → symbol_text (xs ++ (y ∷ [])) ≡ xs ++ (y ∷ [])
ink_last [] y n = rw (ne_eqb y 32 n)
ink_last (x ∷ []) y n = rw (ne_eqb y 32 n)
ink_last (x ∷ a ∷ xs) y n = ap (kept x) (ink_last (a ∷ xs) y n)

module _ (s : List ℕ) (k : ℕ) (h : 0 < k) (l : k ≤ length s) where
  last_of : take k s ≡ take (k - 1) s ++ (get_or s (k - 1) 0 ∷ [])
  last_of =
      let e : suc (k - 1) ≡ k = omega arith in
      ap (λ (n : ℕ). take n s) (sym e) ∙ take-suc s (k - 1) 0 (omega arith)

  pub pad_turn : get_or s (k - 1) 0 ≡ 32 → symbol_text (take k s) ≡ symbol_text (take (k - 1) s)
  pad_turn e = ap symbol_text last_of ∙ ap (λ (x : ℕ). symbol_text (take (k - 1) s ++ (x ∷ []))) e ∙ space_last (take (k - 1) s)

  pub pad_stop : (get_or s (k - 1) 0 ≡ 32 → ⊥) → symbol_text (take k s) ≡ take k s
  pad_stop n = ap symbol_text last_of ∙ ink_last (take (k - 1) s) (get_or s (k - 1) 0) n ∙ sym last_of
