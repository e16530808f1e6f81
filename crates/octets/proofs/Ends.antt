-- Runs that may reach past the end of what they are read from or stored into: what is left of them inside.
-- Assumes nothing.
use mathlib.Core.Path.{◌≡◌, refl, ap, sym, ◌∙◌}
use mathlib.Core.Bool.{Bool, true, false, ◌&&◌, and_assoc}
use mathlib.Core.List.{List, [], ◌∷◌, ◌++◌, append-nil, append_assoc}
use Prim.Native.Nat.{ℕ, zero, suc, ◌+◌, ◌-◌, ◌≤◌, min}
use native.Mathlib.Omega.{arith}
use borrow.Author.Tests.{eqb-true, eqb-false, ne_eqb, eq-eqb}
use lib.Dec.{eqb}
use borrow.Rule.Slice.PartMut.{put_mid}
use lib.ListN.{length, take, drop, set, replicate, length-drop}
use lib.Seq.{sets, paste, take_at, drop_at, drop-drop, length-take-le}
use lib.Pointwise.{pointwise}
use Rattle.std.proofs.lemmas.List.{set_past}
use Rattle.std.specs.List.{list_all}
use Rattle.octets.specs.Run.{part, same, all}
use Rattle.octets.proofs.Laws.{part_length}
use Rattle.octets.proofs.Trips.{join, lent, whole, part_cons, part_nil, part_drop, past_first}

-- ---- runs stored

-- nothing is stored past the end
pub none_past : (xs l : List ℕ) (at : ℕ) → length l ≤ at → sets l at xs ≡ l
none_past [] l at h = refl
none_past (x ∷ xs) l at h = rw (set_past l at x h) (none_past xs l (suc at) (omega arith))

-- a run stored behind the first element
behind : (xs l : List ℕ) (y at : ℕ) → sets (y ∷ l) (suc at) xs ≡ y ∷ sets l at xs
behind [] l y at = refl
behind (x ∷ xs) l y at = behind xs (set l at x) y (suc at)

-- a run stored from the start on: the n of its elements that are inside are stored
pub front_stored : (xs l : List ℕ) (n : ℕ) → n ≡ min (length xs) (length l) → take n xs ++ drop n l ≡ sets l 0 xs
front_stored [] l zero e = refl
front_stored [] l (suc n) e = absurd (omega arith)
front_stored (x ∷ xs) [] zero e = sym (none_past (x ∷ xs) [] 0 (omega arith))
front_stored (x ∷ xs) [] (suc n) e = absurd (omega arith)
front_stored (x ∷ xs) (y ∷ l) zero e = absurd (omega arith)
front_stored (x ∷ xs) (y ∷ l) (suc n) e =
    ap (λ (k : List ℕ). x ∷ k) (front_stored xs l n (omega arith)) ∙ sym (behind xs l x 0)

-- a run stored from a place on: a is the place, or the end where the place is past it
pub stored : (xs l : List ℕ) (at a n : ℕ) → a ≡ min at (length l) → n ≡ min (length xs) (length l - a)
    → take a l ++ (take n xs ++ drop n (drop a l)) ≡ sets l at xs
stored xs l zero a n e f =
    let z : a ≡ 0 = omega arith in
    let g : n ≡ min (length xs) (length l) = omega arith in
    rw z (front_stored xs l n g)
stored xs [] (suc at) a n e f =
    let z : a ≡ 0 = omega arith in
    let w : n ≡ 0 = omega arith in
    rw (z, w) (sym (none_past xs [] (suc at) (omega arith)))
stored xs (y ∷ l) (suc at) zero n e f = absurd (omega arith)
stored xs (y ∷ l) (suc at) (suc a) n e f =
    ap (λ (k : List ℕ). y ∷ k) (stored xs l at a n (omega arith) (omega arith)) ∙ sym (behind xs l y at)

-- ---- runs read

-- what is inside, and zeros for the rest
pub part_is : (m : List ℕ) (at n : ℕ) → part m at n ≡ take n (drop at m) ++ replicate (n - length (drop at m)) 0
part_is m at n = part_drop m at n ∙ go (drop at m) n
  where
    none : (n : ℕ) → part [] 0 n ≡ replicate n 0
    none zero = part_nil [] 0
    none (suc n) = part_cons [] 0 n ∙ ap (λ (k : List ℕ). 0 ∷ k) (part_drop [] 1 n ∙ none n)

    go : (xs : List ℕ) (n : ℕ) → part xs 0 n ≡ take n xs ++ replicate (n - length xs) 0
    go [] zero = part_nil [] 0
    go [] (suc n) =
        let e : suc n - 0 ≡ suc n = omega arith in
        rw e (none (suc n))
    go (x ∷ xs) zero =
        let e : 0 - length (x ∷ xs) ≡ 0 = omega arith in
        rw e (part_nil (x ∷ xs) 0)
    go (x ∷ xs) (suc n) =
        let e : suc n - suc (length xs) ≡ n - length xs = omega arith in
        rw e (part_cons (x ∷ xs) 0 n ∙ ap (λ (k : List ℕ). x ∷ k) (past_first x xs n ∙ go xs n))

-- where all of it is inside
pub part_inside : (m run : List ℕ) (at n : ℕ) → run ≡ drop at m → n ≤ length run → take n run ≡ part m at n
part_inside m run at n e h =
    let z : n - length (drop at m) ≡ 0 = omega (arith, ap length e) in
    ap (take n) e ∙ sym (append-nil _) ∙ sym (rw z at (part_is m at n))

pub all_taken : (xs : List ℕ) (n : ℕ) → length xs ≤ n → xs ≡ take n xs
all_taken [] zero h = refl
all_taken [] (suc n) h = refl
all_taken (x ∷ xs) zero h = absurd (omega arith)
all_taken (x ∷ xs) (suc n) h = ap (λ (k : List ℕ). x ∷ k) (all_taken xs n (omega arith))

-- where it reaches past the end
pub part_ends : (m run : List ℕ) (at n : ℕ) → run ≡ drop at m → length run ≤ n → run ++ replicate (n - length run) 0 ≡ part m at n
part_ends m run at n e h =
    let l : length (drop at m) ≤ n = omega (arith, ap length e) in
    ap (λ (xs : List ℕ). xs ++ replicate (n - length xs) 0) e
    ∙ ap (λ (xs : List ℕ). xs ++ replicate (n - length (drop at m)) 0) (all_taken (drop at m) n l)
    ∙ sym (part_is m at n)

-- the head of a run
part_cut : (m : List ℕ) (at k n : ℕ) → k ≤ n → take k (part m at n) ≡ part m at k
part_cut m at k n h =
    let e : k + (n - k) ≡ n = omega arith in
    ap (λ (j : ℕ). take k (part m at j)) (sym e) ∙ ap (take k) (sym (join m at k (n - k) (at + k) refl))
    ∙ take_at (part m at k) (part m (at + k) (n - k)) k (part_length m at k)

-- the head of a run, found again in the run alone
pub part_part : (m : List ℕ) (at k n : ℕ) → k ≤ n → part (part m at n) 0 k ≡ part m at k
part_part m at k n h =
    sym (part_inside (part m at n) (part m at n) 0 k refl (omega (arith, part_length m at n))) ∙ part_cut m at k n h

-- a part that is lent to a call, as a run
pub part_lent : (m : List ℕ) (at to n : ℕ) → to - at ≡ n → at + n ≤ length m → part (take (to - at) (drop at m)) 0 n ≡ part m at n
part_lent m at to n e h =
    ap (λ (xs : List ℕ). part xs 0 n) (lent m at to n e h) ∙ whole (part m at n) n (part_length m at n)

-- ---- runs copied

-- a run copied from one place to another: the k of its bytes that are inside are stored
pub copied : (l s : List ℕ) (to from n a k : ℕ) → a ≡ min to (length l) → k ≡ min n (length l - a)
    → take a l ++ (part s from k ++ drop k (drop a l)) ≡ sets l to (part s from n)
copied l s to from n a k e f =
    ap (λ (xs : List ℕ). take a l ++ (xs ++ drop k (drop a l))) (sym (part_cut s from k n (omega arith)))
    ∙ stored (part s from n) l to a k e (omega (arith, part_length s from n))

-- what of n bytes would lie past the end goes nowhere
pub clipped : (l s : List ℕ) (to from n a k : ℕ) → a ≡ min to (length l) → k ≡ min n (length l - a)
    → sets l to (part s from k) ≡ sets l to (part s from n)
clipped l s to from n a k e f = sym (copied l s to from k a k e (omega arith)) ∙ copied l s to from n a k e f

-- ---- runs moved to the front

take_within : (xs : List ℕ) (i e : ℕ) → i ≡ min e (length xs) → take i xs ≡ take e xs
take_within xs zero zero h = refl
take_within [] zero (suc e) h = refl
take_within [] (suc i) e h = absurd (omega arith)
take_within (x ∷ xs) zero (suc e) h = absurd (omega arith)
take_within (x ∷ xs) (suc i) zero h = absurd (omega arith)
take_within (x ∷ xs) (suc i) (suc e) h = ap (λ (k : List ℕ). x ∷ k) (take_within xs i e (omega arith))

drop_within : (xs : List ℕ) (i e : ℕ) → i ≡ min e (length xs) → drop i xs ≡ drop e xs
drop_within xs zero zero h = refl
drop_within [] zero (suc e) h = refl
drop_within [] (suc i) e h = absurd (omega arith)
drop_within (x ∷ xs) zero (suc e) h = absurd (omega arith)
drop_within (x ∷ xs) (suc i) zero h = absurd (omega arith)
drop_within (x ∷ xs) (suc i) (suc e) h = drop_within xs i e (omega arith)

-- i bytes that stand from a on, moved to the front, and zeros behind them up to e
pub moved : (l z : List ℕ) (at n a e i : ℕ) → a ≡ min at (length l) → e ≡ min n (length l) → i ≡ min e (length l - a)
    → z ≡ replicate (e - i) 0 → put_mid i (e - i) (paste l 0 (drop a l) i) z ≡ sets l 0 (part l at n)
moved l z at n a e i f g h q =
    rw (taken, dropped)
    (sym (append_assoc run z (drop e l))
    ∙ ap (λ (xs : List ℕ). xs ++ drop e l) (ends ∙ sym (part_cut l at e n (omega arith))))
    ∙ front_stored (part l at n) l e (omega (arith, part_length l at n))
  where
    run : List ℕ
    run = take i (drop a l)

    run_length : length run ≡ i
    run_length = length-take-le i (drop a l) (rw length-drop (omega arith))

    taken : take i (run ++ drop (0 + i) l) ≡ run
    taken = take_at run (drop (0 + i) l) i run_length

    dropped : drop (e - i) (drop i (run ++ drop (0 + i) l)) ≡ drop e l
    dropped =
        let k : 0 + i + (e - i) ≡ e = omega arith in
        ap (drop (e - i)) (drop_at run (drop (0 + i) l) i run_length) ∙ drop-drop (e - i) (0 + i) l ∙ ap (λ (j : ℕ). drop j l) k

    here : drop a l ≡ drop at l
    here = drop_within l a at f

    ends : run ++ z ≡ part l at e
    ends =
        let k : i ≡ min e (length (drop at l)) = omega (arith, length-drop {A = ℕ} at l) in
        let j : e - i ≡ e - length (drop at l) = omega arith in
        ap (λ (xs : List ℕ). take i xs ++ z) here
        ∙ ap (λ (xs : List ℕ). xs ++ z) (take_within (drop at l) i e k)
        ∙ ap (λ (xs : List ℕ). take e (drop at l) ++ xs) (q ∙ ap (λ (k : ℕ). replicate k 0) j)
        ∙ sym (part_is l at e)

-- ---- runs compared

-- as std compares them
pub same_std : (xs ys : List ℕ) → pointwise eqb xs ys ≡ same xs ys
same_std [] [] = refl
same_std [] (y ∷ ys) = refl
same_std (x ∷ xs) [] = refl
same_std (x ∷ xs) (y ∷ ys) = ap (◌&&◌ (eqb x y)) (same_std xs ys)

pub all_std : (v : ℕ) (xs : List ℕ) → list_all (λ (x : ℕ). eqb x v) xs ≡ all v xs
all_std v [] = refl
all_std v (x ∷ xs) = ap (◌&&◌ (eqb x v)) (all_std v xs)

eqb_turned : (x y : ℕ) → eqb x y ≡ eqb y x
eqb_turned x y = go (eqb y x) refl
  where
    go : (b : Bool) → eqb y x ≡ b → eqb x y ≡ eqb y x
    go true e = eq-eqb x y (sym (eqb-true y x e)) ∙ sym e
    go false e = ne_eqb x y (λ q. eqb-false y x e (sym q)) ∙ sym e

zeros_same : (ys : List ℕ) (k : ℕ) → k ≡ length ys → same (replicate k 0) ys ≡ all 0 ys
zeros_same [] zero e = refl
zeros_same [] (suc k) e = absurd (omega arith)
zeros_same (y ∷ ys) zero e = absurd (omega arith)
zeros_same (y ∷ ys) (suc k) e = rw (eqb_turned 0 y, zeros_same ys k (omega arith))

-- a run and zeros behind it
pub same_ends : (xs ys : List ℕ) (k : ℕ) → length xs + k ≡ length ys
    → same xs (take (length xs) ys) && all 0 (drop (length xs) ys) ≡ same (xs ++ replicate k 0) ys
same_ends [] ys k e = sym (zeros_same ys k (omega arith))
same_ends (x ∷ xs) [] k e = absurd (omega arith)
same_ends (x ∷ xs) (y ∷ ys) k e =
    and_assoc (eqb x y) (same xs (take (length xs) ys)) (all 0 (drop (length xs) ys))
    ∙ ap (◌&&◌ (eqb x y)) (same_ends xs ys k (omega arith))
