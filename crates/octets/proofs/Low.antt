-- Laws of bytes as one number, the first byte the lowest: nothing of the bytes is lost in it.
-- Assumes nothing.
use mathlib.Core.Path.{◌≡◌, refl, ap, ap₂, sym, ◌∙◌}
use mathlib.Core.Bool.{Bool, true, false, true≢false}
use mathlib.Core.List.{List, [], ◌∷◌, ◌++◌}
use Prim.Native.Nat.{ℕ, zero, suc, ◌+◌, ◌*◌, ◌/◌, ◌%◌, ◌^◌, ◌<◌}
use native.Mathlib.Nat.{zero-add, mul_assoc, div-one, div-div-eq-div-mul, pow-succ'}
use native.Mathlib.Omega.{arith}
use borrow.Author.Tests.{ne_eqb, eq-eqb}
use lib.Dec.{eqb}
use lib.ListN.{length, set}
use lib.Seq.{sets}
use Rattle.octets.specs.Run.{tab, past, part, same, Bytes}
use Rattle.octets.specs.Low.{low, lows}
use Rattle.octets.proofs.Laws.{part_length, sets_snoc}
use Rattle.octets.proofs.Trips.{join, same_is, whole}

-- ---- bytes compared by their number

-- nothing of bytes is lost in their number
low_told : (f g : ℕ → ℕ) → ((i : ℕ) → f i < 256) → ((i : ℕ) → g i < 256) → (i n : ℕ) → low (tab f i n) ≡ low (tab g i n)
    → tab f i n ≡ tab g i n
unfolding low tab
low_told f g b c i zero e = refl
low_told f g b c i (suc n) e =
    let x : f i ≡ g i = omega (arith, e, b i, c i) in
    let r : low (tab f (suc i) n) ≡ low (tab g (suc i) n) = omega (arith, e, b i, c i) in
    rw (x, low_told f g b c (suc i) n r)

-- a run is another exactly if its number is
pub low_same : (m t : List ℕ) (at n : ℕ) → Bytes m → Bytes t → length t ≡ n
    → eqb (low (part m at n)) (low (part t 0 n)) ≡ same (part m at n) t
unfolding part
low_same m t at n b c l = go (same (part m at n) t) refl
  where
    w : part t 0 n ≡ t
    w = whole t n l

    there : low (part m at n) ≡ low (part t 0 n) → part m at n ≡ t
    there e = low_told (past m at) (past t 0) (λ i. b (at + i)) (λ i. c (0 + i)) 0 n e ∙ w

    go : (x : Bool) → same (part m at n) t ≡ x → eqb (low (part m at n)) (low (part t 0 n)) ≡ same (part m at n) t
    go true e = eq-eqb _ _ (ap low ((same_is (part m at n) t).0 e ∙ sym w)) ∙ sym e
    go false e = ne_eqb _ _ (λ q. true≢false (sym ((same_is (part m at n) t).1 (there q)) ∙ e)) ∙ sym e

-- ---- bytes found again in their number

lows_tab : (f : ℕ → ℕ) → ((i : ℕ) → f i < 256) → (i n : ℕ) → lows n (low (tab f i n)) ≡ tab f i n
unfolding low lows tab
lows_tab f b i zero = refl
lows_tab f b i (suc n) =
    let l = low (tab f (suc i) n) in
    let x : (f i + 256 * l) % 256 ≡ f i = omega (arith, b i) in
    let q : (f i + 256 * l) / 256 ≡ l = omega (arith, b i) in
    ap₂ {C = List ℕ} (λ y ys. y ∷ ys) x (ap (lows n) q ∙ lows_tab f b (suc i) n)

-- the lowest bytes of a run's number are the run
pub lows_low : (m : List ℕ) (at n : ℕ) → Bytes m → lows n (low (part m at n)) ≡ part m at n
unfolding part
lows_low m at n b = lows_tab (past m at) (λ i. b (at + i)) 0 n

-- ---- numbers in two

low_append : (xs ys : List ℕ) → low (xs ++ ys) ≡ low xs + 256 ^ length xs * low ys
unfolding low
low_append [] ys = omega arith
low_append (x ∷ xs) ys =
    let p : 256 ^ suc (length xs) * low ys ≡ 256 * (256 ^ length xs * low ys)
    = ap (λ (w : ℕ). w * low ys) (pow-succ' 256 (length xs)) ∙ mul_assoc 256 (256 ^ length xs) (low ys) in
    omega (arith, low_append xs ys, p)

-- each byte before them makes the bytes behind weigh 256 times as much
pub low_join : (m : List ℕ) (at n k : ℕ) → low (part m at n) + 256 ^ n * low (part m (at + n) k) ≡ low (part m at (n + k))
low_join m at n k =
    let xs = part m at n in
    let ys = part m (at + n) k in
    ap (λ (l : ℕ). low xs + 256 ^ l * low ys) (sym (part_length m at n))
    ∙ sym (low_append xs ys)
    ∙ ap low (join m at n k (at + n) refl)

pub lows_join : (n k x : ℕ) → lows (n + k) x ≡ lows n x ++ lows k (x / 256 ^ n)
unfolding lows
lows_join zero k x = rw (zero-add, div-one)
lows_join (suc n) k x =
    let e : suc n + k ≡ suc (n + k) = omega arith in
    let q : x / 256 / 256 ^ n ≡ x / 256 ^ suc n
    = div-div-eq-div-mul x 256 (256 ^ n) ∙ ap (λ (w : ℕ). x / w) (sym (pow-succ' 256 n)) in
    rw (e, lows_join n k (x / 256), q)

-- ---- bytes stored at once

-- the last of four stores may go first, and so on to the first
stored_back : (l : List ℕ) (at a b c d : ℕ)
    → set (set (set (set l (at + 3) d) (at + 2) c) (at + 1) b) at a ≡ sets l at (a ∷ b ∷ c ∷ d ∷ [])
stored_back l at a b c d =
    sym
    (sets_snoc (a ∷ b ∷ c ∷ []) l at d
    ∙ sets_snoc (a ∷ b ∷ []) (set l (at + 3) d) at c
    ∙ sets_snoc (a ∷ []) (set (set l (at + 3) d) (at + 2) c) at b)

pub put_back : (l : List ℕ) (at x : ℕ)
    → set (set (set (set l (at + 3) (x / 256 / 256 / 256 % 256)) (at + 2) (x / 256 / 256 % 256)) (at + 1) (x / 256 % 256)) at (x % 256)
    ≡ sets l at (lows 4 x)
unfolding lows
put_back l at x = stored_back l at (x % 256) (x / 256 % 256) (x / 256 / 256 % 256) (x / 256 / 256 / 256 % 256)
