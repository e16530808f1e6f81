-- Runs that are told apart by their numbers, as the functions of this crate ask.
-- Assumes nothing.
use mathlib.Core.Path.{◌≡◌, refl, ap, ap₂, sym, ◌∙◌}
use mathlib.Core.Bool.{Bool, true, false, true≢false, ◌&&◌}
use mathlib.Core.List.{List, [], ◌∷◌}
use Prim.Native.Nat.{ℕ, zero, suc, ◌+◌, ◌-◌, ◌≤◌, ◌<◌}
use native.Mathlib.Omega.{arith}
use borrow.Author.Tests.{ne_eqb, eq-eqb}
use lib.Dec.{eqb}
use lib.ListN.{length, take, drop, replicate, length-drop}
use lib.Seq.{drop-drop}
use Rattle.std.specs.Int.{w32, w64, from_le_bytes, to_le_bytes}
use Rattle.std.proofs.lemmas.Nat.{le_bytes_4, le_bytes_8}
use Rattle.octets.specs.Run.{part, same, all, Bytes}
use Rattle.octets.proofs.Bytes.{part_bytes, replicate_bytes}
use Rattle.octets.proofs.Laws.{part_length}
use Rattle.octets.proofs.Ends.{part_inside, all_taken}
use Rattle.octets.proofs.Trips.{all_ends, same_is}

-- what is lost in no number is told apart by it
module _ (number : List ℕ → ℕ) (xs ys : List ℕ) (told : number xs ≡ number ys → xs ≡ ys) where
  by_number : eqb (number xs) (number ys) ≡ same xs ys
  by_number = go (same xs ys) refl
    where
      go : (x : Bool) → same xs ys ≡ x → eqb (number xs) (number ys) ≡ same xs ys
      go true e = eq-eqb _ _ (ap number ((same_is xs ys).0 e)) ∙ sym e
      go false e = ne_eqb _ _ (λ q. true≢false (sym ((same_is xs ys).1 (told q)) ∙ e)) ∙ sym e

pub told_four : (xs ys : List ℕ) → length xs ≡ 4 → length ys ≡ 4 → Bytes xs → Bytes ys
    → eqb (from_le_bytes w32 xs) (from_le_bytes w32 ys) ≡ same xs ys
told_four xs ys k l b c =
    by_number (from_le_bytes w32) xs ys
    (λ q. sym (le_bytes_4 xs _ k b refl) ∙ ap (to_le_bytes w32) q ∙ le_bytes_4 ys _ l c refl)

pub told_eight : (xs ys : List ℕ) → length xs ≡ 8 → length ys ≡ 8 → Bytes xs → Bytes ys
    → eqb (from_le_bytes w64 xs) (from_le_bytes w64 ys) ≡ same xs ys
told_eight xs ys k l b c =
    by_number (from_le_bytes w64) xs ys
    (λ q. sym (le_bytes_8 xs _ k b refl) ∙ ap (to_le_bytes w64) q ∙ le_bytes_8 ys _ l c refl)

-- one byte over and over
same_all : (v : ℕ) (xs : List ℕ) (n : ℕ) → length xs ≡ n → same xs (replicate n v) ≡ all v xs
same_all v [] zero e = refl
same_all v [] (suc n) e = absurd (omega arith)
same_all v (x ∷ xs) zero e = absurd (omega arith)
same_all v (x ∷ xs) (suc n) e = ap (◌&&◌ (eqb x v)) (same_all v xs n (omega arith))

-- four to eight bytes of one kind
pub told_all : (s run first last : List ℕ) (from v : ℕ) → Bytes s → v < 256 → run ≡ drop from s → 4 ≤ length run → length run ≤ 8
    → first ≡ take 4 run → last ≡ drop (length run - 4) run
    → eqb (from_le_bytes w32 first) (from_le_bytes w32 (replicate 4 v)) && eqb (from_le_bytes w32 last) (from_le_bytes w32 (replicate 4 v))
    ≡ all v (drop from s)
told_all s run first last from v b h e g k f l =
    ap₂ {C = Bool} ◌&&◌ (one first from at_front) (one last (length s - 4) at_end)
    ∙ ap₂ {C = Bool} (λ xs ys. all v xs && all v ys) at_front at_end
    ∙ all_ends v s from (omega (arith, size)) (omega (arith, size))
  where
    size : length run ≡ length s - from
    size = ap length e ∙ length-drop from s

    one : (xs : List ℕ) (at : ℕ) → xs ≡ part s at 4 → eqb (from_le_bytes w32 xs) (from_le_bytes w32 (replicate 4 v)) ≡ all v xs
    one xs at p =
        rw p
        (told_four (part s at 4) (replicate 4 v) (part_length s at 4) refl (part_bytes s at 4 b) (replicate_bytes 4 v h)
        ∙ same_all v (part s at 4) 4 (part_length s at 4))

    at_front : first ≡ part s from 4
    at_front = f ∙ part_inside s run from 4 e g

    at_end : last ≡ part s (length s - 4) 4
    at_end =
        let j : from + (length run - 4) ≡ length s - 4 = omega (arith, size) in
        let k : length (drop (length s - 4) s) ≡ 4 = rw length-drop (omega (arith, size)) in
        l ∙ ap (drop (length run - 4)) e ∙ drop-drop (length run - 4) from s ∙ ap (λ (n : ℕ). drop n s) j
        ∙ all_taken (drop (length s - 4) s) 4 (omega arith)
        ∙ part_inside s (drop (length s - 4) s) (length s - 4) 4 refl (omega arith)
