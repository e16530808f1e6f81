-- The lengths of the types' messages: as printed, by their letters, and the bounds that all are within.
-- Assumes nothing.
use mathlib.Core.Path.{◌≡◌, refl, ap, ◌∙◌}
use mathlib.Core.Logic.{◌⊎◌, inl, inr}
use mathlib.Core.Bool.{Bool, true, false, cond, not, ◌&&◌, ◌||◌, and-eq-true_iff}
use mathlib.Core.List.{List, [], ◌∷◌, map}
use Prim.Native.Nat.{ℕ, ◌≤◌}
use borrow.Author.Tests.{eqb-true, leb-true}
use lib.Dec.{eqb, leb}
use Rattle.kinds.specs.declared.Kind.{Kind}
use Rattle.kinds.specs.Kinds.{letter_of, all_kinds, kind_among, kind_of}
use Rattle.kinds.proofs.Laws.{passes, every}
use Rattle.packing.specs.Layouts.{layout_s, layout_t, layout_c, layout_j, printed_lengths}
use Rattle.packing.specs.Packing.{length_of, length_by}

-- ---- computed over the list of types

-- no message, or one of 6 to 67 bytes
abbrev pub Some : ℕ → Type 0
Some n = (n ≡ 0) ⊎ ((6 ≤ n) × (n ≤ 67))

-- the same, as a test of a type's messages
abbrev some : Kind → Bool
some k = eqb (length_of k) 0 || (leb 6 (length_of k) && leb (length_of k) 67)

record Computed : Type 0 where
  pub printed : map length_of all_kinds ≡ printed_lengths
  pub long : passes (λ k. not (eqb (length_of k) 0)) all_kinds ≡ true
  pub within : passes some all_kinds ≡ true

computed : Computed
unfolding layout_s layout_t layout_c layout_j
computed = record { printed = refl; long = refl; within = refl }

-- the lengths are as printed
pub lengths_printed : map length_of all_kinds ≡ printed_lengths
lengths_printed = computed.printed

-- each type of the list has messages
pub lengths_long : passes (λ k. not (eqb (length_of k) 0)) all_kinds ≡ true
lengths_long = computed.long

-- what is no type has none
pub length_some : (k : Kind) → Some (length_of k)
length_some k = go (eqb (length_of k) 0) refl (every some computed.within refl k)
  where
    go : (t : Bool) → eqb (length_of k) 0 ≡ t → (t || (leb 6 (length_of k) && leb (length_of k) 67)) ≡ true → Some (length_of k)
    go true t e = inl (eqb-true (length_of k) 0 t)
    go false t e =
        let p = (and-eq-true_iff (leb 6 (length_of k)) (leb (length_of k) 67)).0 e in
        inr (leb-true 6 (length_of k) p.0, leb-true (length_of k) 67 p.1)

-- ---- by the letters

-- the number that stands with a letter; 0 with any other
abbrev with : List ℕ → List ℕ → ℕ → ℕ
with [] ns k = 0
with (l ∷ ls) [] k = 0
with (l ∷ ls) (n ∷ ns) k = cond (eqb k l) n (with ls ns k)

among : (ks : List Kind) (k : ℕ) → length_of (kind_among ks k) ≡ with (map letter_of ks) (map length_of ks) k
among [] k = refl
among (t ∷ ts) k = go (eqb k (letter_of t)) (among ts k)
  where
    go : (b : Bool) → length_of (kind_among ts k) ≡ with (map letter_of ts) (map length_of ts) k
        → length_of (cond b t (kind_among ts k)) ≡ cond b (length_of t) (with (map letter_of ts) (map length_of ts) k)
    go true i = refl
    go false i = i

-- the printed length of the type that a letter names
pub length_by_lem : (k : ℕ) → length_by k ≡ with (map letter_of all_kinds) printed_lengths k
unfolding length_by kind_of
length_by_lem k = among all_kinds k ∙ ap (λ (ns : List ℕ). with (map letter_of all_kinds) ns k) lengths_printed
