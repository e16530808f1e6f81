-- The kinds are six; each fixes the length of its entries and nothing else.
-- Assumes nothing.
use mathlib.Core.Path.{◌≡◌, refl, ap, ap₂, ◌∙◌}
use mathlib.Core.Bool.{Bool, true, false, cond, not, ◌&&◌, ◌||◌, and-eq-true_iff}
use mathlib.Core.List.{List, [], ◌∷◌, map}
use native.Mathlib.Omega.{arith}
use borrow.Author.Tests.{ne_eqb, not-true}
use Prim.Native.Nat.{ℕ, suc, ◌+◌}
use lib.Dec.{eqb}
use Rattle.packing.specs.Layouts.{printed_lengths}
use Rattle.packing.specs.Packing.{length_of, length_by}
use Rattle.packing.proofs.Lengths.{lengths_printed, lengths_long}
use Rattle.kinds.specs.declared.Kind.{Kind}
use Rattle.kinds.specs.Kinds.{letter_of, all_kinds, kind_among, kind_of}
use Rattle.kinds.proofs.Laws.{passes}
use Rattle.kinds.proofs.Promise.{kind_again}
use Rattle.book.specs.State.{State, Arrival}
use Rattle.tape.specs.Entries.{listing_letter, message_length, body_length, EntryKind, message_kind, entry_kinds, is_kind, Delivers}
use Rattle.tape.specs.Playing.{acted}

pub record Lengths : Type 0 where
  -- as the table has them, and as they are worked out
  pub printed : map (λ (r : EntryKind). r.size) entry_kinds ≡ 13 ∷ map (λ n. 5 + n) printed_lengths
  pub each : map (λ (r : EntryKind). suc (body_length r.letter)) entry_kinds ≡ map (λ (r : EntryKind). r.size) entry_kinds
  -- a byte has no body exactly if it is none of the letters
  pub only : (k : ℕ) → eqb (body_length k) 0 ≡ not (is_kind k entry_kinds)

-- ---- of any list of types

sizes_are : (ks : List Kind) → map (λ (r : EntryKind). r.size) (map message_kind ks) ≡ map (λ n. 5 + n) (map length_of ks)
sizes_are [] = refl
sizes_are (k ∷ ks) = ap (λ (ns : List ℕ). (5 + length_of k) ∷ ns) (sizes_are ks)

-- where no type's letter is L and each has messages, each entry is as long as it is worked out
body_is : (k : Kind) → not (eqb (letter_of k) listing_letter) ≡ true → not (eqb (length_of k) 0) ≡ true
    → suc (body_length (letter_of k)) ≡ 5 + length_of k
unfolding body_length
body_is k l n =
    rw (kind_again k, not-true (eqb (letter_of k) listing_letter) l, not-true (eqb (length_of k) 0) n) (omega arith)

each_is : (ks : List Kind) → passes (λ k. not (eqb (letter_of k) listing_letter)) ks ≡ true → passes (λ k. not (eqb (length_of k) 0)) ks ≡ true
    → map (λ (r : EntryKind). suc (body_length r.letter)) (map message_kind ks) ≡ map (λ (r : EntryKind). r.size) (map message_kind ks)
each_is [] l n = refl
each_is (k ∷ ks) l n =
    let p = (and-eq-true_iff (not (eqb (letter_of k) listing_letter)) _).0 l in
    let q = (and-eq-true_iff (not (eqb (length_of k) 0)) _).0 n in
    ap₂ {C = List ℕ} (λ a b. a ∷ b) (body_is k p.0 q.0) (each_is ks p.1 q.1)

-- a byte names no type exactly if it is none of their letters
only_is : (ks : List Kind) (k : ℕ) → passes (λ k. not (eqb (length_of k) 0)) ks ≡ true
    → eqb (length_of (kind_among ks k)) 0 ≡ not (is_kind k (map message_kind ks))
only_is [] k n = refl
only_is (t ∷ ts) k n =
    let q = (and-eq-true_iff (not (eqb (length_of t) 0)) _).0 n in
    go (eqb k (letter_of t)) (not-true _ q.0) (only_is ts k q.1)
  where
    go : (b : Bool) → eqb (length_of t) 0 ≡ false → eqb (length_of (kind_among ts k)) 0 ≡ not (is_kind k (map message_kind ts))
        → eqb (length_of (cond b t (kind_among ts k))) 0 ≡ not (b || is_kind k (map message_kind ts))
    go true z i = z
    go false z i = i

-- and a body is none exactly if it is no listing's and no message's
none_is : (l : Bool) (n : ℕ) → eqb (cond l 12 (cond (eqb n 0) 0 (4 + n))) 0 ≡ not l && eqb n 0
none_is true n = refl
none_is false n = go (eqb n 0)
  where
    go : (t : Bool) → eqb (cond t 0 (4 + n)) 0 ≡ t
    go true = refl
    go false = ne_eqb (4 + n) 0 (λ e. omega arith)

neither : (l a b : Bool) → a ≡ not b → not l && a ≡ not (l || b)
neither true a b e = refl
neither false a b e = e

pub entry_lengths : Lengths
unfolding body_length kind_of
entry_lengths =
    record {
      printed = ap (λ (ns : List ℕ). 13 ∷ ns) (sizes_are all_kinds ∙ ap (map (λ n. 5 + n)) lengths_printed);
      each = ap (λ (ns : List ℕ). 13 ∷ ns) (each_is all_kinds refl lengths_long);
      only =
          λ k. none_is (eqb k listing_letter) (message_length k)
          ∙ neither (eqb k listing_letter) _ (is_kind k (map message_kind all_kinds)) (only_is all_kinds k lengths_long);
    }

-- a kind has the length of the messages whose letter it bears
pub as_messages : (k : ℕ) → message_length k ≡ length_by k
unfolding length_by
as_messages k = refl

-- and of a message whose length is right the kind says nothing more
pub length_alone : (s : State) (k k' : ℕ) (a : Arrival) → acted s (Delivers k a) ≡ acted s (Delivers k' a)
unfolding acted
length_alone s k k' a = refl
