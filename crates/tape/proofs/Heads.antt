-- What stands at a place of a tape, test by test, and what it means that a whole entry stands there.
-- Assumes nothing.
use Rattle.std.specs.Prelude.{Err, Ok}
use mathlib.Core.Path.{◌≡◌, refl, ap, sym, ◌∙◌}
use mathlib.Core.Logic.{inl, inr}
use mathlib.Core.Bool.{Bool, true, false, cond}
use mathlib.Core.List.{List, [], ◌∷◌}
use Prim.Native.Nat.{ℕ, suc, ◌+◌, ◌-◌, ◌≤◌, ◌<◌}
use native.Mathlib.Numerals.{add-one}
use native.Mathlib.Omega.{arith}
use borrow.Author.Tests.{eq-eqb, ne_eqb, le-leb, lt-leb, eqb-false, leb-true}
use lib.Dec.{eqb, leb, lit≤}
use lib.ListN.{length, drop, get_or, length-drop, drop_of_length-le}
use lib.Seq.{drop-cons}
use Rattle.kinds.specs.declared.Kind.{Kind}
use Rattle.kinds.specs.Kinds.{kind_of}
use Rattle.packing.specs.Packing.{length_of}
use Rattle.packing.proofs.Lengths.{Some, length_some}
use Rattle.tape.specs.Entries.{listing_letter, number_bytes, message_length, body_length, head_of}
use Rattle.tape.specs.declared.Stop.{Stop}
use Rattle.tape.specs.declared.Stop.TheVariants.{Ended, NoKind, CutShort}

-- ---- the turns of `head_at`

pub head_ended : (m : List ℕ) (at : ℕ) → length m ≤ at → Err Ended ≡ head_of (drop at m)
unfolding head_of
head_ended m at h = rw (drop_of_length-le m h)

module _ (m : List ℕ) (at n : ℕ) (h : at < length m) (e : n ≡ body_length (get_or m at 0)) where
  -- the head by its tests
  head_there : head_of (drop at m) ≡ cond (eqb n 0) (Err NoKind) (cond (leb n (length (drop (suc at) m))) (Ok (suc n)) (Err CutShort))
  unfolding head_of
  head_there = rw (drop-cons m at 0 h, e)

  pub head_no_kind : n ≡ 0 → Err NoKind ≡ head_of (drop at m)
  head_no_kind z = rw (head_there, eq-eqb n 0 z)

  pub head_whole : (n ≡ 0 → ⊥) → n < length m - at → Ok (n + 1) ≡ head_of (drop at m)
  head_whole z l =
      let g : n ≤ length (drop (suc at) m) = omega (arith, length-drop (suc at) m) in
      rw (head_there, ne_eqb n 0 z, le-leb n (length (drop (suc at) m)) g, add-one)

  pub head_short : (n ≡ 0 → ⊥) → length m - at ≤ n → Err CutShort ≡ head_of (drop at m)
  head_short z l =
      let g : length (drop (suc at) m) < n = omega (arith, length-drop (suc at) m) in
      rw (head_there, ne_eqb n 0 z, lt-leb n (length (drop (suc at) m)) g)

-- ---- lengths

pub length_top : (k : Kind) (n : ℕ) → n ≡ length_of k → n ≤ 67
length_top k n e = go (length_some k)
  where
    go : Some (length_of k) → n ≤ 67
    go (inl z) = omega arith
    go (inr h) = omega arith

-- ---- the turns of `body_length`

module _ (k : ℕ) (other : k ≡ listing_letter → ⊥) (type : Kind) (e : type ≡ kind_of k) (n : ℕ) (f : n ≡ length_of type) where
  length_is : n ≡ message_length k
  length_is = f ∙ ap length_of e

  pub none_is : n ≡ 0 → 0 ≡ body_length k
  unfolding body_length
  none_is z = simp (ne_eqb k listing_letter other, eq-eqb (message_length k) 0 (sym length_is ∙ z))

  pub some_is : (n ≡ 0 → ⊥) → number_bytes + n ≡ body_length k
  unfolding body_length
  some_is z =
      simp (ne_eqb k listing_letter other, ne_eqb (message_length k) 0 (λ q. z (length_is ∙ q))) (ap (λ (i : ℕ). number_bytes + i) length_is)

-- a body has 10 to 71 bytes
pub body_some : (k : ℕ) → (body_length k ≡ 0 → ⊥) → (10 ≤ body_length k) × (body_length k ≤ 71)
unfolding body_length
body_some k z = go (eqb k 76) refl (eqb (message_length k) 0) refl (length_some (kind_of k))
  where
    go : (t : Bool) → eqb k 76 ≡ t → (u : Bool) → eqb (message_length k) 0 ≡ u → Some (message_length k)
        → (10 ≤ body_length k) × (body_length k ≤ 71)
    go true t u v w = rw t (lit≤ tt, lit≤ tt)
    go false t true v w = absurd (z (rw (t, v)))
    go false t false v (inl w) = absurd (eqb-false (message_length k) 0 v w)
    go false t false v (inr w) = rw (t, v) (omega arith, omega arith)

-- ---- a whole entry at the head

pub record EntryStands (b : List ℕ) (n : ℕ) : Type 0 where
  pub kind : ℕ
  pub after : List ℕ
  pub bytes : b ≡ kind ∷ after
  pub known : body_length kind ≡ 0 → ⊥
  pub fits : body_length kind ≤ length after
  pub size : n ≡ suc (body_length kind)

pub never : {w : Stop} {n : ℕ} → Err w ≡ Ok n → ⊥
never e = let z : ◌≡◌ {A = ℕ} 0 1 = cc in omega arith

pub entry_stands : (b : List ℕ) (n : ℕ) → head_of b ≡ Ok n → EntryStands b n
unfolding head_of
entry_stands [] n e = absurd (never e)
entry_stands (k ∷ s) n e = go (eqb (body_length k) 0) refl (leb (body_length k) (length s)) refl
  where
    go : (t : Bool) → eqb (body_length k) 0 ≡ t → (u : Bool) → leb (body_length k) (length s) ≡ u → EntryStands (k ∷ s) n
    go true t u v = absurd (never (rw t at e))
    go false t false v = absurd (never (rw (t, v) at e))
    go false t true v =
        let f : Ok (suc (body_length k)) ≡ Ok n = rw (t, v) at e in
        record {
          kind = k;
          after = s;
          bytes = refl;
          known = eqb-false (body_length k) 0 t;
          fits = leb-true (body_length k) (length s) v;
          size = cc;
        }

-- and the other way round
pub stands : (k : ℕ) (s : List ℕ) → (body_length k ≡ 0 → ⊥) → body_length k ≤ length s → head_of (k ∷ s) ≡ Ok (suc (body_length k))
unfolding head_of
stands k s z l = rw (ne_eqb (body_length k) 0 z, le-leb (body_length k) (length s) l)

-- an entry that stands there lies within, and has 11 to 72 bytes
pub standing_within : (b : List ℕ) (n : ℕ) → head_of b ≡ Ok n → (11 ≤ n) × (n ≤ 72) × (n ≤ length b)
standing_within b n e =
    let w = entry_stands b n e in
    let l : length b ≡ suc (length w.after) = ap length w.bytes in
    let f = body_some w.kind w.known in
    let s = w.size in
    let g = w.fits in
    (omega arith, omega arith, omega arith)
