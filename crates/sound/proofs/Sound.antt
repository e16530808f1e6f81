-- The test of soundness fails exactly where the book is unsound; where it passes, the book keeps six bounds.
-- Assumes nothing.
use Prim.Native.Nat.{ℕ, ◌-◌, ◌≤◌}
use mathlib.Core.Path.{◌≡◌, refl}
use mathlib.Core.Logic.{◌↔◌, ◌⊎◌, inl, inr}
use mathlib.Core.Bool.{Bool, true, false, ◌&&◌, and-eq-true_iff}
use native.Mathlib.Omega.{arith}
use borrow.Author.Tests.{leb-true, leb-false}
use Rattle.lines.specs.Lines.{line_limit}
use Rattle.rows.specs.Rows.{row_limit}
use Rattle.phases.specs.Phases.{last_phase}
use Rattle.counters.specs.declared.Counters.{Counters}
use Rattle.sound.specs.Sound.{Unsound, sound}

-- the six bounds of a sound book, for room of that many bytes for rows and for lines
pub record Within (c : Counters) (rows lines : ℕ) : Type 0 where
  pub least : 1 ≤ c.wanted
  pub greatest : c.wanted ≤ 4294967296
  pub rows_fit : c.rows ≤ row_limit rows
  pub lines_fit : c.lines ≤ line_limit lines
  pub phased : c.phase ≤ last_phase
  pub taken_fit : c.taken ≤ c.wanted - 1

-- six tests of which one fails, each with what follows where it fails: one of these follows
fails : {A B C D E F : Type 0} (a b c d e f : Bool)
    → (a ≡ false → A) → (b ≡ false → B) → (c ≡ false → C) → (d ≡ false → D) → (e ≡ false → E) → (f ≡ false → F)
    → (a && b && c && d && e && f) ≡ false → (A ⊎ B) ⊎ (C ⊎ (D ⊎ (E ⊎ F)))
fails false b c d e f ha hb hc hd he hf h = inl (inl (ha refl))
fails true false c d e f ha hb hc hd he hf h = inl (inr (hb refl))
fails true true false d e f ha hb hc hd he hf h = inr (inl (hc refl))
fails true true true false e f ha hb hc hd he hf h = inr (inr (inl (hd refl)))
fails true true true true false f ha hb hc hd he hf h = inr (inr (inr (inl (he refl))))
fails true true true true true f ha hb hc hd he hf h = inr (inr (inr (inr (hf h))))

module _ (c : Counters) (rows lines : ℕ) where
  pub sound_gives : sound c rows lines ≡ true → Within c rows lines
  unfolding sound
  sound_gives e =
      let f = (and-eq-true_iff _ _).0 e in
      let g = (and-eq-true_iff _ _).0 f.0 in
      let h = (and-eq-true_iff _ _).0 g.0 in
      let i = (and-eq-true_iff _ _).0 h.0 in
      let j = (and-eq-true_iff _ _).0 i.0 in
      record {
        least = leb-true _ _ j.0;
        greatest = leb-true _ _ j.1;
        rows_fit = leb-true _ _ i.1;
        lines_fit = leb-true _ _ h.1;
        phased = leb-true _ _ g.1;
        taken_fit = leb-true _ _ f.1;
      }

  -- no book has the six bounds and is unsound
  apart : Within c rows lines → Unsound c rows lines → ⊥
  apart w (inl (inl h)) = omega arith
  apart w (inl (inr h)) = omega arith
  apart w (inr (inl h)) = omega arith
  apart w (inr (inr (inl h))) = omega arith
  apart w (inr (inr (inr (inl h)))) = omega arith
  apart w (inr (inr (inr (inr h)))) = omega arith

  unsound_fails : sound c rows lines ≡ false → Unsound c rows lines
  unfolding sound
  unsound_fails e = fails _ _ _ _ _ _ (leb-false _ _) (leb-false _ _) (leb-false _ _) (leb-false _ _) (leb-false _ _) (leb-false _ _) e

  -- the test fails exactly where the book is unsound
  pub sound_exactly : (sound c rows lines ≡ false) ↔ Unsound c rows lines
  sound_exactly = (unsound_fails, λ u. go u (sound c rows lines) refl)
    where
      go : Unsound c rows lines → (t : Bool) → sound c rows lines ≡ t → sound c rows lines ≡ false
      go u true e = absurd (apart (sound_gives e) u)
      go u false e = e
