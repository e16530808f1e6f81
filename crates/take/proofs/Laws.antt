-- A correction, step by step; and what a message does, test by test.
-- Assumes nothing.
use mathlib.Core.Path.{◌≡◌, refl, ap, ◌∙◌}
use mathlib.Core.Bool.{true, false}
use mathlib.Core.List.{List}
use Prim.Native.Nat.{ℕ}
use Rattle.editions.specs.declared.Edition.{Edition}
use Rattle.editions.specs.Editions.{reports}
use Rattle.kinds.specs.declared.Kind.{Kind}
use Rattle.kinds.specs.Kinds.{is_correction, is_summary, names_old, makes_new, sets_volume}
use Rattle.records.specs.declared.Record.{Record}
use Rattle.lines.specs.declared.Line.{Line}
use Rattle.lines.specs.Lines.{line_in, with_line, with_dead}
use Rattle.take.specs.Taking.{made_line, corrected_line, corrected, lines_by, reported, summed, reported_by, rows_by}

pub corrected_stored : (m mid out : List ℕ) (used k : ℕ) (r : Record) (old l : Line)
    → out ≡ with_line mid used l → mid ≡ with_dead m k → l ≡ corrected_line old r → old ≡ line_in m k
    → out ≡ corrected m used r k
corrected_stored m mid out used k r old l e f g h =
    e
    ∙ ap (λ (x : List ℕ). with_line x used l) f
    ∙ ap (with_line (with_dead m k) used) (g ∙ ap (λ (o : Line). corrected_line o r) h)

module _ (kind : Kind) (m : List ℕ) (used n : ℕ) (r : Record) (k : ℕ) where
  pub lines_corrected : is_correction kind ≡ true → corrected m used r k ≡ lines_by kind m used n r k
  unfolding lines_by
  lines_corrected e = simp e refl

  pub lines_killed : is_correction kind ≡ false → names_old kind ≡ true → with_dead m k ≡ lines_by kind m used n r k
  unfolding lines_by
  lines_killed e f = simp e (simp f refl)

  pub lines_added : names_old kind ≡ false → makes_new kind ≡ true → with_line m used (made_line n r) ≡ lines_by kind m used n r k
  unfolding lines_by
  lines_added f g = simp (f, g) refl

  pub lines_left : names_old kind ≡ false → makes_new kind ≡ false → m ≡ lines_by kind m used n r k
  unfolding lines_by
  lines_left f g = simp (f, g) refl

module _ (kind : Kind) (m : List ℕ) (r : Record) (i : ℕ) where
  pub rows_summed : is_summary kind ≡ true → summed m r i ≡ reported_by kind m r i
  unfolding reported_by
  rows_summed e = simp e refl

  pub rows_reported : is_summary kind ≡ false → sets_volume kind ≡ true → reported m r i ≡ reported_by kind m r i
  unfolding reported_by
  rows_reported e f = simp (e, f) refl

  pub rows_left : is_summary kind ≡ false → sets_volume kind ≡ false → m ≡ reported_by kind m r i
  unfolding reported_by
  rows_left e f = simp (e, f) refl

  module _ (e : Edition) where
    pub rows_of_reporting : reports e ≡ true → reported_by kind m r i ≡ rows_by e kind m r i
    unfolding rows_by
    rows_of_reporting t = simp t refl

    -- a message of an edition that does not report leaves the rows
    pub rows_kept : reports e ≡ false → rows_by e kind m r i ≡ m
    unfolding rows_by
    rows_kept t = simp t refl
