-- `counters::Counters::take` meets its contract.
-- Assumes nothing.
use Prim.Native.Nat.{ℕ}
use mathlib.Core.Path.{◌≡◌, sym, ◌∙◌}
use mathlib.Core.Bool.{true, false}
use Rattle.kinds.specs.declared.Kind.{Kind}
use Rattle.kinds.specs.Kinds.{is_event, makes_new}
use Rattle.phases.specs.Phases.{phase_of}
use Rattle.counters.specs.declared.Counters.{Counters}
use Rattle.counters.specs.Counting.{used_up, advanced, counted_taken, one_line_more, taken_by}
use Rattle.counters.proofs.Counters.take.Goals as goal

module _ (kind : Kind) (event : ℕ) (c : Counters) {c₁ c₂ : Counters} (used : c₁ ≡ used_up c) (counted : c₂ ≡ counted_taken c₁) where
  by-event : {r : Counters} {phase : ℕ} → is_event kind ≡ true → phase ≡ phase_of event → r ≡ advanced phase c₂ → r ≡ taken_by kind event c
  unfolding taken_by
  by-event is begun result = simp is (rw (result, begun, counted, used))

  by-new : {r : Counters} → is_event kind ≡ false → makes_new kind ≡ true → r ≡ one_line_more c₂ → r ≡ taken_by kind event c
  unfolding taken_by
  by-new none new result = simp (none, new) (rw (result, counted, used))

  by-none : is_event kind ≡ false → makes_new kind ≡ false → c₂ ≡ taken_by kind event c
  unfolding taken_by
  by-none none old = simp (none, old) (rw (counted, used))

pub returns-then-is_event : goal.returns-then-is_event
returns-then-is_event c = by-event _ _ _ c.use_up.ensures c.count_taken-moved.ensures
    (sym c.is_event.ensures ∙ c.if-is_event.true)
    c.phase_of.ensures c.advance.ensures

pub returns-then-makes_new : goal.returns-then-makes_new
returns-then-makes_new c = by-new _ _ _ c.use_up.ensures c.count_taken-moved.ensures
    (sym c.is_event.ensures ∙ c.if-is_event.false)
    (sym c.makes_new.ensures ∙ c.if-makes_new.true) c.add_line.ensures

pub returns : goal.returns
returns c = by-none _ _ _ c.use_up.ensures c.count_taken-moved.ensures
    (sym c.is_event.ensures ∙ c.if-is_event.false)
    (sym c.makes_new.ensures ∙ c.if-makes_new.false)
