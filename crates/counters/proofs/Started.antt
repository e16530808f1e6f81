-- Each move that a call makes leaves what the book was started with; a message taken leaves the count of rows too.
-- Assumes nothing.
use Prim.Native.Nat.{ℕ}
use mathlib.Core.Path.{◌≡◌, refl}
use mathlib.Core.Bool.{Bool, true, false}
use Rattle.kinds.specs.declared.Kind.{Kind}
use Rattle.kinds.specs.Kinds.{is_event, makes_new}
use Rattle.counters.specs.declared.Counters.{Counters}
use Rattle.counters.specs.Counting.{used_up, one_row_more, taken_by}

pub used_up_stays : (c : Counters) → (used_up c).start ≡ c.start
used_up_stays c = refl

pub row_more_stays : (c : Counters) → (one_row_more c).start ≡ c.start
row_more_stays c = refl

pub taken_stays : (kind : Kind) (event : ℕ) (c : Counters)
    → ((taken_by kind event c).start ≡ c.start) × ((taken_by kind event c).rows ≡ c.rows)
unfolding taken_by
taken_stays kind event c = go (is_event kind) refl (makes_new kind) refl
  where
    go : (b : Bool) → is_event kind ≡ b → (n : Bool) → makes_new kind ≡ n
        → ((taken_by kind event c).start ≡ c.start) × ((taken_by kind event c).rows ≡ c.rows)
    go true e n f = simp e (refl, refl)
    go false e true f = simp (e, f) (refl, refl)
    go false e false f = simp (e, f) (refl, refl)
