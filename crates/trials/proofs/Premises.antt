-- What one true day asks for, and what fails without it: for its order, its copies and the way its calls are made, small days on which
-- a figure of the book is not the clerk's; for a number above N, that n is at most N; for N itself, that the last message is used.
-- What `Lists` and `Delivers` ask besides holds of every call by its types.
-- Assumes nothing.
use Prim.Native.Nat.{ℕ, zero, suc, ◌≤◌}
use mathlib.Core.Path.{◌≡◌, refl, sym, ap, subst, ◌∙◌}
use mathlib.Core.List.{List}
use native.Mathlib.Omega.{arith}
use borrow.Author.Tests.{eq-eqb}
use lib.ListN.{length}
use Rattle.editions.specs.declared.Edition.{Edition}
use Rattle.rows.specs.declared.Listing.{Listing}
use Rattle.sound.proofs.Sound.{sound_gives}
use Rattle.book.specs.State.{State, Arrival, wanted_in}
use Rattle.rows.specs.Rows.{row_limit}
use Rattle.clerk.specs.Clerk.{clerk_sheet}
use Rattle.clerk.specs.Arrivals.{run, Largest, numbers}
use Rattle.trials.specs.Premises.{Breaks, begun}
use Rattle.clerk.proofs.InOrder.{got, got_at, largest_got}
use Rattle.clerk.proofs.Sim.{listed_book}
use Rattle.clerk.proofs.Demand3.{Day, sheet_stands, delivers_are}

got_run : (w n : ℕ) → got w (run w n) ≡ n
unfolding got run
got_run w zero = refl
got_run w (suc n) = got_at w w (run (suc w) n) (eq-eqb w w refl) ∙ ap suc (got_run (suc w) n)

-- where 1 to n come once each, in order, n is the largest
pub largest_run : (n : ℕ) → Largest (run 1 n) n
largest_run n = subst (Largest (run 1 n)) (got_run 1 n) (largest_got (run 1 n))

pub premises_needed : Breaks
unfolding begun run
premises_needed =
    record {
      other_bytes = (refl, refl);
      above_last = (largest_run 2, λ h. omega (arith, h));
      other_order = (refl, refl);
      not_largest = (refl, refl);
      not_fresh = (refl, refl);
      lateListing = (refl, refl);
      otherRows = (refl, refl);
      otherSize = (refl, refl);
      otherLines = (refl, refl);
      oldCounters = (refl, refl);
    }

-- N is at most 4,294,967,295: no day brings a book past wanting the number after that
pub last_wanted : {ed : Edition} {rooms : State} {ls : List Listing} {l : List Arrival} {end : State}
    → Day ed rooms ls l end → wanted_in end ≤ 4294967296
last_wanted {ed} {rooms} {ls} {l} {end} h =
    let rows = length rooms.rows in
    let e = delivers_are rows (length rooms.lines) (listed_book ed (clerk_sheet (row_limit rows) ls)) h.delivers (sheet_stands h) in
    (sound_gives end.counters (length end.rows) (length end.lines) e.safe).greatest

-- so of a day of one message more the last is not used, though it comes in order
pub one_too_many : {ed : Edition} {rooms : State} {ls : List Listing} {l : List Arrival} {end : State}
    → Day ed rooms ls l end → numbers l ≡ run 1 4294967296 → Largest (numbers l) 4294967296 × (wanted_in end ≡ 4294967297 → ⊥)
one_too_many h e = (subst (λ (ks : List ℕ). Largest ks 4294967296) (sym e) (largest_run 4294967296), λ w. omega (arith, w, last_wanted h))
