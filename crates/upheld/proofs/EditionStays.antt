-- A book keeps the edition that it was started for, whatever it is asked; and where the edition's messages report no consolidated volume,
-- a message leaves what the rows keep.
-- Assumes nothing.
use mathlib.Core.Path.{◌≡◌, refl, ap, sym, ◌∙◌}
use mathlib.Core.Bool.{false}
use mathlib.Core.List.{List}
use Prim.Native.Nat.{ℕ}
use Rattle.answers.specs.Answers.{number_of}
use Rattle.editions.specs.Editions.{reports}
use Rattle.rows.specs.declared.Listing.{Listing}
use Rattle.rows.specs.declared.Row.{Row}
use Rattle.rows.specs.Rows.{row_in}
use Rattle.counters.proofs.Started.{used_up_stays, row_more_stays, taken_stays}
use Rattle.take.proofs.Laws.{rows_kept}
use Rattle.show.specs.Showing.{shown_of}
use Rattle.book.specs.State.{State, Arrival, edition_of, sheet_of}
use Rattle.book.specs.Calls.{listed, row_named, delivered, row_answer, row_found, shown}
use Rattle.book.proofs.Demand1.{row_told}
use Rattle.upheld.proofs.Touches.{arrived, kind_of_arrived, by_listing, by_arrival}

-- after a listing and after a message, taken or refused: what the book was started with is what it was
pub record EditionStays (s : State) : Type 0 where
  pub list : (l : Listing) → (listed s l).state.counters.start ≡ s.counters.start
  pub deliver : (a : Arrival) → (delivered s a).state.counters.start ≡ s.counters.start

pub edition_stays : (s : State) → EditionStays s
edition_stays s =
    record {
      list = λ l. by_listing s (λ t. t.counters.start) l (row_more_stays s.counters);
      deliver =
          λ a. by_arrival s (λ t. t.counters.start) a (used_up_stays s.counters)
          (λ z. (taken_stays (kind_of_arrived s a) (arrived s a).event s.counters).0);
    }

-- what a row shows as reported is what is kept of it
reported_is : (s : State) (symbol : List ℕ) → number_of (shown s symbol).answer ≡ 0
    → (shown s symbol).row.reported ≡ (row_in s.rows (row_found s symbol)).reported
unfolding shown shown_of
reported_is s symbol z =
    let e : row_answer s symbol ≡ 0 = sym (row_told s symbol) ∙ z in
    simp e refl

-- a message in a book whose edition does not report: every byte of the rows stays, and so does what each row shows as reported
pub record RowKeepsReported (s : State) (a : Arrival) : Type 0 where
  pub rows : (delivered s a).state.rows ≡ s.rows
  -- of a symbol that is shown before and after
  pub reported : (symbol : List ℕ) → number_of (shown s symbol).answer ≡ 0 → number_of (shown (delivered s a).state symbol).answer ≡ 0
      → (shown (delivered s a).state symbol).row.reported ≡ (shown s symbol).row.reported

module _ (s : State) (a : Arrival) (none : reports (edition_of s) ≡ false) where
  abbrev after : State
  after = (delivered s a).state

  rows_stay : after.rows ≡ s.rows
  rows_stay =
      by_arrival s (λ t. t.rows) a refl
      (λ z. rows_kept (kind_of_arrived s a) s.rows (arrived s a) (row_named s (arrived s a)) (edition_of s) none)

  -- and as many rows are used
  listed_stay : after.counters.rows ≡ s.counters.rows
  listed_stay =
      by_arrival s (λ t. t.counters.rows) a refl (λ z. (taken_stays (kind_of_arrived s a) (arrived s a).event s.counters).1)

  pub sheet_stays : sheet_of after ≡ sheet_of s
  sheet_stays = rw (rows_stay, listed_stay)

  row_stays : (symbol : List ℕ) → row_in after.rows (row_found after symbol) ≡ row_in s.rows (row_found s symbol)
  row_stays symbol = rw (rows_stay, listed_stay)

  pub row_keeps_reported : RowKeepsReported s a
  row_keeps_reported =
      record {
        rows = rows_stay;
        reported =
            λ symbol z t. reported_is after symbol t ∙ ap (λ (w : Row). w.reported) (row_stays symbol) ∙ sym (reported_is s symbol z);
      }
