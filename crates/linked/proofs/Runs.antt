-- The runs that the day's theorems speak of exist: in rooms of any bytes, whatever the book is asked, there is such a day of exported
-- calls, and of whatever is held then any symbol's row can be read.
-- Assumes nothing.
use Prim.Native.Nat.{ℕ}
use mathlib.Core.Path.{◌≡◌, refl, sym, ap, subst, ◌∙◌}
use mathlib.Core.List.{List, [], ◌∷◌}
use lib.ListN.{length, replicate}
use Rattle.octets.specs.Run.{Bytes}
use Rattle.answers.specs.Answers.{number_of}
use Rattle.editions.specs.declared.Edition.{Edition}
use Rattle.editions.specs.Editions.{edition_number}
use Rattle.rows.specs.declared.Listing.{Listing}
use Rattle.counters.specs.declared.Counters.{Counters}
use Rattle.counters.specs.Counting.{fresh_counters}
use Rattle.book.specs.State.{State, lent, Arrival}
use Rattle.book.specs.Calls.{listed, delivered}
use Rattle.book.proofs.Promise.{some_lfts, slice, written}
use Rattle.upheld.proofs.Touches.{touches_only}
use Rattle.words.specs.Words.{counter_count, counter_words, row_count, row_words}
use Rattle.words.proofs.Again.{fresh_known}
use Rattle.clerk.specs.States.{Asked, to_list, to_deliver, AskedFit}
use Rattle.clerk.proofs.Lent.{deliver_bytes}
use Rattle.cabinet.specs.Crossing.{Held, holding, held_of, crossed, shown_from}
use Rattle.cabinet.proofs.Calls.{listed_book_lem, delivered_book}
use Rattle.called.proofs.Given.{ListLfts, ListArgs, ListExit, DeliverLfts, DeliverArgs, DeliverExit, RowLfts, RowArgs, RowExit}
use Rattle.called.proofs.Given.{row_from, row_asked}
use Rattle.cabinet.specs.contracts.sorundappa_start as start
use Rattle.cabinet.specs.contracts.sorundappa_list as list
use Rattle.cabinet.specs.contracts.sorundappa_deliver as deliver
use Rattle.cabinet.specs.contracts.sorundappa_row as row
use Rattle.cabinet.proofs.sorundappa_row.Reads as row_reads
use Rattle.linked.proofs.Linked.{Calls, no_call, a_listing, a_delivery, LinkedDay}

-- ---- calls with any arguments, wherever they lie

abbrev list_at : ListLfts
list_at = some_lfts (list.signature).lifetimes

abbrev list_with : Held → Listing → ListArgs list_at
list_with h l = (written h.words, (written h.rows, (slice h.lines, (slice l.symbol, (l.close, tt)))))

abbrev list_then : Held → Listing → ListExit list_at
list_then h l = (written h.words, (written h.rows, (slice h.lines, (slice l.symbol, (l.close, tt)))))

abbrev deliver_at : DeliverLfts
deliver_at = some_lfts (deliver.signature).lifetimes

abbrev deliver_with : Held → Arrival → DeliverArgs deliver_at
deliver_with h a = (written h.words, (written h.rows, (written h.lines, (a.number, (slice a.message, tt)))))

abbrev deliver_then : Held → Arrival → DeliverExit deliver_at
deliver_then h a = (written h.words, (written h.rows, (written h.lines, (a.number, (slice a.message, tt)))))

abbrev row_at : RowLfts
row_at = some_lfts (row.signature).lifetimes

-- the last are the words that are lent for the row
abbrev row_with : Held → List ℕ → List ℕ → RowArgs row_at
row_with h symbol w = (slice h.words, (slice h.rows, (slice h.lines, (slice symbol, (written w, tt)))))

abbrev row_then : Held → List ℕ → List ℕ → RowExit row_at
row_then h symbol w = (slice h.words, (slice h.rows, (slice h.lines, (slice symbol, (written w, tt)))))

-- ---- runs

counted : (c : Counters) → length (counter_words c) ≡ counter_count
unfolding counter_words
counted c = refl

calls_there : (s : State) → Bytes s.lines → (qs : List Asked) → AskedFit qs → (end : Held) × Calls (held_of s) qs end
calls_there s bl [] f = (held_of s, no_call)
calls_there s bl (to_list l ∷ qs) f =
    let o = listed s l in
    let same : o.state.lines ≡ s.lines = (touches_only s).listed_lines l in
    let t = calls_there o.state (subst Bytes (sym same) bl) qs f.1 in
    -- the room for lines is lent to be read
    let then = holding (counter_words o.state.counters) o.state.rows s.lines in
    let p : then ≡ held_of o.state
    = ap (holding (counter_words o.state.counters) o.state.rows) (sym same) in (
      t.0,
      a_listing list_at (list_with (held_of s) l) o.answer (list_then then l)
          (ap (crossed o.answer) p ∙ sym (listed_book_lem s l), record { count = counted s.counters; fits = f.0 })
          (subst (λ (y : Held). Calls y qs t.0) (sym p) t.1),
    )
calls_there s bl (to_deliver a ∷ qs) f =
    let o = delivered s a in
    let t = calls_there o.state (deliver_bytes s a bl f.0) qs f.1 in (
      t.0,
      a_delivery deliver_at (deliver_with (held_of s) a) o.answer (deliver_then (held_of o.state) a)
          (sym (delivered_book s a), record { count = counted s.counters; lent = bl; brought = f.0 }) t.1,
    )

pub day_there : (ed : Edition) (rows lines : List ℕ) → Bytes lines → (qs : List Asked) → AskedFit qs
    → (end : Held) × LinkedDay ed rows lines qs end
day_there ed rows lines bl qs f =
    let w = counter_words (fresh_counters ed) in
    let t = calls_there (lent (fresh_counters ed) rows lines) bl qs f in (
      t.0,
      record {
        lifetimes = some_lfts (start.signature).lifetimes;
        before = (written w, (edition_number ed, tt));
        after = (written w, (edition_number ed, tt));
        given = refl;
        started = sym (fresh_known ed);
        calls = t.1;
      },
    )

-- what a row's reading tells is told by some call
pub reading_there : (h : Held) (symbol : List ℕ) → (κs : RowLfts) × (a : RowArgs κs) × (r : ℕ) × (x : RowExit κs)
    × row_reads.Learnt κs a r x × (row_from κs a ≡ h) × (row_asked κs a ≡ symbol)
reading_there h symbol =
    let s = shown_from h symbol in
    (row_at, row_with h symbol (replicate row_count 0), number_of s.answer, row_then h symbol (row_words s.row), (refl, refl), refl, refl)
