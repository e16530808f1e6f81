-- What the call inside says of the values that were taken from words and bytes is what the exported one says of the words and bytes.
-- Assumes nothing.
use Rattle.std.specs.Prelude.{None, Option, Some}
use Prim.Native.Nat.{ℕ}
use mathlib.Core.Path.{◌≡◌, refl, ap, sym, ◌∙◌}
use mathlib.Core.List.{List}
use lib.ListN.{replicate}
use Rattle.numbers.specs.Number.{be}
use Rattle.answers.specs.Answers.{number_of}
use Rattle.counters.specs.declared.Counters.{Counters}
use Rattle.rows.specs.declared.Listing.{Listing}
use Rattle.show.specs.Showing.{nothing_shown}
use Rattle.book.specs.declared.Said.{Said}
use Rattle.book.specs.State.{State, lent, Outcome, leaving, Arrival}
use Rattle.book.specs.Calls.{Shown, listed, delivered, shown}
use Rattle.words.specs.Words.{counters_of, counter_words, row_count, row_words}
use Rattle.words.proofs.Again.{counters_again}
use Rattle.cabinet.specs.Crossing.{Held, holding, held_of, crossed, crossing, called_on, listed_from, delivered_from, shown_on, shown_from}

-- an answer and words that are those of an outcome, with its rooms, are that outcome as it crosses
told_crosses : (o : Outcome) (a : ℕ) (w : List ℕ) → a ≡ o.answer → w ≡ counter_words o.state.counters
    → crossed a (holding w o.state.rows o.state.lines) ≡ crossing o
told_crosses o a w n p = rw (n, p)

-- ---- words that are a book's

module _ (h : Held) (c : Counters) (e : counters_of h.words ≡ Some c) where
  -- the book that the words and the rooms are
  abbrev here : State
  here = lent c h.rows h.lines

  -- the call inside told so and left these rooms, and this number and these words were handed on
  module _ (t : Said) (rows lines : List ℕ) (a : ℕ) (w : List ℕ) (p : w ≡ counter_words t.counters) (n : a ≡ number_of t.answer) where
    called : (call : State → Outcome) → leaving t rows lines ≡ call here
        → crossed a (holding w rows lines) ≡ called_on (counters_of h.words) call h
    called call q =
        told_crosses (leaving t rows lines) a w n p ∙ ap crossing q ∙ ap (λ (m : Option Counters). called_on m call h) (sym e)

    pub list_said : (l given : Listing) → given ≡ l → leaving t rows lines ≡ listed here given
        → crossed a (holding w rows lines) ≡ listed_from h l
    unfolding listed_from
    list_said l given g q = called (λ s. listed s l) (q ∙ ap (listed here) g)

    pub deliver_said : (d : Arrival) → leaving t rows lines ≡ delivered here d
        → crossed a (holding w rows lines) ≡ delivered_from h d
    unfolding delivered_from
    deliver_said d q = called (λ s. delivered s d) q

  pub row_said : (symbol : List ℕ) (r : Shown) (a : ℕ) (w : List ℕ) → r ≡ shown here symbol → w ≡ row_words r.row
      → a ≡ number_of r.answer
      → (a ≡ number_of (shown_from h symbol).answer) × (w ≡ row_words (shown_from h symbol).row)
  unfolding shown_from
  row_said symbol r a w q p n =
      let s = q ∙ ap (λ (m : Option Counters). shown_on m h symbol) (sym e) in
      (n ∙ ap (λ (x : Shown). number_of x.answer) s, p ∙ ap (λ (x : Shown). row_words x.row) s)

-- ---- words that are no book's: the number 17 was handed on, and nothing was changed

pub nothing_words : row_words nothing_shown ≡ replicate row_count 0
unfolding row_words be
nothing_words = refl

module _ (h : Held) (e : counters_of h.words ≡ None) (a : ℕ) (n : a ≡ 17) where
  uncalled : (call : State → Outcome) → crossed a h ≡ called_on (counters_of h.words) call h
  uncalled call = ap (λ (x : ℕ). crossed x h) n ∙ ap (λ (m : Option Counters). called_on m call h) (sym e)

  pub list_none : (l : Listing) → crossed a h ≡ listed_from h l
  unfolding listed_from
  list_none l = uncalled (λ s. listed s l)

  pub deliver_none : (d : Arrival) → crossed a h ≡ delivered_from h d
  unfolding delivered_from
  deliver_none d = uncalled (λ s. delivered s d)

  pub row_none : (symbol : List ℕ)
      → (a ≡ number_of (shown_from h symbol).answer) × (replicate row_count 0 ≡ row_words (shown_from h symbol).row)
  unfolding shown_from
  row_none symbol =
      let s = ap (λ (m : Option Counters). shown_on m h symbol) (sym e) in
      (n ∙ ap (λ (x : Shown). number_of x.answer) s, sym nothing_words ∙ ap (λ (x : Shown). row_words x.row) s)

-- ---- what is held of a book: the calls are those on the book

pub listed_book_lem : (s : State) (l : Listing) → listed_from (held_of s) l ≡ crossing (listed s l)
unfolding listed_from
listed_book_lem s l = ap (λ (m : Option Counters). called_on m (λ t. listed t l) (held_of s)) (counters_again s.counters)

pub delivered_book : (s : State) (d : Arrival) → delivered_from (held_of s) d ≡ crossing (delivered s d)
unfolding delivered_from
delivered_book s d = ap (λ (m : Option Counters). called_on m (λ t. delivered t d) (held_of s)) (counters_again s.counters)

pub shown_book : (s : State) (symbol : List ℕ) → shown_from (held_of s) symbol ≡ shown s symbol
unfolding shown_from
shown_book s symbol = ap (λ (m : Option Counters). shown_on m (held_of s) symbol) (counters_again s.counters)
