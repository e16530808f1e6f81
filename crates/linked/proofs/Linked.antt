-- One true day of the exported calls, as a program of another language makes them: `sorundappa_start` of an edition, then any calls of
-- `sorundappa_list`, `sorundappa_deliver` and `sorundappa_row` in any order, each as its contract tells. The words that are left are those
-- of the clerk's counters, the words and rooms come to his book, and a row's reading tells what he shows. The clerk is of that edition.
-- Assumes nothing.
use Prim.Native.Nat.{ℕ, ◌≤◌}
use mathlib.Core.Path.{◌≡◌, refl, sym, ap, subst, ◌∙◌}
use mathlib.Core.Bool.{false}
use mathlib.Core.List.{List, [], ◌∷◌, Memᴰ}
use native.Mathlib.Omega.{arith}
use lib.ListN.{length, replicate}
use Rattle.octets.specs.Run.{Bytes}
use Rattle.answers.specs.Answers.{number_of}
use Rattle.editions.specs.declared.Edition.{Edition}
use Rattle.editions.specs.Editions.{edition_number}
use Rattle.lines.specs.Lines.{line_limit}
use Rattle.rows.specs.declared.Listing.{Listing}
use Rattle.rows.specs.Rows.{row_limit}
use Rattle.counters.specs.Counting.{last_number, fresh_counters}
use Rattle.book.specs.State.{State, lent}
use Rattle.book.specs.Calls.{Shown, listed, delivered, shown}
use Rattle.words.specs.Words.{counter_words, fresh_words, row_count, row_words}
use Rattle.words.proofs.Again.{counters_again, fresh_known}
use Rattle.clerk.specs.Steps.{Book, book_of}
use Rattle.clerk.specs.Clerk.{is_in, symbols_in, clerk_sheet, Taken, taken_of, shown_by, clerk_book}
use Rattle.clerk.specs.Arrivals.{Largest, numbers, Copies, upto}
use Rattle.clerk.specs.Claims.{NoRepeat}
use Rattle.clerk.specs.States.{Asked, to_list, to_deliver, asked_all, arrivals_in, listings_in, AskedIn}
use Rattle.clerk.proofs.InOrder.{largest_below}
use Rattle.clerk.proofs.Sim.{sheet_once}
use Rattle.clerk.proofs.States.{Stands, steps_from, shown_listed, shown_missing}
use Rattle.linked.specs.BookWords.{book_words, ComesTo}
use Rattle.cabinet.specs.Crossing.{Held, holding, held_of, Crossed, listed_from, delivered_from, shown_from}
use Rattle.cabinet.proofs.Calls.{listed_book_lem, delivered_book, shown_book}
use Rattle.called.proofs.Given.{StartLfts, StartArgs, StartExit, start_given, start_left, ListLfts, ListArgs, ListExit, list_from, list_given}
use Rattle.called.proofs.Given.{list_left}
use Rattle.called.proofs.Given.{DeliverLfts, DeliverArgs, DeliverExit, deliver_from, deliver_given, deliver_left}
use Rattle.called.proofs.Given.{RowLfts, RowArgs, RowExit, row_from, row_asked, row_left}
use Rattle.called.proofs.Refused.{row_cleared}
use Rattle.cabinet.proofs.sorundappa_start.Reads as start-reads
use Rattle.cabinet.proofs.sorundappa_list.Reads as list-reads
use Rattle.cabinet.proofs.sorundappa_deliver.Reads as deliver-reads
use Rattle.cabinet.proofs.sorundappa_row.Reads as row_reads

-- ---- runs of calls, each one as its contract tells; each gets what the call before left

-- any calls on what a caller holds; the list is what the book was asked by them, and the last is what he holds then
pub data Calls : Held → List Asked → Held → Type 1 where
  no_call : {h : Held} → Calls h [] h
  a_listing : (κs : ListLfts) (a : ListArgs κs) (r : ℕ) (x : ListExit κs) {qs : List Asked} {end : Held}
      → list-reads.Learnt κs a r x → Calls (list_left κs a x) qs end → Calls (list_from κs a) (to_list (list_given κs a) ∷ qs) end
  a_delivery : (κs : DeliverLfts) (a : DeliverArgs κs) (r : ℕ) (x : DeliverExit κs) {qs : List Asked} {end : Held}
      → deliver-reads.Learnt κs a r x → Calls (deliver_left κs x) qs end → Calls (deliver_from κs a) (to_deliver (deliver_given κs a) ∷ qs) end
  -- a row's reading is lent everything to be read, and asks nothing that changes the book
  a_reading : (κs : RowLfts) (a : RowArgs κs) (r : ℕ) (x : RowExit κs) {qs : List Asked} {end : Held}
      → row_reads.Learnt κs a r x → Calls (row_from κs a) qs end → Calls (row_from κs a) qs end

-- a whole day of an edition in rooms of any bytes: a start by its number, then calls
pub record LinkedDay (ed : Edition) (rows lines : List ℕ) (qs : List Asked) (end : Held) : Type 1 where
  pub lifetimes : StartLfts
  pub before : StartArgs lifetimes
  pub after : StartExit lifetimes
  pub given : start_given lifetimes before ≡ edition_number ed
  pub started : start-reads.Learnt lifetimes before tt after
  pub calls : Calls (holding (start_left lifetimes after) rows lines) qs end

-- ---- what the calls ask, and what they leave

-- what is held of a book is, after a listing, what is held of the book then
list_left_lem : (κs : ListLfts) (a : ListArgs κs) (r : ℕ) (x : ListExit κs) → list-reads.Learnt κs a r x → (s : State)
    → list_from κs a ≡ held_of s
    → list_left κs a x ≡ held_of (listed s (list_given κs a)).state
list_left_lem κs a r x q s e =
    ap (λ (c : Crossed). c.left) (q.0 ∙ ap (λ (h : Held). listed_from h (list_given κs a)) e ∙ listed_book_lem s (list_given κs a))

-- and after a delivery
deliver_left_lem : (κs : DeliverLfts) (a : DeliverArgs κs) (r : ℕ) (x : DeliverExit κs) → deliver-reads.Learnt κs a r x → (s : State)
    → deliver_from κs a ≡ held_of s → deliver_left κs x ≡ held_of (delivered s (deliver_given κs a)).state
deliver_left_lem κs a r x q s e =
    ap (λ (c : Crossed). c.left)
    (q.0 ∙ ap (λ (h : Held). delivered_from h (deliver_given κs a)) e ∙ delivered_book s (deliver_given κs a))

asked : {h end : Held} {qs : List Asked} → Calls h qs end → (s : State) → h ≡ held_of s → AskedIn s qs
asked no_call s e = tt
asked (a_listing κs a r x q t) s e = (q.1.fits, asked t (listed s (list_given κs a)).state (list_left_lem κs a r x q s e))
asked (a_delivery κs a r x q t) s e = (
  (subst Bytes (ap (λ (h : Held). h.lines) e) q.1.lent, q.1.brought),
  asked t (delivered s (deliver_given κs a)).state (deliver_left_lem κs a r x q s e),
)
asked (a_reading κs a r x q t) s e = asked t s e

left : {h end : Held} {qs : List Asked} → Calls h qs end → (s : State) → h ≡ held_of s → end ≡ held_of (asked_all s qs)
unfolding asked_all
left no_call s e = e
left (a_listing κs a r x q t) s e = left t (listed s (list_given κs a)).state (list_left_lem κs a r x q s e)
left (a_delivery κs a r x q t) s e = left t (delivered s (deliver_given κs a)).state (deliver_left_lem κs a r x q s e)
left (a_reading κs a r x q t) s e = left t s e

-- the words of a state's counters are those of its book
words_of : (s : State) → counter_words s.counters ≡ book_words (book_of s)
unfolding book_of counter_words
words_of s = refl

-- what is held of a state comes to its book
comes : (h : Held) (s : State) (b : Book) → h ≡ held_of s → book_of s ≡ b → ComesTo h b
comes h s b e f =
    subst (λ (y : Held). ComesTo y b) (sym e)
    (record { counters = s.counters; theirs = counters_again s.counters; reads = f })

-- ---- the day

-- an edition, a day's messages, of which there are N, and calls that bring copies of them, 1 to n at most in order
module _ (ed : Edition) (day : ℕ → List ℕ) (N n : ℕ) (fits : N ≤ last_number) (qs : List Asked) (copies : Copies day N (arrivals_in qs))
    (largest : Largest (numbers (arrivals_in qs)) n) {rows lines : List ℕ} {end : Held} (h : LinkedDay ed rows lines qs end) where
  -- the sheet of the listings that came in time, and how many lines the room has
  abbrev sheet : List Listing
  sheet = clerk_sheet (row_limit (length rows)) (listings_in qs)

  abbrev room : ℕ
  room = line_limit (length lines)

  abbrev taken : List Taken
  taken = taken_of ed sheet room (upto day n)

  once : NoRepeat (symbols_in sheet)
  once = sheet_once (row_limit (length rows)) [] (listings_in qs) tt

  -- the state that the day begins with, and the one that it ends with
  abbrev first : State
  first = lent (fresh_counters ed) rows lines

  abbrev last : State
  last = asked_all first qs

  begun : holding (start_left h.lifetimes h.after) rows lines ≡ held_of first
  begun = ap (λ (w : List ℕ). holding w rows lines) (h.started ∙ ap fresh_words h.given ∙ fresh_known ed)

  held : end ≡ held_of last
  held = left h.calls first begun

  stands : Stands (length rows) (length lines) (clerk_book ed sheet room (upto day n)) last
  stands = steps_from ed day N n fits first qs (asked h.calls first begun) copies largest

  -- the book is the clerk's, of the messages 1 to n, and the words are those of his counters
  pub linked_day : (n ≤ N) × (end.words ≡ book_words (clerk_book ed sheet room (upto day n)))
      × ComesTo end (clerk_book ed sheet room (upto day n))
  linked_day = (
    largest_below day N n (arrivals_in qs) copies largest,
    ap (λ (y : Held). y.words) held ∙ words_of last ∙ ap book_words stands.reads,
    comes end last _ held stands.reads,
  )

  -- the rooms are as long as they were
  pub rooms_long : (length end.rows ≡ length rows) × (length end.lines ≡ length lines)
  rooms_long = (
    ap (λ (y : Held). length y.rows) held ∙ stands.row_room,
    ap (λ (y : Held). length y.lines) held ∙ stands.line_room,
  )

  -- ---- a row's reading then

  module _ (κs : RowLfts) (a : RowArgs κs) (r : ℕ) (x : RowExit κs) (q : row_reads.Learnt κs a r x) (e : row_from κs a ≡ end) where
    told : (s : Shown) → shown last (row_asked κs a) ≡ s → (r ≡ number_of s.answer) × (row_left κs x ≡ row_words s.row)
    told s f =
        let g = ap (λ (y : Held). shown_from y (row_asked κs a)) (e ∙ held) ∙ shown_book last (row_asked κs a) ∙ f in
        (q.0 ∙ ap (λ (y : Shown). number_of y.answer) g, q.1 ∙ ap (λ (y : Shown). row_words y.row) g)

    -- tells what the clerk shows of a listed symbol
    pub listed_row_lem : (y : Listing) → Memᴰ y sheet → row_asked κs a ≡ y.symbol
        → (r ≡ 0) × (row_left κs x ≡ row_words (shown_by ed taken y))
    listed_row_lem y m g =
        told _ (ap (shown last) g ∙ shown_listed (length rows) (length lines) ed sheet room (upto day n) last stands once y m)

    -- and of any other 7, with a row of zeros
    pub unlisted_row : is_in (row_asked κs a) (symbols_in sheet) ≡ false → (r ≡ 7) × (row_left κs x ≡ replicate row_count 0)
    unlisted_row g =
        let z : r ≡ 7
        = (told _ (shown_missing (length rows) (length lines) ed sheet room (upto day n) last stands (row_asked κs a) g)).0 in
        (z, row_cleared κs a r x q (λ o. absurd (omega (arith, z, o))))
