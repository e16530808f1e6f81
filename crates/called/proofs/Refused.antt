-- What a refused call leaves, said of the exported calls themselves, as their contracts tell: everything as it was, or the first word one
-- more and nothing else, or zeros. What a caller asks of his words, that they are as many as the counters have, the call's types say.
-- Assumes nothing.
use Rattle.std.specs.Prelude.{None, Option, Some}
use Prim.Native.Nat.{ℕ, ◌+◌, ◌≤◌}
use mathlib.Core.Path.{◌≡◌, refl, ap, sym, ◌∙◌}
use mathlib.Core.Bool.{true, false}
use mathlib.Core.List.{List}
use native.Mathlib.Omega.{arith}
use lib.ListN.{length, get_or, set, replicate}
use Rattle.answers.specs.Answers.{number_of}
use Rattle.editions.specs.Editions.{edition_named}
use Rattle.records.specs.Packed.{record_bytes}
use Rattle.records.proofs.Stores.{no_bytes}
use Rattle.message.specs.Reader.{Reading}
use Rattle.layouts.proofs.Demand2.{read_refused}
use Rattle.counters.specs.declared.Counters.{Counters}
use Rattle.counters.specs.Counting.{last_number, with_wanted}
use Rattle.editions.specs.declared.Edition.{Edition}
use Rattle.editions.specs.Editions.{reports}
use Rattle.message.specs.Obeying.{Obeys}
use Rattle.book.specs.State.{State, lent, Outcome, Arrival}
use Rattle.book.specs.Calls.{Shown, listed, delivered}
use Rattle.upheld.proofs.EditionStays.{row_keeps_reported}
use Rattle.upheld.proofs.OtherEdition.{other_edition_refused}
use Rattle.book.proofs.Demand1.{refused_keeps}
use Rattle.words.specs.Words.{counter_count, counter_words, counters_of, row_count, row_words}
use Rattle.words.proofs.Again.{words_again}
use Rattle.cabinet.specs.Crossing.{Held, holding, held_of, Crossed, crossed, crossing, called_on, listed_from, delivered_from, shown_on}
use Rattle.cabinet.specs.Crossing.{shown_from, SoundBook, read_by}
use Rattle.cabinet.proofs.Calls.{nothing_words}
use Rattle.called.proofs.Given.{ListLfts, ListArgs, ListExit, list_from, list_given, list_left, DeliverLfts, DeliverArgs, DeliverExit}
use Rattle.called.proofs.Given.{deliver_from, deliver_given, deliver_left, RowLfts, RowArgs, RowExit, row_from, row_asked, row_left}
use Rattle.called.proofs.Given.{ReadLfts, ReadArgs, ReadExit, read_edition, read_message, read_left}
use Rattle.cabinet.proofs.sorundappa_list.Reads as list-reads
use Rattle.cabinet.proofs.sorundappa_deliver.Reads as deliver-reads
use Rattle.cabinet.proofs.sorundappa_row.Reads as row_reads
use Rattle.cabinet.proofs.sorundappa_read.Reads as read-reads

-- ---- a call that hands back what `called_on` says

-- on what is held, of so many words
module _ (call : State → Outcome) (h : Held) (k : length h.words ≡ counter_count) where
  -- the book that the counters are, with the rooms
  abbrev pub book_in : Counters → State
  book_in c = lent c h.rows h.lines

  -- of a book's words
  pub on_book : (c : Counters) → counters_of h.words ≡ Some c → called_on (counters_of h.words) call h ≡ crossing (call (book_in c))
  on_book c e = ap (λ (m : Option Counters). called_on m call h) e

  -- of words that are no book's
  pub on_none : counters_of h.words ≡ None → called_on (counters_of h.words) call h ≡ crossed 17 h
  on_none e = ap (λ (m : Option Counters). called_on m call h) e

  -- a call that leaves the book leaves all that is held
  pub unmoved : (c : Counters) → counters_of h.words ≡ Some c → (call (book_in c)).state ≡ book_in c → held_of (call (book_in c)).state ≡ h
  unmoved c e q = ap held_of q ∙ ap (λ (w : List ℕ). holding w h.rows h.lines) (words_again h.words k c e)

  -- refused, where a refusal leaves the book
  pub left_kept : ((s : State) → ((call s).answer ≡ 0 → ⊥) → (call s).state ≡ s) → ((called_on (counters_of h.words) call h).answer ≡ 0 → ⊥)
      → (called_on (counters_of h.words) call h).left ≡ h
  left_kept keeps z = go (counters_of h.words) refl
    where
      go : (m : Option Counters) → counters_of h.words ≡ m → (called_on (counters_of h.words) call h).left ≡ h
      go (Some c) e =
          let q = on_book c e in
          let kept = keeps (book_in c) (λ n. z (ap (λ (x : Crossed). x.answer) q ∙ n)) in
          ap (λ (x : Crossed). x.left) q ∙ unmoved c e kept
      go None e = ap (λ (x : Crossed). x.left) (on_none e)

-- ---- a listing

module _ (κs : ListLfts) (a : ListArgs κs) (r : ℕ) (x : ListExit κs) (h : list-reads.Learnt κs a r x) where
  -- refused: everything is as it was
  pub list_kept : (r ≡ 0 → ⊥) → list_left κs a x ≡ list_from κs a
  unfolding listed_from
  list_kept z =
      let l = list_given κs a in
      ap (λ (c : Crossed). c.left) h.0
      ∙ left_kept (λ s. listed s l) (list_from κs a) h.1.count (λ s n. (refused_keeps s).list l n)
      (λ e. z (ap (λ (c : Crossed). c.answer) h.0 ∙ e))

-- ---- a delivery

-- the words after the first counter is one more
first_more : (w : List ℕ) → length w ≡ counter_count → (c : Counters) → counters_of w ≡ Some c
    → counter_words (with_wanted (c.wanted + 1) c) ≡ set w 0 (get_or w 0 0 + 1)
unfolding counter_words
first_more w k c e = ap (λ (y : List ℕ). set y 0 (get_or y 0 0 + 1)) (words_again w k c e)

module _ (κs : DeliverLfts) (a : DeliverArgs κs) (r : ℕ) (x : DeliverExit κs) (h : deliver-reads.Learnt κs a r x) where
  abbrev from : Held
  from = deliver_from κs a

  abbrev arrival : Arrival
  arrival = deliver_given κs a

  abbrev here : Counters → State
  here c = book_in (λ s. delivered s arrival) from h.1.count c

  handed : crossed r (deliver_left κs x) ≡ called_on (counters_of from.words) (λ s. delivered s arrival) from
  unfolding delivered_from
  handed = h.0

  -- of a book's words
  handed_on : (c : Counters) → counters_of from.words ≡ Some c → crossed r (deliver_left κs x) ≡ crossing (delivered (here c) arrival)
  handed_on c e = handed ∙ on_book (λ s. delivered s arrival) from h.1.count c e

  refused : (r ≡ 0 → ⊥) → (c : Counters) → counters_of from.words ≡ Some c → (delivered (here c) arrival).answer ≡ 0 → ⊥
  refused z c e n = z (ap (λ (y : Crossed). y.answer) (handed_on c e) ∙ n)

  -- whatever refused it, no byte of a room is changed
  pub deliver_kept : (r ≡ 0 → ⊥) → ((deliver_left κs x).rows ≡ from.rows) × ((deliver_left κs x).lines ≡ from.lines)
  deliver_kept z = go (counters_of from.words) refl
    where
      go : (m : Option Counters) → counters_of from.words ≡ m → ((deliver_left κs x).rows ≡ from.rows) × ((deliver_left κs x).lines ≡ from.lines)
      go (Some c) e =
          let q = handed_on c e in
          let kept = (refused_keeps (here c)).deliver arrival (refused z c e) in (
            ap (λ (y : Crossed). y.left.rows) q ∙ ap (λ (t : State). t.rows) kept,
            ap (λ (y : Crossed). y.left.lines) q ∙ ap (λ (t : State). t.lines) kept,
          )
      go None e =
          let q = handed ∙ on_none (λ s. delivered s arrival) from h.1.count e in
          (ap (λ (y : Crossed). y.left.rows) q, ap (λ (y : Crossed). y.left.lines) q)

  -- of no sound book, or at any number but the wanted one: refused, and everything is as it was
  pub deliver_unused : ((b : SoundBook from) → arrival.number ≡ b.counters.wanted → arrival.number ≤ last_number → ⊥)
      → (r ≡ 0 → ⊥) × (deliver_left κs x ≡ from)
  deliver_unused u = go (counters_of from.words) refl
    where
      go : (m : Option Counters) → counters_of from.words ≡ m → (r ≡ 0 → ⊥) × (deliver_left κs x ≡ from)
      go (Some c) e =
          let q = handed_on c e in
          let kept = (refused_keeps (here c)).unused arrival (λ s n f. u (record { counters = c; theirs = e; sound = s }) n f) in (
            λ z. kept.0 (sym (ap (λ (y : Crossed). y.answer) q) ∙ z),
            ap (λ (y : Crossed). y.left) q ∙ unmoved (λ s. delivered s arrival) from h.1.count c e kept.1,
          )
      go None e =
          let q = handed ∙ on_none (λ s. delivered s arrival) from h.1.count e in
          (λ z. absurd (omega (arith, z, ap (λ (y : Crossed). y.answer) q)), ap (λ (y : Crossed). y.left) q)

  -- in a sound book, refused at the wanted number: the first word is one more, and all else is as it was
  pub refused_used : (b : SoundBook from) → arrival.number ≡ b.counters.wanted → arrival.number ≤ last_number → (r ≡ 0 → ⊥)
      → deliver_left κs x ≡ holding (set from.words 0 (get_or from.words 0 0 + 1)) from.rows from.lines
  refused_used b n f z =
      let c = b.counters in
      let s = here c in
      let kept = (refused_keeps s).used arrival b.sound n f (refused z c b.theirs) ∙ (refused_keeps s).by_one b.sound in
      ap (λ (y : Crossed). y.left) (handed_on c b.theirs)
      ∙ ap held_of kept
      ∙ ap (λ (w : List ℕ). holding w from.rows from.lines) (first_more from.words h.1.count c b.theirs)

  -- a message that obeys another edition than the book's: 4, and `refused_used` says what is left
  pub other_refused : (b : SoundBook from) (d : Edition) → arrival.number ≡ b.counters.wanted → arrival.number ≤ last_number
      → (d ≡ b.counters.start.edition → ⊥) → Obeys d arrival.message → r ≡ 4
  other_refused b d n f o y =
      ap (λ (z : Crossed). z.answer) (handed_on b.counters b.theirs)
      ∙ (other_edition_refused (here b.counters) arrival d b.sound n f o y).0

  -- in a book of an edition that reports no consolidated volume no byte of the rows changes, whatever the answer is
  pub rows_unreported : (c : Counters) → counters_of from.words ≡ Some c → reports c.start.edition ≡ false
      → (deliver_left κs x).rows ≡ from.rows
  rows_unreported c e none =
      ap (λ (z : Crossed). z.left.rows) (handed_on c e) ∙ (row_keeps_reported (here c) arrival none).rows

-- ---- a row's reading

module _ (κs : RowLfts) (a : RowArgs κs) (r : ℕ) (x : RowExit κs) (h : row_reads.Learnt κs a r x) where
  -- refused: every word of the row is 0
  pub row_cleared : (r ≡ 0 → ⊥) → row_left κs x ≡ replicate row_count 0
  unfolding shown_from
  row_cleared z = go (counters_of (row_from κs a).words) refl
    where
      go : (m : Option Counters) → counters_of (row_from κs a).words ≡ m → row_left κs x ≡ replicate row_count 0
      go (Some c) e =
          let q = ap (λ (m : Option Counters). shown_on m (row_from κs a) (row_asked κs a)) e in
          let n = (refused_keeps _).row (row_asked κs a) (λ o. z (h.0 ∙ ap (λ (s : Shown). number_of s.answer) q ∙ o)) in
          h.1 ∙ ap (λ (s : Shown). row_words s.row) q ∙ ap row_words n ∙ nothing_words
      go None e =
          h.1 ∙ ap (λ (m : Option Counters). row_words (shown_on m (row_from κs a) (row_asked κs a)).row) e ∙ nothing_words

-- ---- a message's reading

module _ (κs : ReadLfts) (a : ReadArgs κs) (r : ℕ) (x : ReadExit κs) (h : read-reads.Learnt κs a r x) where
  abbrev found : Option Edition → Reading
  found n = read_by n (read_message κs a)

  -- refused: every byte of the record is 0
  pub read_cleared : (r ≡ 0 → ⊥) → read_left κs x ≡ replicate 80 0
  read_cleared z = go (edition_named (read_edition κs a)) refl
    where
      go : (n : Option Edition) → edition_named (read_edition κs a) ≡ n → read_left κs x ≡ replicate 80 0
      go (Some e) q =
          let n = (read_refused e (read_message κs a) (λ o. z (h.0 ∙ ap (λ (y : Option Edition). number_of (found y).answer) q ∙ o))).0 in
          h.1 ∙ ap (λ (y : Option Edition). record_bytes (found y).found) q ∙ ap record_bytes n ∙ no_bytes
      go None q = h.1 ∙ ap (λ (y : Option Edition). record_bytes (found y).found) q ∙ no_bytes
