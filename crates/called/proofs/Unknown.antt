-- A number that is no edition's, said of the exported calls themselves, as their contracts tell: words that bear one are answered 17 by
-- every call on a book, and nothing changes; a start with one gives such words; a message alone is then read with 4 and written with 5.
-- And the edition's word of a book stays what it was, whatever is called.
-- Assumes nothing.
use Rattle.std.specs.Prelude.{None, Option, Some}
use Prim.Native.Nat.{ℕ}
use mathlib.Core.Path.{◌≡◌, refl, ap, sym, ◌∙◌}
use mathlib.Core.List.{List}
use lib.ListN.{get_or, replicate}
use Rattle.answers.specs.Answers.{number_of}
use Rattle.editions.specs.Editions.{edition_number, edition_named}
use Rattle.counters.specs.declared.Start.{Start}
use Rattle.counters.specs.declared.Counters.{Counters}
use Rattle.records.specs.Packed.{record_length, record_of, record_bytes}
use Rattle.records.proofs.Stores.{no_bytes}
use Rattle.book.specs.State.{State, Outcome}
use Rattle.book.specs.Calls.{Shown, listed, delivered}
use Rattle.upheld.proofs.EditionStays as Inside
use Rattle.words.specs.Words.{counter_words, edition_at, counters_of, row_count, row_words}
use Rattle.words.proofs.Again.{no_book, fresh_unknown, edition_word}
use Rattle.cabinet.specs.Crossing.{Held, Crossed, crossed, crossing, called_on, listed_from, delivered_from, shown_on, shown_from}
use Rattle.cabinet.specs.Crossing.{read_by, write_answer_by, write_out_by}
use Rattle.cabinet.proofs.Calls.{nothing_words}
use Rattle.called.proofs.Given.{StartLfts, StartArgs, StartExit, start_given, start_left, ListLfts, ListArgs, ListExit, list_from}
use Rattle.called.proofs.Given.{list_given, list_left, DeliverLfts, DeliverArgs, DeliverExit, deliver_from, deliver_given, deliver_left}
use Rattle.called.proofs.Given.{RowLfts, RowArgs, RowExit, row_from, row_asked, row_left, ReadLfts, ReadArgs, ReadExit, read_edition}
use Rattle.called.proofs.Given.{read_message, read_left, WriteLfts, WriteArgs, WriteExit, write_edition, write_given, write_from}
use Rattle.called.proofs.Given.{write_left}
use Rattle.cabinet.proofs.sorundappa_start.Reads as start-reads
use Rattle.cabinet.proofs.sorundappa_list.Reads as list-reads
use Rattle.cabinet.proofs.sorundappa_deliver.Reads as deliver-reads
use Rattle.cabinet.proofs.sorundappa_row.Reads as row_reads
use Rattle.cabinet.proofs.sorundappa_read.Reads as read-reads
use Rattle.cabinet.proofs.sorundappa_write.Reads as write-reads
use Rattle.editions.specs.declared.Edition.{Edition}

-- the edition's word of what is held names none
abbrev pub Strange : Held → Type 0
Strange h = edition_named (get_or h.words edition_at 0) ≡ None

-- ---- no edition's number

pub record UnknownRefused : Type 1 where
  -- a start cannot be refused: its words are no book's
  pub start : (κs : StartLfts) (a : StartArgs κs) (x : StartExit κs) → start-reads.Learnt κs a tt x
      → edition_named (start_given κs a) ≡ None → counters_of (start_left κs x) ≡ None
  -- the calls on a book: 17, and everything is as it was
  pub list : (κs : ListLfts) (a : ListArgs κs) (r : ℕ) (x : ListExit κs) → list-reads.Learnt κs a r x
      → Strange (list_from κs a) → (r ≡ 17) × (list_left κs a x ≡ list_from κs a)
  pub deliver : (κs : DeliverLfts) (a : DeliverArgs κs) (r : ℕ) (x : DeliverExit κs) → deliver-reads.Learnt κs a r x
      → Strange (deliver_from κs a) → (r ≡ 17) × (deliver_left κs x ≡ deliver_from κs a)
  -- of a row's reading every word is 0
  pub row : (κs : RowLfts) (a : RowArgs κs) (r : ℕ) (x : RowExit κs) → row_reads.Learnt κs a r x
      → Strange (row_from κs a) → (r ≡ 17) × (row_left κs x ≡ replicate row_count 0)
  -- a message alone: 4 and a record of zeros; 5, and the space is as it was
  pub read : (κs : ReadLfts) (a : ReadArgs κs) (r : ℕ) (x : ReadExit κs) → read-reads.Learnt κs a r x
      → edition_named (read_edition κs a) ≡ None → (r ≡ 4) × (read_left κs x ≡ replicate record_length 0)
  pub write : (κs : WriteLfts) (a : WriteArgs κs) (r : ℕ) (x : WriteExit κs) → write-reads.Learnt κs a r x
      → edition_named (write_edition κs a) ≡ None → (r ≡ 5) × (write_left κs x ≡ write_from κs a)

-- what a call of such words hands back
uncalled : (call : State → Outcome) (h : Held) (r : ℕ) (left : Held) → crossed r left ≡ called_on (counters_of h.words) call h → Strange h
    → (r ≡ 17) × (left ≡ h)
uncalled call h r left q e =
    let n = q ∙ ap (λ (m : Option Counters). called_on m call h) (no_book h.words e) in
    (ap (λ (c : Crossed). c.answer) n, ap (λ (c : Crossed). c.left) n)

list_strange : (κs : ListLfts) (a : ListArgs κs) (r : ℕ) (x : ListExit κs) → list-reads.Learnt κs a r x
    → Strange (list_from κs a) → (r ≡ 17) × (list_left κs a x ≡ list_from κs a)
unfolding listed_from
list_strange κs a r x h e = uncalled (λ s. listed s (list_given κs a)) (list_from κs a) r (list_left κs a x) h.0 e

deliver_strange : (κs : DeliverLfts) (a : DeliverArgs κs) (r : ℕ) (x : DeliverExit κs) → deliver-reads.Learnt κs a r x
    → Strange (deliver_from κs a) → (r ≡ 17) × (deliver_left κs x ≡ deliver_from κs a)
unfolding delivered_from
deliver_strange κs a r x h e = uncalled (λ s. delivered s (deliver_given κs a)) (deliver_from κs a) r (deliver_left κs x) h.0 e

row_strange : (κs : RowLfts) (a : RowArgs κs) (r : ℕ) (x : RowExit κs) → row_reads.Learnt κs a r x
    → Strange (row_from κs a) → (r ≡ 17) × (row_left κs x ≡ replicate row_count 0)
unfolding shown_from
row_strange κs a r x h e =
    let q = ap (λ (m : Option Counters). shown_on m (row_from κs a) (row_asked κs a)) (no_book (row_from κs a).words e) in
    (h.0 ∙ ap (λ (s : Shown). number_of s.answer) q, h.1 ∙ ap (λ (s : Shown). row_words s.row) q ∙ nothing_words)

pub unknown_refused : UnknownRefused
unknown_refused =
    record {
      start = λ κs a x h e. ap counters_of h ∙ fresh_unknown (start_given κs a) e;
      list = list_strange;
      deliver = deliver_strange;
      row = row_strange;
      read =
          λ κs a r x h e. (
            h.0 ∙ ap (λ (n : Option Edition). number_of (read_by n (read_message κs a)).answer) e,
            h.1 ∙ ap (λ (n : Option Edition). record_bytes (read_by n (read_message κs a)).found) e ∙ no_bytes,
          );
      write =
          λ κs a r x h e. (
            h.0 ∙ ap (λ (n : Option Edition). number_of (write_answer_by n (record_of (write_given κs a)) (write_from κs a))) e,
            h.1.0 ∙ ap (λ (n : Option Edition). write_out_by n (record_of (write_given κs a)) (write_from κs a)) e,
          );
    }

-- ---- the edition of a book

-- the edition's word, as it is held
abbrev pub edition_in : Held → ℕ
edition_in h = get_or h.words edition_at 0

-- after a listing or a delivery, refused or not, it is what it was; a row's reading is lent the words to be read
pub record EditionStays : Type 1 where
  pub list : (κs : ListLfts) (a : ListArgs κs) (r : ℕ) (x : ListExit κs) → list-reads.Learnt κs a r x
      → edition_in (list_left κs a x) ≡ edition_in (list_from κs a)
  pub deliver : (κs : DeliverLfts) (a : DeliverArgs κs) (r : ℕ) (x : DeliverExit κs) → deliver-reads.Learnt κs a r x
      → edition_in (deliver_left κs x) ≡ edition_in (deliver_from κs a)

-- the edition's word of a book's words is the number of its edition
word_is : (c : Counters) → get_or (counter_words c) edition_at 0 ≡ edition_number c.start.edition
unfolding counter_words
word_is c = refl

-- a call that leaves what the book was started with
stays : (call : State → Outcome) → ((s : State) → (call s).state.counters.start ≡ s.counters.start) → (h : Held) (r : ℕ) (left : Held)
    → crossed r left ≡ called_on (counters_of h.words) call h → edition_in left ≡ edition_in h
stays call keeps h r left q = go (counters_of h.words) refl
  where
    go : (m : Option Counters) → counters_of h.words ≡ m → edition_in left ≡ edition_in h
    go (Some c) e =
        let n = q ∙ ap (λ (m : Option Counters). called_on m call h) e in
        ap (λ (y : Crossed). edition_in y.left) n
        ∙ word_is _
        ∙ ap (λ (t : Start). edition_number t.edition) (keeps _)
        ∙ edition_word h.words c e
    go None e = ap (λ (y : Crossed). edition_in y.left) (q ∙ ap (λ (m : Option Counters). called_on m call h) e)

list_stays : (κs : ListLfts) (a : ListArgs κs) (r : ℕ) (x : ListExit κs) → list-reads.Learnt κs a r x
    → edition_in (list_left κs a x) ≡ edition_in (list_from κs a)
unfolding listed_from
list_stays κs a r x h =
    stays (λ s. listed s (list_given κs a)) (λ s. (Inside.edition_stays s).list (list_given κs a)) (list_from κs a) r (list_left κs a x) h.0

deliver_stays : (κs : DeliverLfts) (a : DeliverArgs κs) (r : ℕ) (x : DeliverExit κs) → deliver-reads.Learnt κs a r x
    → edition_in (deliver_left κs x) ≡ edition_in (deliver_from κs a)
unfolding delivered_from
deliver_stays κs a r x h =
    stays (λ s. delivered s (deliver_given κs a)) (λ s. (Inside.edition_stays s).deliver (deliver_given κs a)) (deliver_from κs a) r
    (deliver_left κs x) h.0

pub edition_stays : EditionStays
edition_stays = record { list = list_stays; deliver = deliver_stays }
