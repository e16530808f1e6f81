-- What crosses to a program of another language and back: the counters as words, the rooms as they stand, the answer as a number, an
-- edition as its number. A number that is no edition's may arrive; what a call then says and leaves is said here once.
-- Assumes nothing.
use Rattle.std.specs.Prelude.{ℕ, ◌≡◌, true, List, length, None, Option, Some}
use Rattle.octets.specs.Run.{Bytes}
use Rattle.answers.specs.Answers.{Answer, answer_of}
use Rattle.editions.specs.Editions.{edition_named}
use Rattle.records.specs.declared.Record.{Record}
use Rattle.message.specs.Reader.{Reading, read_of, refused_of}
use Rattle.message.specs.Writer.{write_answer, write_out}
use Rattle.counters.specs.declared.Counters.{Counters}
use Rattle.rows.specs.declared.Listing.{Listing}
use Rattle.rows.specs.Changed.{ListingFits}
use Rattle.show.specs.Showing.{nothing_shown}
use Rattle.book.specs.State.{State, lent, Outcome, Arrival, sound_in}
use Rattle.book.specs.Calls.{Shown, listed, delivered, shown}
use Rattle.words.specs.Words.{counter_count, counter_words, counters_of}
use Rattle.editions.specs.declared.Edition.{Edition}

-- what a caller holds between calls: the words of the counters, and the rooms
pub record Held : Type 0 where
  pub words : List ℕ
  pub rows : List ℕ
  pub lines : List ℕ

abbrev pub holding : List ℕ → List ℕ → List ℕ → Held
holding words rows lines = record { words = words; rows = rows; lines = lines }

-- what he holds of a book
abbrev pub held_of : State → Held
held_of s = holding (counter_words s.counters) s.rows s.lines

-- a symbol and a close, as a call is given them
abbrev pub listing_with : List ℕ → ℕ → Listing
listing_with symbol close = record { symbol = symbol; close = close }

-- ---- the calls on a book

-- what a call hands back: the answer's number, and what the caller then holds
pub record Crossed : Type 0 where
  pub answer : ℕ
  pub left : Held

abbrev pub crossed : ℕ → Held → Crossed
crossed answer left = record { answer = answer; left = left }

-- an outcome, as it crosses
abbrev pub crossing : Outcome → Crossed
crossing o = crossed o.answer (held_of o.state)

-- a call on the book that words are, in the rooms that come with them; words that are no book's are answered 17, and nothing changes
abbrev pub called_on : Option Counters → (State → Outcome) → Held → Crossed
called_on (Some c) call h = crossing (call (lent c h.rows h.lines))
called_on None call h = crossed 17 h

unfoldable pub listed_from : Held → Listing → Crossed
listed_from h l = called_on (counters_of h.words) (λ s. listed s l) h

unfoldable pub delivered_from : Held → Arrival → Crossed
delivered_from h a = called_on (counters_of h.words) (λ s. delivered s a) h

-- a row's reading changes nothing; of words that are no book's it shows a row of zeros
abbrev pub shown_on : Option Counters → Held → List ℕ → Shown
shown_on (Some c) h symbol = shown (lent c h.rows h.lines) symbol
shown_on None h symbol = record { answer = answer_of 17; row = nothing_shown }

unfoldable pub shown_from : Held → List ℕ → Shown
shown_from h symbol = shown_on (counters_of h.words) h symbol

-- the words are a book's, and with the rooms it is sound
pub record SoundBook (h : Held) : Type 0 where
  pub counters : Counters
  pub theirs : counters_of h.words ≡ Some counters
  pub sound : sound_in (lent counters h.rows h.lines) ≡ true

-- ---- a message alone, by the edition that a number names; by none, reading is refused with 4 and writing with 5

abbrev pub read_by : Option Edition → List ℕ → Reading
read_by (Some e) m = read_of e m
read_by None m = refused_of 4

abbrev pub write_answer_by : Option Edition → Record → List ℕ → Answer
write_answer_by (Some e) r out = write_answer e r out
write_answer_by None r out = answer_of 5

abbrev pub write_out_by : Option Edition → Record → List ℕ → List ℕ
write_out_by (Some e) r out = write_out e r out
write_out_by None r out = out

-- ---- what the types of a call's parameters say of what comes in

-- of a listing: the counters are as many words as they have, the symbol is eight bytes and the close fits four
pub record ListTyped (words : List ℕ) (l : Listing) : Type 0 where
  pub count : length words ≡ counter_count
  pub fits : ListingFits l

-- of a delivery: the same of the counters; the lent lines and the message are bytes
pub record DeliverTyped (words lines message : List ℕ) : Type 0 where
  pub count : length words ≡ counter_count
  pub lent : Bytes lines
  pub brought : Bytes message
