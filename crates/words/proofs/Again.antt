-- There and back: counters from their words, words from their counters; which words are no book's.
-- Assumes nothing.
use Rattle.std.specs.Prelude.{None, Option, Some}
use Prim.Native.Nat.{ℕ}
use mathlib.Core.Path.{◌≡◌, refl, ap, sym, ◌∙◌}
use mathlib.Core.List.{List}
use lib.ListN.{length, get_or}
use Rattle.octets.specs.Run.{tab, part}
use Rattle.octets.proofs.Trips.{whole}
use Rattle.editions.specs.declared.Edition.{Edition}
use Rattle.editions.specs.declared.Edition.TheVariants.{NlsPlus, Pls}
use Rattle.editions.specs.Editions.{edition_number, edition_named}
use Rattle.editions.proofs.Promise.{edition_again, number_again}
use Rattle.counters.specs.declared.Counters.{Counters}
use Rattle.counters.specs.Counting.{fresh_counters}
use Rattle.words.specs.Words.{counter_count, counter_words, edition_at, meant_for, counters_of, fresh_words}

-- the words of counters are that book's
pub counters_again : (c : Counters) → counters_of (counter_words c) ≡ Some c
unfolding counter_words counters_of
counters_again c = ap (λ (n : Option Edition). meant_for n (counter_words c)) (edition_again c.start.edition)

-- ---- words and what they are

abbrev words_or : Option Counters → List ℕ → List ℕ
words_or (Some c) w = counter_words c
words_or None w = w

-- the words of the counters read are the list's own, one by one; as many as it has, they are the list
own : (w : List ℕ) → length w ≡ counter_count → (n : Option Edition) → edition_named (get_or w edition_at 0) ≡ n → words_or (meant_for n w) w ≡ w
unfolding counter_words part tab
own w e (Some d) h =
    rw (number_again (get_or w edition_at 0) d h) (whole w counter_count e)
own w e None h = refl

pub words_again : (w : List ℕ) → length w ≡ counter_count → (c : Counters) → counters_of w ≡ Some c → counter_words c ≡ w
unfolding counters_of
words_again w e c h = ap (λ (m : Option Counters). words_or m w) (sym h) ∙ own w e (edition_named (get_or w edition_at 0)) refl

-- the last word of a book's is its edition's number
abbrev edition_or : Option Counters → ℕ → ℕ
edition_or (Some c) n = edition_number c.start.edition
edition_or None n = n

named : (w : List ℕ) (n : Option Edition) → edition_named (get_or w edition_at 0) ≡ n
    → edition_or (meant_for n w) (get_or w edition_at 0) ≡ get_or w edition_at 0
named w (Some d) h = number_again (get_or w edition_at 0) d h
named w None h = refl

pub edition_word : (w : List ℕ) (c : Counters) → counters_of w ≡ Some c → edition_number c.start.edition ≡ get_or w edition_at 0
unfolding counters_of
edition_word w c h =
    ap (λ (m : Option Counters). edition_or m (get_or w edition_at 0)) (sym h) ∙ named w (edition_named (get_or w edition_at 0)) refl

-- words whose last is no edition's number are no book's
pub no_book : (w : List ℕ) → edition_named (get_or w edition_at 0) ≡ None → counters_of w ≡ None
unfolding counters_of
no_book w h = ap (λ (n : Option Edition). meant_for n w) h

-- ---- a start's words

-- are those of a fresh book of the edition
pub fresh_known : (e : Edition) → fresh_words (edition_number e) ≡ counter_words (fresh_counters e)
unfolding fresh_words counter_words
fresh_known NlsPlus = refl
fresh_known Pls = refl

-- and no book's, if the number is no edition's
pub fresh_unknown : (n : ℕ) → edition_named n ≡ None → counters_of (fresh_words n) ≡ None
unfolding fresh_words counter_words
fresh_unknown n h = no_book (fresh_words n) h
