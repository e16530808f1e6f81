-- The clerk's book as a caller of another language holds it.
-- Assumes nothing.
use Rattle.std.specs.Prelude.{ℕ, ◌≡◌, List, [], ◌∷◌, Some}
use Rattle.editions.specs.Editions.{edition_number}
use Rattle.counters.specs.declared.Counters.{Counters}
use Rattle.book.specs.State.{lent}
use Rattle.words.specs.Words.{counters_of}
use Rattle.clerk.specs.Steps.{Book, book_of}
use Rattle.cabinet.specs.Crossing.{Held}

-- 0 wanted number, 1 phase, 2 rows used, 3 lines used, 4 messages taken, 5 the edition's number
abbrev pub book_words : Book → List ℕ
book_words b = b.wanted ∷ b.phase ∷ b.listed ∷ b.used ∷ b.taken ∷ edition_number b.edition ∷ []

-- the words are a book's, and with the rooms it comes to that one
pub record ComesTo (h : Held) (b : Book) : Type 0 where
  pub counters : Counters
  pub theirs : counters_of h.words ≡ Some counters
  pub reads : book_of (lent counters h.rows h.lines) ≡ b
