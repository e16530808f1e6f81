-- How counters and rows travel to and from a program of another language: which word is which.
-- Assumes nothing.
use Rattle.std.specs.Prelude.{ℕ, ◌-◌, List, [], ◌∷◌, cond, ℤ, pos, negsuc, length, get_or, set, None, Option, Some}
use Rattle.std.specs.Option.{unwrap_or}
use Rattle.numbers.specs.Number.{be}
use Rattle.editions.specs.declared.Edition.{Edition}
use Rattle.editions.specs.declared.Edition.TheVariants.{NlsPlus}
use Rattle.editions.specs.Editions.{edition_number, edition_named}
use Rattle.counters.specs.declared.Counters.{Counters}
use Rattle.counters.specs.Counting.{started_for, fresh_counters}
use Rattle.show.specs.declared.RowShown.{RowShown}

-- ---- counters

-- 0 wanted number, 1 phase, 2 rows used, 3 lines used, 4 messages taken, 5 the edition's number
unfoldable pub counter_words : Counters → List ℕ
counter_words c = c.wanted ∷ c.phase ∷ c.rows ∷ c.lines ∷ c.taken ∷ edition_number c.start.edition ∷ []

-- where the edition's number stands
abbrev pub edition_at : ℕ
edition_at = 5

-- the same words, read, in a book of that edition
abbrev pub counters_for : Edition → List ℕ → Counters
counters_for e w =
    record {
      start = started_for e;
      wanted = get_or w 0 0;
      phase = get_or w 1 0;
      rows = get_or w 2 0;
      lines = get_or w 3 0;
      taken = get_or w 4 0;
    }

abbrev pub meant_for : Option Edition → List ℕ → Option Counters
meant_for (Some e) w = Some (counters_for e w)
meant_for None w = None

-- what words are: the counters of a book of the edition that the last word names; no book's, if it names none
unfoldable pub counters_of : List ℕ → Option Counters
counters_of w = meant_for (edition_named (get_or w edition_at 0)) w

-- the words of a fresh book with a number in the edition's place
unfoldable pub fresh_words : ℕ → List ℕ
fresh_words n = set (counter_words (fresh_counters NlsPlus)) edition_at n

-- how many they are
abbrev pub counter_count : ℕ
counter_count = length (counter_words (fresh_counters NlsPlus))

-- ---- a row; a figure that may be absent is a mark, 1 where it is there, and the figure, 0 where it is not

abbrev pub figure_mark : {A : Type 0} → Option A → ℕ
figure_mark None = 0
figure_mark (Some x) = 1

abbrev pub figure_word : Option ℕ → ℕ
figure_word figure = unwrap_or figure 0

-- two's complement in 64 bits
abbrev pub signed_word : ℤ → ℕ
signed_word (pos n) = n
signed_word (negsuc n) = 18446744073709551615 - n

abbrev pub net_word : Option ℤ → ℕ
net_word None = 0
net_word (Some x) = signed_word x

-- 0 the symbol's eight bytes as one number, 1 close, 2 3 last, 4 5 high, 6 7 low, 8 9 net change, 10 volume, 11 count, 12 agrees,
-- 13 14 reported consolidated volume
unfoldable pub row_words : RowShown → List ℕ
row_words r =
    be r.symbol
    ∷ r.close
    ∷ figure_mark r.last
    ∷ figure_word r.last
    ∷ figure_mark r.high
    ∷ figure_word r.high
    ∷ figure_mark r.low
    ∷ figure_word r.low
    ∷ figure_mark r.net
    ∷ net_word r.net
    ∷ r.volume
    ∷ r.count
    ∷ cond r.agrees 1 0
    ∷ figure_mark r.reported
    ∷ figure_word r.reported
    ∷ []

-- how many they are
abbrev pub row_count : ℕ
row_count = 15
