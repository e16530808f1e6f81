-- A row's fifteen words and the counters' six by hand. The figures are document 01's, or our papers' where it leaves them open, and come
-- from no definition, so a word that is wrong in the code and in its definition alike is found here.
-- Assumes nothing.
use Rattle.std.specs.Prelude.{None, Option, Some, ℕ, ℤ}
use Prim.Native.Nat.{ℕ}
use mathlib.Core.Path.{◌≡◌, refl}
use mathlib.Core.List.{List, [], ◌∷◌}
use mathlib.Core.Bool.{Bool, true, false}
use lib.IntN.{pos, negsuc}
use lib.ListN.{replicate}
use Rattle.numbers.specs.Number as Number
use Rattle.show.specs.declared.RowShown.{RowShown}
use Rattle.editions.specs.declared.Edition.{Edition}
use Rattle.editions.specs.declared.Edition.TheVariants.{NlsPlus, Pls}
use Rattle.editions.specs.Editions.{edition_named}
use Rattle.counters.specs.declared.Counters.{Counters}
use Rattle.counters.specs.Counting.{started_for}
use Rattle.words.specs.Words.{counter_words, counters_of, fresh_words, row_words}

-- symbol, close, last, high, low, net, volume, count, agrees, reported
abbrev row : List ℕ → ℕ → Option ℕ → Option ℕ → Option ℕ → Option ℤ → ℕ → ℕ → Bool → Option ℕ → RowShown
row symbol close last high low net volume count agrees reported =
    record {
      symbol = symbol;
      close = close;
      last = last;
      high = high;
      low = low;
      net = net;
      volume = volume;
      count = count;
      agrees = agrees;
      reported = reported;
    }

abbrev abcd : List ℕ
abcd = 65 ∷ 66 ∷ 67 ∷ 68 ∷ replicate 4 32

-- the day W, whole; the day W after number 3, its trades reporting 0; last 1 and close 2,000,000,000, in a row that agrees: the net is
-- -1,999,999,999, and its word is 2 to the 64 less 1,999,999,999; a row of zeros and absent figures
pub row_words_lem : (row_words (row abcd 250000 (Some 252500) (Some 252500) (Some 252500) (Some (pos 2500)) 170 2 false (Some 600))
    ≡ 4702394920804032544 ∷ 250000 ∷ 1 ∷ 252500 ∷ 1 ∷ 252500 ∷ 1 ∷ 252500 ∷ 1 ∷ 2500 ∷ 170 ∷ 2 ∷ 0 ∷ 1 ∷ 600 ∷ [])
    × (row_words (row abcd 250000 (Some 260000) (Some 260000) (Some 251000) (Some (pos 10000)) 400 2 false (Some 0))
    ≡ 4702394920804032544 ∷ 250000 ∷ 1 ∷ 260000 ∷ 1 ∷ 260000 ∷ 1 ∷ 251000 ∷ 1 ∷ 10000 ∷ 400 ∷ 2 ∷ 0 ∷ 1 ∷ 0 ∷ [])
    × (row_words (row abcd 2000000000 (Some 1) (Some 3) (Some 1) (Some (negsuc 1999999998)) 5 2 true (Some 9))
    ≡ 4702394920804032544 ∷ 2000000000 ∷ 1 ∷ 1 ∷ 1 ∷ 3 ∷ 1 ∷ 1 ∷ 1 ∷ 18446744071709551617 ∷ 5 ∷ 2 ∷ 1 ∷ 1 ∷ 9 ∷ [])
    × (row_words (row (replicate 8 0) 0 None None None None 0 0 false None)
    ≡ 0 ∷ 0 ∷ 0 ∷ 0 ∷ 0 ∷ 0 ∷ 0 ∷ 0 ∷ 0 ∷ 0 ∷ 0 ∷ 0 ∷ 0 ∷ 0 ∷ 0 ∷ [])
unfolding Number.be row_words
row_words_lem = (refl, refl, refl, refl)

-- ---- the counters' six words by hand

abbrev counted : Edition → Counters
counted e = record { start = started_for e; wanted = 7; phase = 1; rows = 2; lines = 4; taken = 6 }

-- the day W's counters, in a book of either edition; what words are, and words that are no book's; what a start writes
pub counter_words_lem : (counter_words (counted NlsPlus) ≡ 7 ∷ 1 ∷ 2 ∷ 4 ∷ 6 ∷ 0 ∷ [])
    × (counter_words (counted Pls) ≡ 7 ∷ 1 ∷ 2 ∷ 4 ∷ 6 ∷ 1 ∷ [])
    × (counters_of (7 ∷ 1 ∷ 2 ∷ 4 ∷ 6 ∷ 1 ∷ []) ≡ Some (counted Pls))
    × (counters_of (7 ∷ 1 ∷ 2 ∷ 4 ∷ 6 ∷ 2 ∷ []) ≡ None)
    × (counters_of (7 ∷ 1 ∷ 2 ∷ 4 ∷ 6 ∷ 18446744073709551615 ∷ []) ≡ None)
    × (fresh_words 0 ≡ 1 ∷ 0 ∷ 0 ∷ 0 ∷ 0 ∷ 0 ∷ [])
    × (fresh_words 1 ≡ 1 ∷ 0 ∷ 0 ∷ 0 ∷ 0 ∷ 1 ∷ [])
    × (fresh_words 2 ≡ 1 ∷ 0 ∷ 0 ∷ 0 ∷ 0 ∷ 2 ∷ [])
unfolding edition_named counter_words counters_of fresh_words
counter_words_lem = (refl, refl, refl, refl, refl, refl, refl, refl)
