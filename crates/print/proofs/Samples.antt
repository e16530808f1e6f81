-- The day W as document 01 prints it, and texts worked by hand, as one list.
-- Assumes nothing.
use Rattle.std.specs.Prelude.{None, Option, Some, ℕ, ℤ}
use mathlib.Core.Path.{◌≡◌, refl}
use mathlib.Core.Bool.{false}
use mathlib.Core.List.{List, [], ◌∷◌, ◌++◌}
use Prim.Native.Nat.{ℕ}
use Prim.Native.String.{String}
use lib.IntN.{pos, negsuc}
use Rattle.show.specs.declared.RowShown.{RowShown}
use Rattle.decimal.specs.Decimal.{digit_count, lowest, decimal}
use Rattle.decimal.specs.Letters.{letters}
use Rattle.decimal.specs.Amount.{amount_text}
use Rattle.print.specs.Texts.{header_text, row_text, closing_text, stop_text}

abbrev row_of : String → ℕ → Option ℕ → Option ℕ → Option ℕ → Option ℤ → ℕ → ℕ → Option ℕ → RowShown
row_of symbol close last high low net volume count reported =
    record {
      symbol = letters symbol;
      close = close;
      last = last;
      high = high;
      low = low;
      net = net;
      volume = volume;
      count = count;
      agrees = false;
      reported = reported;
    }

-- the texts of day W, of its row as typed by hand; the whole output, from the tape's bytes, is `w_whole` in trials
pub w_printed : header_text ++
    (row_text (row_of "ABCD    " 250000 (Some 252500) (Some 252500) (Some 252500) (Some (pos 2500)) 170 2 (Some 600)) ++ closing_text 6 7)
    ≡ letters "SYMBOL LAST HIGH LOW NET VOLUME TRADES CONSOL\nABCD 25.2500 25.2500 25.2500 +0.2500 170 2 600\nTAKEN 6 REFUSED 0 WANTED 7\n"
unfolding header_text row_text closing_text amount_text decimal lowest digit_count
w_printed = refl

-- ---- lines worked by hand

pub printed : List (List ℕ)
printed =
    -- absent everything, as a row that was just listed
    row_text (row_of "A       " 0 None None None None 0 0 None)
    -- a symbol that is a minus, the least price, the greatest price below one and one, net at zero, a reported volume of 0
    ∷ row_text (row_of "-       " 1 (Some 1) (Some 10000) (Some 9999) (Some (pos 0)) 7 1 (Some 0))
    -- a symbol of eight letters, the greatest price, net at its two ends
    ∷ row_text (row_of "ABCDEFGH" 1 (Some 2000000000) (Some 2000000000) (Some 1) (Some (pos 1999999999)) 18446744073709551615 10 (Some 100))
    ∷ row_text (row_of "B+      " 2000000000 (Some 1) (Some 2000000000) (Some 1) (Some (negsuc 1999999998)) 99 100 (Some 1000000))
    -- one ten-thousandth below and above
    ∷ row_text (row_of "C.D     " 10001 (Some 10000) None None (Some (negsuc 0)) 1 1 None)
    ∷ row_text (row_of "C.D     " 9999 (Some 10000) None None (Some (pos 1)) 1 1 None)
    -- a space within is kept
    ∷ row_text (row_of "E F     " 0 (Some 100000) (Some 100000) (Some 99999) None 20 2 (Some 20))
    ∷ closing_text 0 1
    ∷ closing_text 9 20
    ∷ closing_text 3 2
    ∷ stop_text 0
    ∷ stop_text 1048576
    ∷ []

pub by_hand : List (List ℕ)
by_hand =
    letters "A - - - - 0 0 -\n"
    ∷ letters "- 0.0001 1.0000 0.9999 0.0000 7 1 0\n"
    ∷ letters "ABCDEFGH 200000.0000 200000.0000 0.0001 +199999.9999 18446744073709551615 10 100\n"
    ∷ letters "B+ 0.0001 200000.0000 0.0001 -199999.9999 99 100 1000000\n"
    ∷ letters "C.D 1.0000 - - -0.0001 1 1 -\n"
    ∷ letters "C.D 1.0000 - - +0.0001 1 1 -\n"
    ∷ letters "E F 10.0000 10.0000 9.9999 - 20 2 20\n"
    ∷ letters "TAKEN 0 REFUSED 0 WANTED 1\n"
    ∷ letters "TAKEN 9 REFUSED 10 WANTED 20\n"
    ∷ letters "TAKEN 3 REFUSED 0 WANTED 2\n"
    ∷ letters "TAPE STOPS AT 0\n"
    ∷ letters "TAPE STOPS AT 1048576\n"
    ∷ []

pub samples : printed ≡ by_hand
unfolding printed by_hand row_text closing_text stop_text amount_text decimal lowest digit_count
samples = refl
