-- The answer table by hand: the numbers about a wanted one, and for a trade, its cancel and its correction that were read the answers to
-- faults of their content, one at a time and two together. The figures are document 01's and come from no definition, so an order that is
-- wrong in the table is found here.
-- Assumes nothing.
use Prim.Native.Nat.{ℕ}
use mathlib.Core.Path.{◌≡◌, refl}
use mathlib.Core.List.{List, [], ◌∷◌, map}
use mathlib.Core.Bool.{Bool, true, false}
use lib.ListN.{replicate}
use Rattle.answers.specs.Answers.{answer_of}
use Rattle.answers.specs.Cases.{given}
use Rattle.kinds.specs.Kinds as Kinds
use Rattle.keys.specs.Keys as Keys
use Rattle.cells.specs.Search as Search
use Rattle.records.specs.declared.Sale.{Sale}
use Rattle.message.specs.Reader.{Reading}
use Rattle.lines.specs.declared.Line.{Line}
use Rattle.table.specs.Table.{Basis, searched, number_table, content_table}

-- ---- numbers, where 5 is wanted, and where the number after the last is

unfoldable pub numbered : ℕ → ℕ → ℕ
unfolding number_table
numbered wanted n = (given (number_table wanted n)).number

pub numbers : (map (numbered 5) (0 ∷ 1 ∷ 4 ∷ 5 ∷ 6 ∷ 4294967295 ∷ 4294967296 ∷ []) ≡ 1 ∷ 2 ∷ 2 ∷ 0 ∷ 3 ∷ 3 ∷ 1 ∷ [])
    × (map (numbered 4294967296) (0 ∷ 1 ∷ 4294967295 ∷ 4294967296 ∷ []) ≡ 1 ∷ 2 ∷ 2 ∷ 1 ∷ [])
unfolding numbered
numbers = (refl, refl)

-- ---- contents

abbrev symbol : ℕ → List ℕ
symbol x = x ∷ replicate 7 32

abbrev control : ℕ → List ℕ
control k = k ∷ replicate 9 32

abbrev plain : List ℕ
plain = 64 ∷ 32 ∷ 32 ∷ 32 ∷ []

abbrev sale : ℕ → ℕ → Sale
sale k price = record { control = control k; price = price; size = 4; condition = plain }

-- letter, symbol, what is named or reported, what is new; centre Q
abbrev message : ℕ → ℕ → Sale → Sale → Reading
message letter x s new =
    record {
      answer = answer_of 0;
      found =
          record {
            letter = letter;
            time = 1;
            event = 0;
            centre = 81;
            symbol = symbol x;
            class = 81;
            sale = s;
            new = new;
            high = 0;
            low = 0;
            close = 0;
            consolidated = 0;
          };
    }

abbrev line : ℕ → Bool → Line
line k live =
    record {
      key = 81 ∷ control k;
      symbol = symbol 65;
      price = 3;
      size = 4;
      condition = plain;
      place = 2;
      time = 1;
      live = live;
    }

-- the symbol A is listed, line 1 lives and line 2 is dead; the phase, and how many lines there may be
abbrev basis : ℕ → ℕ → Basis
basis phase limit =
    record {
      phase = phase;
      sheet = record { symbol = symbol 65; close = 0 } ∷ [];
      ledger = searched (line 49 true ∷ line 50 false ∷ []) limit;
    }

unfoldable pub answered : ℕ → ℕ → Reading → ℕ
unfolding content_table Kinds.kind_of Keys.matches Search.first
answered phase limit q = (given (content_table (basis phase limit) q)).number

abbrev t : ℕ → ℕ → Reading
t x k = message 84 x (sale k 3) (sale 0 0)

abbrev x : ℕ → ℕ → ℕ → Reading
x y k price = message 88 y (sale k price) (sale 0 0)

abbrev c : ℕ → ℕ → ℕ → Reading
c k price new = message 67 65 (sale k price) (sale new 3)

-- T: done, 6 before any event, 7, 11, 12, and 11 before 12
pub trades : (answered 1 3 (t 65 51) ≡ 0) × (answered 0 3 (t 65 51) ≡ 6) × (answered 1 3 (t 66 51) ≡ 7) × (answered 1 3 (t 65 50) ≡ 11)
    × (answered 1 2 (t 65 51) ≡ 12) × (answered 1 2 (t 65 49) ≡ 11)
unfolding answered
trades = (refl, refl, refl, refl, refl, refl)

-- X: done where every line is used too, 6 after event C, 7, 8, 9, 10, and 9 before 10
pub cancels : (answered 1 2 (x 65 49 3) ≡ 0) × (answered 6 2 (x 65 49 3) ≡ 6) × (answered 1 2 (x 66 49 3) ≡ 7)
    × (answered 1 2 (x 65 51 3) ≡ 8) × (answered 1 2 (x 65 50 3) ≡ 9) × (answered 1 2 (x 65 49 5) ≡ 10) × (answered 1 2 (x 65 50 5) ≡ 9)
unfolding answered
cancels = (refl, refl, refl, refl, refl, refl, refl)

-- C: done, 8, 9, 10 before 11, 11 for its own old key and for a dead one, 12
pub corrections : (answered 1 3 (c 49 3 51) ≡ 0) × (answered 1 3 (c 51 3 49) ≡ 8) × (answered 1 3 (c 50 5 51) ≡ 9)
    × (answered 1 3 (c 49 5 49) ≡ 10) × (answered 1 3 (c 49 3 49) ≡ 11) × (answered 1 3 (c 49 3 50) ≡ 11) × (answered 1 2 (c 49 3 51) ≡ 12)
unfolding answered
corrections = (refl, refl, refl, refl, refl, refl, refl)
