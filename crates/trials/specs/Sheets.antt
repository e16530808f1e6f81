-- Listings to try by hand, as one table: what is listed, what is said back, and which rows there are then; then some numbers arrive, each
-- with an empty message, and more is listed. The table is worked from the book's promises, in a room whose bytes are all 35 at first, and
-- from the clerk's sheet. The figures are document 01's.
-- Assumes nothing.
use Rattle.std.specs.Prelude.{ℕ, ◌≡◌, List, [], ◌∷◌, ◌++◌, map, replicate}
use Rattle.rows.specs.Rows.{row_limit}
use Rattle.rows.specs.declared.Listing.{Listing}
use Rattle.editions.specs.declared.Edition.TheVariants.{NlsPlus}
use Rattle.counters.specs.Counting.{fresh_counters}
use Rattle.book.specs.State.{State, roomless, with_rows, sheet_of}
use Rattle.book.specs.Calls.{listed}
use Rattle.clerk.specs.Clerk.{clerk_sheet}
use Rattle.trials.specs.Days.{abcd, efgh, ijkl, spaces, day_of, both, listed_each, left_by, worked}

-- the bytes of the room; the listings as they come; what is said back to each; the rows then; the numbers that arrive then; the listings
-- after that; what is said back to each of those
pub record Sheet : Type 0 where
  pub room : ℕ
  pub early : List Listing
  pub said : List ℕ
  pub rows : List Listing
  pub numbers : List ℕ
  pub late : List Listing
  pub afterwards : List ℕ

abbrev pub lists : List ℕ → ℕ → Listing
lists symbol close = record { symbol = symbol; close = close }

-- one byte, then spaces
abbrev pub letter : ℕ → List ℕ
letter x = x ∷ spaces 7

-- ---- worked

unfoldable pub answers_listing : State → List Listing → List ℕ
answers_listing s [] = []
answers_listing s (l ∷ ls) = (listed s l).answer ∷ answers_listing (listed s l).state ls

-- a fresh book in a room of so many bytes, all 35 at first
abbrev pub fresh_in : ℕ → State
fresh_in room = with_rows (replicate room 35) (roomless (fresh_counters NlsPlus))

-- what is said back, first and afterwards, and the rows between, as worked from the book and as worked by the clerk
pub record Tally : Type 0 where
  pub said : List ℕ
  pub book : List Listing
  pub clerk : List Listing
  pub afterwards : List ℕ

-- a sheet as it is worked, and as the table has it
unfoldable pub tried : Sheet → Tally
unfolding worked answers_listing
tried c =
    let then = listed_each (fresh_in c.room) c.early in
    record {
      said = answers_listing (fresh_in c.room) c.early;
      book = sheet_of then;
      clerk = clerk_sheet (row_limit c.room) c.early;
      afterwards = answers_listing (left_by (day_of []) then c.numbers) c.late;
    }

abbrev pub due : Sheet → Tally
due c = record { said = c.said; book = c.rows; clerk = c.rows; afterwards = c.afterwards }

abbrev pub AsListed : List Sheet → Type 0
AsListed [] = Unit {0}
AsListed (c ∷ cs) = (tried c ≡ due c) × AsListed cs

-- ---- the table

unfoldable pub sheets : List Sheet
sheets =
    -- 13 by its symbol: of spaces, a space first, one in the middle, of byte 127, of byte 31, a byte 0, padded with zeros; and by its close
    record {
      room = 65;
      early =
          map (λ (symbol : List ℕ). lists symbol 1)
          (spaces 8 ∷ (32 ∷ 65 ∷ spaces 6) ∷ (65 ∷ 32 ∷ 66 ∷ spaces 5) ∷ letter 127 ∷ letter 31 ∷ (65 ∷ 0 ∷ spaces 6)
          ∷ (65 ∷ replicate 7 0) ∷ [])
          ++ map (lists abcd) (2000000001 ∷ 4294967295 ∷ []);
      said = replicate 9 13;
      rows = [];
      numbers = [];
      late = [];
      afterwards = [];
    }
    -- the lowest and the highest byte of a symbol, and a symbol of eight; the lowest and the highest close
    ∷ record {
      room = 95;
      early = lists (letter 33) 0 ∷ lists (letter 126) 2000000000 ∷ lists (replicate 8 65) 1 ∷ [];
      said = 0 ∷ 0 ∷ 0 ∷ [];
      rows = lists (letter 33) 0 ∷ lists (letter 126) 2000000000 ∷ lists (replicate 8 65) 1 ∷ [];
      numbers = [];
      late = [];
      afterwards = [];
    }
    -- a symbol listed already, with its close and with another; every row used; of two reasons the lower number
    ∷ record {
      room = 65;
      early =
          lists abcd 250000 ∷ lists abcd 250000 ∷ lists abcd 1 ∷ lists abcd 2000000001 ∷ lists efgh 100000 ∷ lists ijkl 1
          ∷ lists efgh 1 ∷ lists (spaces 8) 1 ∷ [];
      said = 0 ∷ 15 ∷ 15 ∷ 13 ∷ 0 ∷ 16 ∷ 15 ∷ 13 ∷ [];
      rows = both;
      numbers = [];
      late = [];
      afterwards = [];
    }
    -- no room, and a byte less than a row
    ∷ record {
      room = 0;
      early = lists abcd 250000 ∷ lists abcd 2000000001 ∷ [];
      said = 16 ∷ 13 ∷ [];
      rows = [];
      numbers = [];
      late = [];
      afterwards = [];
    }
    ∷ record {
      room = 29;
      early = lists abcd 250000 ∷ [];
      said = 16 ∷ [];
      rows = [];
      numbers = [];
      late = [];
      afterwards = [];
    }
    -- numbers that use up nothing: a listing is still in time
    ∷ record {
      room = 65;
      early = lists abcd 250000 ∷ [];
      said = 0 ∷ [];
      rows = lists abcd 250000 ∷ [];
      numbers = 0 ∷ 2 ∷ 4294967296 ∷ [];
      late = lists efgh 100000 ∷ lists ijkl 1 ∷ [];
      afterwards = 0 ∷ 16 ∷ [];
    }
    -- number 1 used up, by an empty message: 14, for a symbol listed already too; 13 goes before it
    ∷ record {
      room = 65;
      early = lists abcd 250000 ∷ [];
      said = 0 ∷ [];
      rows = lists abcd 250000 ∷ [];
      numbers = 1 ∷ [];
      late = lists efgh 100000 ∷ lists abcd 250000 ∷ lists (spaces 8) 1 ∷ lists efgh 2000000001 ∷ [];
      afterwards = 14 ∷ 14 ∷ 13 ∷ 13 ∷ [];
    }
    -- and where every row is used
    ∷ record {
      room = 65;
      early = both;
      said = 0 ∷ 0 ∷ [];
      rows = both;
      numbers = 1 ∷ 2 ∷ [];
      late = lists ijkl 1 ∷ [];
      afterwards = 14 ∷ [];
    }
    ∷ []
