-- Rows by hand: what cells are read as, whatever their marks, which of two equal rows is found, and how many rows a room has. The figures
-- are document 01's, or our papers' where it leaves them open, and come from no definition, so a mark that is read wrong in the code and in
-- its definition alike is found here.
-- Assumes nothing.
use Rattle.std.specs.Prelude.{None, Option, Some, ℕ}
use Prim.Native.Nat.{ℕ}
use mathlib.Core.Path.{◌≡◌, refl}
use mathlib.Core.List.{List, [], ◌∷◌, ◌++◌, map}
use lib.ListN.{replicate}
use Rattle.octets.specs.Run as Run
use Rattle.numbers.specs.Number as Number
use Rattle.cells.specs.Search as Search
use Rattle.rows.specs.declared.Listing.{Listing}
use Rattle.rows.specs.declared.Row.{Row}
use Rattle.rows.specs.Rows.{high_low}
use Rattle.rows.specs.Rows.{summary_at, reported_at, listing_from, row_from, row_limit, listing_of}
use Rattle.rows.specs.declared.HighLow.{HighLow}

abbrev abcd : List ℕ
abcd = 65 ∷ 66 ∷ 67 ∷ 68 ∷ replicate 4 32

-- ---- a cell: symbol, close 258, the mark of a J, its high 3 and low 2, the mark of a volume, the volume 5

abbrev cell : ℕ → ℕ → List ℕ
cell j reported = abcd ++ (0 ∷ 0 ∷ 1 ∷ 2 ∷ j ∷ 0 ∷ 0 ∷ 0 ∷ 3 ∷ 0 ∷ 0 ∷ 0 ∷ 2 ∷ reported ∷ replicate 7 0 ++ (5 ∷ []))

abbrev row : Option HighLow → Option ℕ → Row
row summary reported = record { listing = record { symbol = abcd; close = 258 }; summary = summary; reported = reported }

-- 1 is taken, or set; any other mark is absent
pub read : (row_from (cell 1 1) 0 ≡ row (Some (high_low 3 2)) (Some 5))
    × (row_from (cell 0 1) 0 ≡ row None (Some 5))
    × (row_from (cell 2 1) 0 ≡ row None (Some 5))
    × (row_from (cell 1 0) 0 ≡ row (Some (high_low 3 2)) None)
    × (row_from (cell 1 2) 0 ≡ row (Some (high_low 3 2)) None)
    × (row_from (cell 255 255) 0 ≡ row None None)
unfolding Run.tab Run.part Number.be summary_at reported_at listing_from row_from
read = (refl, refl, refl, refl, refl, refl)

-- ---- the search

abbrev of : ℕ → Listing
of close = record { symbol = abcd; close = close }

abbrev other : Listing
other = record { symbol = 69 ∷ replicate 7 32; close = 1 }

-- a row alone, behind another, before an equal one, not there
pub searches : (listing_of abcd (of 1 ∷ []) ≡ Some 0) × (listing_of abcd (other ∷ of 1 ∷ []) ≡ Some 1)
    × (listing_of abcd (other ∷ of 1 ∷ of 2 ∷ []) ≡ Some 1) × (listing_of abcd (other ∷ []) ≡ None)
unfolding Search.first
searches = (refl, refl, refl, refl)

-- ---- the room: thirty bytes a row, at most 256 rows

pub limits : map row_limit (0 ∷ 29 ∷ 30 ∷ 59 ∷ 60 ∷ 7679 ∷ 7680 ∷ 7710 ∷ []) ≡ 0 ∷ 0 ∷ 1 ∷ 1 ∷ 2 ∷ 255 ∷ 256 ∷ 256 ∷ []
limits = refl
