-- Lines by hand: what a cell is read as, whatever its mark, which of the lines with a key is found, and how many lines a room has. The
-- figures are document 01's, or our papers' where it leaves them open, and come from no definition, so a mark that is read wrong in the
-- code and in its definition alike is found here.
-- Assumes nothing.
use Rattle.std.specs.Prelude.{None, Some}
use Prim.Native.Nat.{ℕ}
use mathlib.Core.Path.{◌≡◌, refl}
use mathlib.Core.List.{List, [], ◌∷◌, ◌++◌, map}
use mathlib.Core.Bool.{Bool, true, false}
use lib.ListN.{replicate}
use Rattle.octets.specs.Run as Run
use Rattle.numbers.specs.Number as Number
use Rattle.cells.specs.Search as Search
use Rattle.lines.specs.declared.Line.{Line}
use Rattle.lines.specs.Lines.{line_from, line_limit, line_with}

-- a centre, and a control of one byte
abbrev key : ℕ → ℕ → List ℕ
key centre control = centre ∷ control ∷ replicate 9 32

abbrev abcd : List ℕ
abcd = 65 ∷ 66 ∷ 67 ∷ 68 ∷ replicate 4 32

abbrev plain : List ℕ
plain = 64 ∷ 32 ∷ 32 ∷ 32 ∷ []

-- ---- a cell: the key Q 1, ABCD, price 258, size 3, the condition, place 2, time 513, the live mark

abbrev cell : ℕ → List ℕ
cell mark =
    key 81 49 ++ (abcd ++ (0 ∷ 0 ∷ 1 ∷ 2 ∷ 0 ∷ 0 ∷ 0 ∷ 3 ∷ (plain ++ (0 ∷ 0 ∷ 0 ∷ 2 ∷ 0 ∷ 0 ∷ 2 ∷ 1 ∷ mark ∷ []))))

abbrev line : List ℕ → Bool → Line
line k live =
    record { key = k; symbol = abcd; price = 258; size = 3; condition = plain; place = 2; time = 513; live = live }

-- 1 is live; any other mark is dead
pub marks : (line_from (cell 1) 0 ≡ line (key 81 49) true) × (line_from (cell 0) 0 ≡ line (key 81 49) false)
    × (line_from (cell 2) 0 ≡ line (key 81 49) false) × (line_from (cell 255) 0 ≡ line (key 81 49) false)
unfolding Run.tab Run.part Number.be line_from
marks = (refl, refl, refl, refl)

-- ---- the search

abbrev q1 : Line
q1 = line (key 81 49) true

abbrev l1 : Line
l1 = line (key 76 49) true

-- Q 1 alone; behind L 1, which has its control and another centre; dead, before a live one with the same key; not there
pub searches : (line_with (key 81 49) (q1 ∷ []) ≡ Some 0) × (line_with (key 81 49) (l1 ∷ q1 ∷ []) ≡ Some 1)
    × (line_with (key 81 49) (l1 ∷ line (key 81 49) false ∷ q1 ∷ []) ≡ Some 1) × (line_with (key 81 49) (l1 ∷ []) ≡ None)
unfolding Search.first
searches = (refl, refl, refl, refl)

-- ---- the room: forty bytes a line, at most 65,536 lines

pub limits : map line_limit (0 ∷ 39 ∷ 40 ∷ 79 ∷ 80 ∷ 2621439 ∷ 2621440 ∷ 2621480 ∷ []) ≡ 0 ∷ 0 ∷ 1 ∷ 1 ∷ 2 ∷ 65535 ∷ 65536 ∷ 65536 ∷ []
limits = refl
