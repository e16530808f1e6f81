-- How a play went, as the digit that a script is told: 1 if the tape could not be read to its end or the wall could not be written;
-- otherwise 3 if the tape stops, and 0 if it was played to its end. And what a person is told of that.
-- Assumes nothing.
use Rattle.std.specs.Prelude.{ℕ, Bool, true, false, List, [], ◌++◌, ◌∷◌, codes}
use Rattle.tape.specs.declared.Stop.{Stop}
use Rattle.tape.specs.declared.Stop.TheVariants.{Ended, NoKind, CutShort}
use Rattle.wall.specs.declared.input.Rest.{Rest}
use Rattle.wall.specs.declared.input.Rest.TheVariants.{Open, Closed, Unread}

-- the digits as bytes
abbrev pub played : ℕ
played = 48

abbrev pub failed : ℕ
failed = 49

abbrev pub stops : ℕ
stops = 51

abbrev pub tape_status : Stop → ℕ
tape_status Ended = played
tape_status NoKind = stops
tape_status CutShort = stops

abbrev pub read_status : Rest → Stop → ℕ
read_status Open w = failed
read_status Unread w = failed
read_status Closed w = tape_status w

abbrev pub status_of : Rest → Stop → Bool → ℕ
status_of rest w false = failed
status_of rest w true = read_status rest w

-- ---- the line on standard error, if there is one

abbrev pub unwritten : Bool → List ℕ
unwritten true = []
unwritten false = codes "wall: the wall could not be written" ++ (10 ∷ [])

abbrev pub unread : List ℕ
unread = codes "wall: the tape could not be read to its end: no wall is printed" ++ (10 ∷ [])

-- of a tape that could not be read to its end, that no wall is printed; of any other, that its wall could not be written, and nothing if
-- it was
abbrev pub complaint : Rest → Bool → List ℕ
complaint Open written = unread
complaint Unread written = unread
complaint Closed written = unwritten written
