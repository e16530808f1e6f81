-- A tape that is read: what the reader gave is played, however it was cut into pieces.
-- Assumes nothing.
use Rattle.std.specs.Prelude.{◌≡◌, ℕ, ◌<◌, ◌≤◌, ◌^◌, List, ◌++◌, length, Option, Bool, true, false}
use Rattle.std.specs.Io.KnownBytes.{Appends, Consumes, IsAtEnd}
use Rattle.book.specs.State.{State}
use Rattle.tape.specs.declared.Stop.{Stop}
use Rattle.tape.specs.declared.Stop.TheVariants.{Ended, NoKind, CutShort}
use Rattle.tape.specs.Playing.{played, held}
use Rattle.feed.specs.Reading.{Standing, wrapped, StandsAt}
use Rattle.page.specs.Page.{wall_text}
use Rattle.wall.specs.declared.input.Rest.{Rest}
use Rattle.wall.specs.declared.input.Rest.TheVariants.{Open, Closed, Unread}
use Rattle.wall.specs.declared.input.Tape.{Tape}
use Rattle.wall.specs.declared.day.Day.{Day}
use Rattle.rows.specs.Rows.{row_limit}

abbrev pub is_open : Rest → Bool
is_open Open = true
is_open Closed = false
is_open Unread = false

-- where a byte is no kind, no more is read
abbrev pub rest_after : Stop → Rest
rest_after Ended = Open
rest_after CutShort = Open
rest_after NoKind = Closed

-- the play does not stand at a byte that is no kind: more bytes can change it
abbrev pub CanGoOn : Stop → Type 0
CanGoOn w = w ≡ NoKind → ⊥

-- closed: the tape is at its end, or stops at a byte that is no kind, and nothing behind that is played; open and unread: it may go on
abbrev pub RestSays : Rest → Stop → Option (List ℕ) → Type 0
RestSays Open w left = CanGoOn w
RestSays Closed w left = CanGoOn w → IsAtEnd left
RestSays Unread w left = CanGoOn w

-- a tape that was read so far: the reading stands where its play does
pub record ReadSoFar (s : State) (tape : List ℕ) (known : Rest) (now : Standing) (left : Option (List ℕ)) : Type 0 where
  pub stands : StandsAt (held s tape) now
  pub rest : RestSays known now.stop left

-- the reader, which had bytes `old` and has `new`, gave more of the tape
pub record ReadMore (s : State) (tape : List ℕ) (old new : Option (List ℕ)) (rest : Rest) (now : Standing) : Type 0 where
  pub more : List ℕ
  pub gave : Consumes old new more
  pub to : ReadSoFar s (tape ++ more) rest now new

-- all that the reader gave was played
pub record AllPlayed (s : State) (old new : Option (List ℕ)) (t : Tape) (now : State) : Type 0 where
  pub tape : List ℕ
  pub gave : Consumes old new tape
  pub state : now ≡ (played s tape).state
  pub at : t.reading.at ≡ wrapped (played s tape).used
  pub stop : t.reading.stop ≡ (played s tape).stop
  pub rest : RestSays t.rest t.reading.stop new

-- what a day says, against what the reader gave and what the writer has: all that was given was played, and the stop is that of its play;
-- a wall is written only of a tape that is closed, and nothing beside it; where the tape is not closed, nothing is written
pub record DayIs (s : State) (old new had has : Option (List ℕ)) (d : Day) : Type 0 where
  pub tape : List ℕ
  pub gave : Consumes old new tape
  pub stop : d.stop ≡ (played s tape).stop
  pub rest : RestSays d.rest d.stop new
  pub closed : d.written ≡ true → d.rest ≡ Closed
  pub wall : row_limit (length s.rows) ≤ 64 → d.written ≡ true → length tape < 2 ^ 64 → Appends had has (wall_text s tape)
  pub none : (d.rest ≡ Closed → ⊥) → has ≡ had
