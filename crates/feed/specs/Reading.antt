-- A tape that is being read: how the reading stands after some of its bytes.
-- Assumes nothing.
use Rattle.std.specs.Prelude.{◌≡◌, ℕ, ◌+◌, ◌%◌, ◌^◌, List, length, take}
use Rattle.octets.specs.Run.{Bytes}
use Rattle.editions.specs.declared.Edition.TheVariants.{NlsPlus}
use Rattle.counters.specs.Counting.{fresh_counters}
use Rattle.book.specs.State.{State}
use Rattle.tape.specs.declared.Stop.{Stop}
use Rattle.tape.specs.declared.Stop.TheVariants.{Ended}
use Rattle.tape.specs.Playing.{Holding}
use Rattle.feed.specs.declared.reading.Reading.{Reading}
use Rattle.feed.specs.Feeding.{fed}

-- an offset, as a number of 64 bits has it
abbrev pub wrapped : ℕ → ℕ
wrapped n = n % 2 ^ 64

-- a fresh book, nothing held, at the tape's first byte
abbrev pub nothing_read : Reading
nothing_read = record { counters = fresh_counters NlsPlus; held = 0; at = 0; stop = Ended }

-- how a reading stands: the state, how many bytes are held at the front of the piece, the offset of the first byte that is not played,
-- why the play stands there, and the piece
pub record Standing : Type 0 where
  pub state : State
  pub held : ℕ
  pub at : ℕ
  pub stop : Stop
  pub piece : List ℕ

-- what a call that told so, and left this state and this piece, comes to
abbrev pub standing : Reading → State → List ℕ → Standing
standing r s piece = record { state = s; held = r.held; at = r.at; stop = r.stop; piece = piece }

-- the first n bytes of a piece played, from an offset on
unfoldable pub gone : ℕ → State → ℕ → List ℕ → Standing
gone at s n piece =
    let f = fed s n piece in
    record {
      state = f.play.state;
      held = f.held;
      at = wrapped (at + f.play.used);
      stop = f.play.stop;
      piece = f.piece;
    }

-- how the reading stands where so much was played and left over
pub record StandsAt (h : Holding) (s : Standing) : Type 0 where
  pub state : s.state ≡ h.so.state
  pub held : s.held ≡ length h.left
  pub at : s.at ≡ wrapped h.so.used
  pub stop : s.stop ≡ h.so.stop
  pub front : take s.held s.piece ≡ h.left

-- what the types say of what a call of `go_on` is lent: the room for lines and the piece are bytes
pub record GoneTyped (room bytes : List ℕ) : Type 0 where
  pub lines : Bytes room
  pub piece : Bytes bytes
