-- A piece of a tape: its first n bytes are played, and what they leave over is moved to its front.
-- Assumes nothing.
use Rattle.std.specs.Prelude.{ℕ, List, length, take, drop}
use Rattle.std.proofs.lemmas.List.Edits.{sets}
use Rattle.book.specs.State.{State}
use Rattle.tape.specs.Playing.{Play, played}
use Rattle.feed.specs.declared.Fed.{Fed}

-- the bytes that the play leaves over
abbrev pub left_over : State → List ℕ → List ℕ
left_over s b = drop (played s b).used b

-- what came of a piece: its play, how many bytes are held at its front, and the piece as it is left
pub record Feeding : Type 0 where
  pub play : Play
  pub held : ℕ
  pub piece : List ℕ

-- what a call that told so, and left this state and this piece, comes to
abbrev pub came_of : Fed → State → List ℕ → Feeding
came_of f s piece = record { play = record { state = s; used = f.used; stop = f.stop }; held = f.held; piece = piece }

unfoldable pub fed : State → ℕ → List ℕ → Feeding
fed s n piece =
    let left = left_over s (take n piece) in
    record { play = played s (take n piece); held = length left; piece = sets piece 0 left }
