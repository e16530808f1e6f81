-- A tape played on a book: each entry does what the book's promises say, one after the other.
-- Assumes nothing.
use Rattle.std.specs.Prelude.{ℕ, zero, suc, ◌+◌, List, [], ◌∷◌, ◌++◌, length, take, drop, Err, Ok, Result}
use Rattle.book.specs.State.{State}
use Rattle.book.specs.Calls.{listed, delivered}
use Rattle.tape.specs.Entries.{Entry, Lists, Delivers, head_of, entry_of}
use Rattle.tape.specs.declared.Stop.{Stop}
use Rattle.tape.specs.declared.Stop.TheVariants.{Ended}
use Rattle.tape.specs.declared.Played.{Played}

-- ---- one entry

-- what an entry does; what the book answers is passed over
unfoldable pub acted : State → Entry → State
acted s (Lists l) = (listed s l).state
acted s (Delivers kind a) = (delivered s a).state

-- each entry in order
unfoldable pub acted_all : State → List Entry → State
acted_all s [] = s
acted_all s (e ∷ es) = acted_all (acted s e) es

-- ---- a play

-- what came of it: the state that is left, how many bytes were used, and why it stopped
pub record Play : Type 0 where
  pub state : State
  pub used : ℕ
  pub stop : Stop

-- what a call that told so, and left this state, comes to
abbrev pub came : Played → State → Play
came p s = record { state = s; used = p.used; stop = p.stop }

abbrev pub stopped : State → Stop → Play
stopped s w = record { state = s; used = 0; stop = w }

-- a play that came after n bytes
abbrev pub further : ℕ → Play → Play
further n p = record { state = p.state; used = n + p.used; stop = p.stop }

abbrev pub on_head {ℓ} : {A : Type ℓ} → Result ℕ Stop → (Stop → A) → (ℕ → A) → A
on_head (Err w) f g = f w
on_head (Ok n) f g = g n

-- at most that many entries; an entry has a byte or more, so that a list has no more of them than bytes
unfoldable pub play_some : ℕ → State → List ℕ → Play
play_some zero s b = stopped s Ended
play_some (suc k) s b = on_head (head_of b) (λ w. stopped s w) (λ n. further n (play_some k (acted s (entry_of (take n b))) (drop n b)))

-- what a call of `play` promises
unfoldable pub played : State → List ℕ → Play
played s b = play_some (length b) s b

-- ---- piece by piece

-- a play that goes on: what was played so far, and the bytes that it left over
pub record Holding : Type 0 where
  pub so : Play
  pub left : List ℕ

-- nothing played and nothing left over
abbrev pub begun : State → Holding
begun s = record { so = stopped s Ended; left = [] }

-- all of b played at once
abbrev pub held : State → List ℕ → Holding
held s b = record { so = played s b; left = drop (played s b).used b }

-- one piece more, played behind what was left over before it
unfoldable pub feed : Holding → List ℕ → Holding
feed h piece =
    record {
      so = further h.so.used (played h.so.state (h.left ++ piece));
      left = drop (played h.so.state (h.left ++ piece)).used (h.left ++ piece);
    }

unfoldable pub feed_all : Holding → List (List ℕ) → Holding
feed_all h [] = h
feed_all h (piece ∷ pieces) = feed_all (feed h piece) pieces

-- the pieces put together
abbrev pub joined : List (List ℕ) → List ℕ
joined [] = []
joined (piece ∷ pieces) = piece ++ joined pieces
