-- A tape read through, as real calls: `begin`, and then `go_on` for each piece, behind what the call before left over. However the tape is
-- cut, the reading stands where the play of all its bytes so far stands.
-- Assumes nothing.
use Rattle.std.proofs.Common.{◌≡◌, ℕ, List, [], ◌++◌, take, sym, refl, ap, ◌∙◌, subst}
use Rattle.octets.specs.Run.{Bytes}
use Rattle.octets.proofs.Bytes.{none_bytes, append_bytes}
use Rattle.editions.specs.declared.Edition.TheVariants.{NlsPlus}
use Rattle.counters.specs.Counting.{fresh_counters}
use Rattle.book.specs.State.{State, with_counters}
use Rattle.tape.specs.Playing.{Holding, begun, held, feed}
use Rattle.tape.proofs.Tapes.{bytes_behind, bytes_take}
use Rattle.tape.proofs.Pieces.{feed_one, begun_is}
use Rattle.feed.specs.declared.reading.Reading.{Reading}
use Rattle.feed.specs.Reading.{Standing, standing, gone, StandsAt}
use Rattle.feed.proofs.Pieces.{goes_on}
use Rattle.feed.proofs.Promise.{GoLfts, GoArgs, GoExit, go_from, go_count, go_left}
use Rattle.feed.proofs.reading.begin.Reads as begin-reads
use Rattle.feed.proofs.reading.go_on.Reads as go-on-reads

-- ---- the calls of a whole tape

-- the bytes read so far, and how the reading stands then
pub data ReadSo (rooms : State) : List ℕ → Standing → Type 1 where
  at_first : (r : Reading) (piece : List ℕ) → begin-reads.Learnt tt tt r tt
      → ReadSo rooms [] (standing r (with_counters r.counters rooms) piece)
  -- the call gets the state and the offset that the call before left, and a piece: the bytes to play are those that it left over, and
  -- new ones behind them
  one_piece : {tape : List ℕ} {s : Standing} → ReadSo rooms tape s
      → (κs : GoLfts) (a : GoArgs κs) (r : Reading) (x : GoExit κs) (new : List ℕ)
      → (go_from κs a).state ≡ s.state → (go_from κs a).at ≡ s.at
      → take (go_count κs a) (go_from κs a).piece ≡ take s.held s.piece ++ new
      → go-on-reads.Learnt κs a r x → ReadSo rooms (tape ++ new) (go_left κs a r x)

stands_with : {h h' : Holding} {s s' : Standing} → h ≡ h' → s ≡ s' → StandsAt h s → StandsAt h' s'
stands_with {h} {h'} {s} {s'} e f w = subst (λ (x : Standing). StandsAt h' x) f (subst (λ (x : Holding). StandsAt x s) e w)

pub read_so : {rooms : State} {tape : List ℕ} {s : Standing} → ReadSo rooms tape s
    → StandsAt (held (with_counters (fresh_counters NlsPlus) rooms) tape) s
read_so {rooms} (at_first r piece h) =
    stands_with (begun_is (with_counters (fresh_counters NlsPlus) rooms))
    (ap (λ (x : Reading). standing x (with_counters x.counters rooms) piece) (sym h))
    (record { state = refl; held = refl; at = refl; stop = refl; front = refl })
read_so {rooms} (one_piece {tape} {s} t κs a r x new e f g h) =
    let fresh = with_counters (fresh_counters NlsPlus) rooms in
    let w = read_so t in
    let q = goes_on (held fresh tape) new (go_from κs a).at (go_count κs a) (go_from κs a).piece
    (g ∙ ap (λ (l : List ℕ). l ++ new) w.front) (f ∙ w.at) in
    stands_with (feed_one fresh tape new)
    (ap (λ (y : State). gone (go_from κs a).at y (go_count κs a) (go_from κs a).piece) (sym w.state ∙ sym e) ∙ sym h.0) q

-- the room for lines was bytes at first and the tape is bytes, by the types of the calls; where there was none, by those of the next
pub bytes_read : {rooms : State} {tape : List ℕ} {s : Standing} → ReadSo rooms tape s → Bytes s.state.lines
    → Bytes rooms.lines × Bytes tape
bytes_read (at_first r piece h) b = (b, none_bytes)
bytes_read (one_piece {tape} {s} t κs a r x new e f g h) b =
    let rest = bytes_read t (subst (λ (y : State). Bytes y.lines) e h.1.lines) in
    let played = subst Bytes g (bytes_take (go_from κs a).piece (go_count κs a) h.1.piece) in
    (rest.0, append_bytes tape new rest.1 (bytes_behind (take s.held s.piece) new played))
