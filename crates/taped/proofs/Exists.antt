-- The runs of `begin` and `go_on` that `wall_printed` speaks of exist: whatever the room for lines and the tape hold, there are such calls.
-- They are made here from any pieces that together are the tape.
-- Assumes nothing.
use Prim.Native.Nat.{ℕ}
use mathlib.Core.Path.{refl, sym, subst}
use mathlib.Core.List.{List, [], ◌∷◌, ◌++◌, append-nil, append_assoc}
use lib.ListN.{length, take, drop, take-append-drop}
use lib.Seq.{take-length}
use Rattle.octets.specs.Run.{Bytes}
use Rattle.octets.proofs.Bytes.{none_bytes, append_bytes}
use Rattle.editions.specs.declared.Edition.TheVariants.{NlsPlus}
use Rattle.counters.specs.Counting.{fresh_counters}
use Rattle.book.specs.State.{State, with_counters}
use Rattle.book.proofs.Promise.{some_lfts, written}
use Rattle.tape.specs.Entries.{tape_of}
use Rattle.tape.specs.Playing.{Play, played, held, joined}
use Rattle.tape.proofs.Tapes.{bytes_behind, split, play_split}
use Rattle.feed.specs.declared.reading.Reading.{Reading}
use Rattle.feed.specs.Reading.{Standing, gone, nothing_read, GoneTyped}
use Rattle.feed.proofs.Promise.{GoLfts, GoArgs, GoExit}
use Rattle.feed.proofs.Through.{ReadSo, at_first, one_piece, read_so}
use Rattle.feed.specs.contracts.reading.go_on as go_on
use Rattle.taped.proofs.TapeDay.{asked_fits, bytes_before}
use Rattle.taped.proofs.WallSaid.{sheet_taken, fresh_steady}

-- each piece is bytes
abbrev pub PiecesOfBytes : List (List ℕ) → Type 0
PiecesOfBytes [] = Unit {0}
PiecesOfBytes (p ∷ ps) = Bytes p × PiecesOfBytes ps

abbrev go_at : GoLfts
go_at = some_lfts (go_on.signature).lifetimes

-- how a reading stands, as a call is handed it
abbrev reading : Standing → Reading
reading s = record { counters = s.state.counters; held = s.held; at = s.at; stop = s.stop }

abbrev go_with : Standing → List ℕ → ℕ → GoArgs go_at
go_with s piece n = (reading s, (written s.state.rows, (written s.state.lines, (written piece, (n, tt)))))

abbrev go_then : Standing → ℕ → GoExit go_at
go_then s n = (reading s, (written s.state.rows, (written s.state.lines, (written s.piece, (n, tt)))))

module _ (rooms : State) (bl : Bytes rooms.lines) where
  abbrev fresh : State
  fresh = with_counters (fresh_counters NlsPlus) rooms

  -- a tape of bytes leaves the room for lines bytes
  lines_then : (tape : List ℕ) → Bytes tape → Bytes (played fresh tape).state.lines
  lines_then tape b =
      let c = split tape b in
      let whole : Bytes (tape_of c.entries ++ c.rest) = subst Bytes c.whole.bytes b in
      let fit = asked_fits c.entries c.whole.each (bytes_before (tape_of c.entries) c.rest whole) in
      let end = (sheet_taken fresh c.entries fit (fresh_steady rooms bl)).1 in
      subst (λ (p : Play). Bytes p.state.lines) (sym (play_split fresh tape c.entries c.rest b c.whole)) end.bytes

  -- what is held of it is bytes
  left_bytes : (tape : List ℕ) → Bytes tape → Bytes (held fresh tape).left
  left_bytes tape b =
      let u = (played fresh tape).used in
      bytes_behind (take u tape) (drop u tape) (subst Bytes (sym (take-append-drop u tape)) b)

  go_on_there : (done : List ℕ) → Bytes done → (s : Standing) → ReadSo rooms done s → (ps : List (List ℕ)) → PiecesOfBytes ps
      → (end : Standing) × ReadSo rooms (done ++ joined ps) end
  go_on_there done b s t [] f = (s, subst (λ (x : List ℕ). ReadSo rooms x s) (sym (append-nil done)) t)
  go_on_there done b s t (p ∷ ps) f =
      let w = read_so t in
      let piece = take s.held s.piece ++ p in
      let g = gone s.at s.state (length piece) piece in
      let typed : GoneTyped s.state.lines piece
      = record {
        lines = subst (λ (y : State). Bytes y.lines) (sym w.state) (lines_then done b);
        piece = append_bytes (take s.held s.piece) p (subst Bytes (sym w.front) (left_bytes done b)) f.0;
      } in
      let next : ReadSo rooms (done ++ p) g
      = one_piece t go_at (go_with s piece (length piece)) (reading g) (go_then g (length piece)) p refl refl (take-length piece)
      (refl, typed) in
      let r = go_on_there (done ++ p) (append_bytes done p b f.0) g next ps f.1 in
      (r.0, subst (λ (x : List ℕ). ReadSo rooms x r.0) (append_assoc done p (joined ps)) r.1)

  pub read_there : (ps : List (List ℕ)) → PiecesOfBytes ps → (end : Standing) × ReadSo rooms (joined ps) end
  read_there ps f = go_on_there [] none_bytes _ (at_first nothing_read [] refl) ps f
