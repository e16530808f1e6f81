-- What the program prints, as real calls: the tape is read through piece by piece, and the whole wall is written into a space that is
-- long enough for it. However the tape is cut, the text is `wall_text` of its bytes.
-- Assumes nothing.
use Rattle.std.specs.Prelude.{Err, Ok, Result, ℕ}
use Prim.Native.Nat.{ℕ, zero, suc, ◌^◌, ◌≤◌, ◌<◌}
use mathlib.Core.Path.{◌≡◌, refl, ap, ap₂, sym, subst, ◌∙◌}
use mathlib.Core.List.{List, [], ◌∷◌, ◌++◌}
use native.Mathlib.Nat.{mod-eq_of_lt}
use native.Mathlib.Omega.{arith}
use lib.ListN.{length, take, drop}
use lib.Seq.{sets, take-append_seam}
use Rattle.octets.proofs.Laws.{sets_front}
use Rattle.lines.specs.Lines.{line_limit}
use Rattle.rows.specs.Rows.{row_limit}
use Rattle.rows.proofs.Slabs.{used_rows_length}
use Rattle.editions.specs.declared.Edition.TheVariants.{NlsPlus}
use Rattle.counters.specs.Counting.{last_number, fresh_counters}
use Rattle.book.specs.State.{State, with_counters}
use Rattle.tape.specs.declared.Stop.TheVariants.{Ended, NoKind}
use Rattle.tape.specs.Playing.{acted, Play, played}
use Rattle.tape.proofs.Pieces.{used_within, no_kind_ends}
use Rattle.feed.specs.Reading.{Standing}
use Rattle.feed.proofs.Through.{ReadSo, read_so, bytes_read}
use Rattle.page.specs.Page.{ending_at, wall_of, wall_after, wall_text}
use Rattle.page.specs.Printable.{wall_longest}
use Rattle.page.proofs.WallLongest.{wall_longest_lem}
use Rattle.page.proofs.Promise.{WriteLfts, WriteArgs, WriteExit, write_from, write_ending, write_space, write_left}
use Rattle.page.proofs.write.Reads as write-reads
use Rattle.octets.specs.Run.{Bytes}
use Rattle.tape.specs.Entries.{Entry, head_of, entry_of, tape_of, Tape, end_of}
use Rattle.tape.proofs.Plays.{play_stops, play_whole, shorter}
use Rattle.clerk.specs.States.{arrivals_in, listings_in}
use Rattle.clerk.specs.Clerk.{clerk_sheet}
use Rattle.clerk.specs.Arrivals.{Largest, numbers, Copies, upto}
use Rattle.taped.specs.ClerksWall.{clerk_wall, asked_in}
use Rattle.taped.specs.Said.{wall_said}
use Rattle.taped.proofs.TapeDay.{acted_long, tape_day}
use Rattle.taped.proofs.WallSaid.{wall_said_lem}
use Rattle.tape.specs.declared.Stop.{Stop}

-- the text that a call of `write` tells stands at the front of a space that is long enough
stands_whole : (text space left : List ℕ) (r : ℕ) → left ≡ sets space 0 text → r ≡ length text → length text ≤ length space
    → take r left ≡ text
stands_whole text space left r e f h =
    ap₂ take f (e ∙ sets_front text space h) ∙ take-append_seam text (drop (length text) space)

-- a play leaves the room for rows as long as it was
played_for : (k : ℕ) (s : State) (b : List ℕ) → length b ≤ k → length (played s b).state.rows ≡ length s.rows
unfolding head_of
played_for zero s [] l = ap (λ (p : Play). length p.state.rows) (play_stops s [] Ended refl)
played_for zero s (x ∷ b) l = absurd (omega arith)
played_for (suc k) s b l = go (head_of b) refl (λ n e. played_for k (acted s (entry_of (take n b))) (drop n b) (shorter b n k e l))
  where
    go : (h : Result ℕ Stop) → head_of b ≡ h
        → ((n : ℕ) → head_of b ≡ Ok n
        → length (played (acted s (entry_of (take n b))) (drop n b)).state.rows ≡ length (acted s (entry_of (take n b))).rows)
        → length (played s b).state.rows ≡ length s.rows
    go (Err w) e r = ap (λ (p : Play). length p.state.rows) (play_stops s b w e)
    go (Ok n) e r = ap (λ (p : Play). length p.state.rows) (play_whole s b n e) ∙ r n e ∙ acted_long s (entry_of (take n b))

played_long : (s : State) (b : List ℕ) → length (played s b).state.rows ≡ length s.rows
played_long s b = played_for (length b) s b (omega arith)

-- a tape of fewer than 2 to the 64 bytes, read through
module _ {rooms : State} {tape : List ℕ} {s : Standing} (read : ReadSo rooms tape s) (short : length tape < 2 ^ 64) where
  abbrev fresh : State
  fresh = with_counters (fresh_counters NlsPlus) rooms

  at_is : s.at ≡ (played fresh tape).used
  at_is = (read_so read).at ∙ mod-eq_of_lt (omega (arith, used_within fresh tape))

  -- the wall of the state that it leaves, with the ending that `ended` tells
  pub read_through : wall_of s.state (ending_at s.stop s.at) ≡ wall_text rooms tape
  unfolding wall_text
  read_through =
      ap₂ wall_of (read_so read).state (ap₂ ending_at (read_so read).stop at_is)

  -- what was not read behind a byte that is no kind would change nothing
  pub unread_idle : s.stop ≡ NoKind → (more : List ℕ) → wall_text rooms (tape ++ more) ≡ wall_text rooms tape
  unfolding wall_text
  unread_idle e more = ap wall_after (no_kind_ends fresh tape more (sym (read_so read).stop ∙ e))

  -- the room for rows is as long as it was
  rows_then : length s.state.rows ≡ length rooms.rows
  rows_then = ap (λ (t : State). length t.rows) (read_so read).state ∙ played_long fresh tape

  -- and a call of `write`, of that state and that ending, in a space for the longest wall of the room's rows
  module _ (κs : WriteLfts) (a : WriteArgs κs) (r : ℕ) (x : WriteExit κs) (h : write-reads.Learnt κs a r x)
      (e : write_from κs a ≡ s.state) (f : write_ending κs a ≡ ending_at s.stop s.at)
      (room : wall_longest (row_limit (length rooms.rows)) ≤ length (write_space κs a)) where
    text : List ℕ
    text = wall_of (write_from κs a) (write_ending κs a)

    fits : length text ≤ length (write_space κs a)
    unfolding text
    fits =
        let rows = ap (λ (t : State). length t.rows) e ∙ rows_then in
        omega (
          arith,
          wall_longest_lem (write_from κs a) (write_ending κs a) h.1.1,
          used_rows_length (write_from κs a).rows (write_from κs a).counters.rows,
          ap row_limit rows,
          room,
        )

    pub wall_printed : take r (write_left κs a x) ≡ wall_text rooms tape
    unfolding text
    wall_printed =
        let count : r ≡ length text = omega (arith, h.1.0, fits) in
        stands_whole text (write_space κs a) (write_left κs a x) r h.0 count fits ∙ ap₂ wall_of e f ∙ read_through

    -- the rooms and the tape are bytes, by the types of these calls
    all_bytes : Bytes rooms.lines × Bytes tape
    all_bytes = bytes_read read (subst (λ (t : State). Bytes t.lines) e h.1.1.lines)

    -- so what is printed is the wall that document 01 says
    pub said_printed : (es : List Entry) (rest : List ℕ) → Tape tape es rest
        → take r (write_left κs a x) ≡ wall_said fresh es (ending_at (end_of rest) (length (tape_of es)))
    said_printed es rest t = wall_printed ∙ wall_said_lem rooms all_bytes.0 tape all_bytes.1 es rest t

    -- and of one true day it is the clerk's
    pub day_printed : (day : ℕ → List ℕ) (N n : ℕ) → N ≤ last_number → (es : List Entry) (rest : List ℕ) → Tape tape es rest
        → Copies day N (arrivals_in (asked_in es)) → Largest (numbers (arrivals_in (asked_in es))) n
        → take r (write_left κs a x)
        ≡ clerk_wall (clerk_sheet (row_limit (length rooms.rows)) (listings_in (asked_in es))) (line_limit (length rooms.lines))
        (upto day n)
        (ending_at (end_of rest) (length (tape_of es)))
    day_printed day N n fits es rest t copies largest =
        wall_printed ∙ tape_day day N n fits rooms all_bytes.0 tape all_bytes.1 es rest t copies largest

-- the program's rooms are 64 rows and 1,024 lines, and its space is that of the longest wall of 64 rows
pub the_space : (row_limit 1920 ≡ 64) × (line_limit 40960 ≡ 1024) × (wall_longest 64 ≡ 8484)
the_space = (refl, refl, refl)
