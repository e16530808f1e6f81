-- The whole output of day W: the three lines that document 01 prints, byte for byte, in the program's room, whatever that held before; and
-- of its tape with a byte more and with a byte less.
-- Assumes nothing.
use Rattle.std.specs.Prelude.{None, Option, Some, ℕ, Err, Ok}
use Prim.Native.Nat.{ℕ, zero, suc, ◌^◌, ◌≤◌, ◌<◌}
use mathlib.Core.Path.{◌≡◌, refl, ap, ap₂, sym, subst, ◌∙◌}
use mathlib.Core.Bool.{Bool, true, ◌&&◌, cond, and-eq-true_iff}
use mathlib.Core.List.{List, [], ◌∷◌, ◌++◌}
use borrow.Author.Tests.{ltb-true}
use lib.Dec.{eqb, leb, ltb, lit<, lit≤}
use lib.ListN.{length, take, get_or}
use Rattle.octets.specs.Run.{Bytes}
use Rattle.lines.specs.Lines.{line_limit}
use Rattle.rows.specs.Rows.{row_limit}
use Rattle.book.specs.State.{State}
use Rattle.tape.specs.Entries as Entries
use Rattle.octets.proofs.Bytes.{append_bytes}
use Rattle.tape.specs.Entries.{EntriesFit, body_length, tape_of}
use Rattle.tape.specs.declared.Stop.TheVariants.{NoKind, CutShort}
use Rattle.tape.proofs.Tapes.{whole_tape, cut_tape}
use Rattle.feed.specs.Reading.{Standing}
use Rattle.feed.proofs.Through.{ReadSo}
use Rattle.page.specs.Page.{ending_at, wall_text}
use Rattle.page.specs.Printable.{wall_longest}
use Rattle.page.proofs.Promise.{WriteLfts, WriteArgs, WriteExit, write_from, write_ending, write_space, write_left}
use Rattle.page.proofs.write.Reads as write-reads
use Rattle.clerk.specs.Clerk.{clerk_sheet}
use Rattle.clerk.specs.Arrivals.{Largest, numbers, Copies, upto}
use Rattle.clerk.specs.States.{arrivals_in}
use Rattle.clerk.proofs.InOrder.{got, largest_got}
use Rattle.taped.specs.ClerksWall.{clerk_wall, asked_in}
use Rattle.taped.proofs.TapeDay.{tape_day}
use Rattle.taped.proofs.Printed.{wall_printed}
use Rattle.trials.specs.Days.{w, alone, day_of}
use Rattle.taped.specs.DayW.{entries_w, tape_w, entries_cut, rest_cut, wall_w, printed_w, stopped_w, cut_w}

-- a list whose numbers are tested one by one is bytes
small : List ℕ → Bool
small [] = true
small (x ∷ xs) = ltb x 256 && small xs

small_bytes : (xs : List ℕ) → small xs ≡ true → Bytes xs
unfolding small
small_bytes [] h i = lit< tt
small_bytes (x ∷ xs) h zero = ltb-true x 256 ((and-eq-true_iff (ltb x 256) (small xs)).0 h).0
small_bytes (x ∷ xs) h (suc i) = small_bytes xs ((and-eq-true_iff (ltb x 256) (small xs)).0 h).1 i

w_bytes : Bytes tape_w
unfolding small tape_w
w_bytes = small_bytes tape_w refl

-- a copy of the day's message of its number
w_copies : Copies (day_of w) 6 (arrivals_in (asked_in entries_w))
unfolding tape_w
w_copies = (
  (lit≤ tt, λ h. refl),
  ((lit≤ tt, λ h. refl), ((lit≤ tt, λ h. refl), ((lit≤ tt, λ h. refl), ((lit≤ tt, λ h. refl), ((lit≤ tt, λ h. refl), tt))))),
)

w_largest : Largest (numbers (arrivals_in (asked_in entries_w))) 6
unfolding tape_w got
w_largest = largest_got (numbers (arrivals_in (asked_in entries_w)))

w_fits : EntriesFit entries_w
unfolding tape_w
w_fits = (
  (refl, lit< tt),
  (
    (refl, lit< tt, lit< tt),
    (
      (refl, lit< tt, lit< tt),
      ((refl, lit< tt, lit< tt), ((refl, lit< tt, lit< tt), ((refl, lit< tt, lit< tt), ((refl, lit< tt, lit< tt), tt)))),
    ),
  ),
)

cut_fits : EntriesFit entries_cut
unfolding rest_cut
cut_fits = (
  (refl, lit< tt),
  (
    (refl, lit< tt, lit< tt),
    ((refl, lit< tt, lit< tt), ((refl, lit< tt, lit< tt), ((refl, lit< tt, lit< tt), ((refl, lit< tt, lit< tt), tt)))),
  ),
)

cut_copies : Copies (day_of w) 6 (arrivals_in (asked_in entries_cut))
unfolding rest_cut
cut_copies = (
  (lit≤ tt, λ h. refl),
  ((lit≤ tt, λ h. refl), ((lit≤ tt, λ h. refl), ((lit≤ tt, λ h. refl), ((lit≤ tt, λ h. refl), tt)))),
)

-- that is W's tape without its last byte
pub cut_is : tape_of entries_cut ++ rest_cut ≡ take 295 tape_w
unfolding rest_cut
cut_is = refl

-- what the clerk prints
w_clerks : wall_w 6 None ≡ printed_w
unfolding wall_w
w_clerks = refl

stops_clerks : wall_w 6 (Some 296) ≡ stopped_w
unfolding wall_w
stops_clerks = refl

cut_clerks : wall_w 5 (Some 224) ≡ cut_w
unfolding wall_w
cut_clerks = refl

w_short : length tape_w < 2 ^ 64
unfolding tape_w
w_short = lit< tt

-- the program's room, whatever it held before
module _ (rooms : State) (bl : Bytes rooms.lines) (rowsLong : length rooms.rows ≡ 1920)
    (linesLong : length rooms.lines ≡ 40960) where
  in_room : (n : ℕ) (e : Option ℕ)
      → clerk_wall (clerk_sheet (row_limit (length rooms.rows)) (alone 250000)) (line_limit (length rooms.lines)) (upto (day_of w) n) e
      ≡ wall_w n e
  unfolding wall_w
  in_room n e = ap₂ (λ (r l : ℕ). clerk_wall (clerk_sheet (row_limit r) (alone 250000)) (line_limit l) (upto (day_of w) n) e) rowsLong linesLong

  -- the whole output of day W
  pub w_whole : wall_text rooms tape_w ≡ printed_w
  unfolding tape_w wall_w
  w_whole =
      tape_day (day_of w) 6 6 (lit≤ tt) rooms bl tape_w w_bytes entries_w [] (whole_tape entries_w w_fits) w_copies w_largest
      ∙ in_room 6 None
      ∙ w_clerks

  -- and of its tape with a byte behind it that is no kind, whatever comes after that
  pub w_stops : (k : ℕ) (more : List ℕ) → Bytes (k ∷ more) → body_length k ≡ 0 → wall_text rooms (tape_w ++ (k ∷ more)) ≡ stopped_w
  unfolding tape_w wall_w Entries.head_of
  w_stops k more bytes none =
      let head = ap (λ (n : ℕ). cond (eqb n 0) (Err NoKind) (cond (leb n (length more)) (Ok (suc n)) (Err CutShort))) none in
      tape_day (day_of w) 6 6 (lit≤ tt) rooms bl (tape_w ++ (k ∷ more)) (append_bytes tape_w (k ∷ more) w_bytes bytes) entries_w (k ∷ more)
      (cut_tape entries_w (k ∷ more) NoKind w_fits head) w_copies w_largest
      ∙ in_room 6 (ending_at (cond (eqb (body_length k) 0) NoKind CutShort) 296)
      ∙ ap (λ (n : ℕ). wall_w 6 (ending_at (cond (eqb n 0) NoKind CutShort) 296)) none
      ∙ stops_clerks

  -- and of its tape without the last byte
  pub w_cut : wall_text rooms (tape_of entries_cut ++ rest_cut) ≡ cut_w
  unfolding rest_cut wall_w Entries.head_of Entries.body_length small got
  w_cut =
      tape_day (day_of w) 6 5 (lit≤ tt) rooms bl (tape_of entries_cut ++ rest_cut) (small_bytes (tape_of entries_cut ++ rest_cut) refl) entries_cut
      rest_cut (cut_tape entries_cut rest_cut CutShort cut_fits refl) cut_copies (largest_got (numbers (arrivals_in (asked_in entries_cut))))
      ∙ in_room 5 (Some 224)
      ∙ cut_clerks

  -- what the program's calls write of W's tape, however it is cut into pieces
  pub w_by_calls : {s : Standing} → ReadSo rooms tape_w s → (κs : WriteLfts) (a : WriteArgs κs) (r : ℕ) (x : WriteExit κs)
      → write-reads.Learnt κs a r x → write_from κs a ≡ s.state → write_ending κs a ≡ ending_at s.stop s.at
      → 8484 ≤ length (write_space κs a) → take r (write_left κs a x) ≡ printed_w
  w_by_calls read κs a r x h e f room =
      wall_printed read w_short κs a r x h e f
      (subst (λ (n : ℕ). wall_longest (row_limit n) ≤ length (write_space κs a)) (sym rowsLong) room)
      ∙ w_whole
