-- One true day through the tape: listings, and copies of one day's messages in any order and with any gaps. What is printed is what the
-- clerk shows of the messages 1 to n, n the largest count that the tape brings in order.
-- Assumes nothing.
use Rattle.std.specs.Prelude.{Option, ℕ}
use Prim.Native.Nat.{ℕ, suc, ◌≤◌}
use mathlib.Core.Path.{◌≡◌, refl, ap, ap₂, sym, subst, ◌∙◌}
use mathlib.Core.List.{List, [], ◌∷◌, ◌++◌, map}
use native.Mathlib.Omega.{arith}
use lib.ListN.{length}
use lib.Seq.{take-append_seam}
use Rattle.octets.specs.Run.{Bytes}
use Rattle.numbers.specs.Number.{digits}
use Rattle.lines.specs.declared.Line.{Line}
use Rattle.lines.specs.Lines.{line_limit}
use Rattle.rows.specs.declared.Listing.{Listing}
use Rattle.rows.specs.declared.Row.{Row}
use Rattle.rows.specs.Rows.{row_limit}
use Rattle.walk.specs.Walking.{figures_of}
use Rattle.show.specs.Showing.{shown_of}
use Rattle.editions.specs.declared.Edition.TheVariants.{NlsPlus}
use Rattle.counters.specs.Counting.{last_number, fresh_counters}
use Rattle.print.specs.Texts.{header_text, row_text, closing_text}
use Rattle.book.specs.State.{State, with_counters, rows_in, lines_in}
use Rattle.book.specs.Calls.{listed, delivered}
use Rattle.upheld.proofs.Touches.{touches_only}
use Rattle.tape.specs.Entries.{Entry, Lists, Delivers, entry_bytes, EntryFits, EntriesFit, tape_of, Tape, end_of}
use Rattle.tape.specs.Playing.{acted, acted_all, Play, played, joined}
use Rattle.tape.proofs.Tapes.{play_split, bytes_behind, bytes_take}
use Rattle.page.specs.Page.{row_lines, end_lines, ending_at, wall_lines, wall_of, wall_after, wall_text}
use Rattle.clerk.specs.States.{asked_all, arrivals_in, listings_in, AskedFit}
use Rattle.clerk.specs.Steps.{Book, book_of}
use Rattle.clerk.specs.Clerk.{clerk_sheet, Taken, trades_of, taken_of, row_of, shown_by, book_by, clerk_book}
use Rattle.clerk.specs.Arrivals.{Largest, numbers, Copies, upto}
use Rattle.clerk.proofs.States.{Stands, steps_are, the_rows, the_lines}
use Rattle.taped.specs.ClerksWall.{lines_by, clerk_wall, asked_by, asked_in}

-- ---- the entries as what is asked

asked_is : (s : State) (es : List Entry) → acted_all s es ≡ asked_all s (asked_in es)
unfolding acted_all acted asked_all
asked_is s [] = refl
asked_is s (Lists l ∷ es) = asked_is (acted s (Lists l)) es
asked_is s (Delivers k a ∷ es) = asked_is (acted s (Delivers k a)) es

pub bytes_before : (a b : List ℕ) → Bytes (a ++ b) → Bytes a
bytes_before a b h = subst Bytes (take-append_seam a b) (bytes_take (a ++ b) (length a) h)

pub asked_fits : (es : List Entry) → EntriesFit es → Bytes (tape_of es) → AskedFit (asked_in es)
unfolding entry_bytes
asked_fits [] f b = tt
asked_fits (Lists l ∷ es) f b =
    let c = f.0 in
    (record { symbol = c.0; close = omega arith }, asked_fits es f.1 (bytes_behind (entry_bytes (Lists l)) (tape_of es) b))
asked_fits (Delivers k a ∷ es) f b = (
  bytes_behind (k ∷ digits 4 a.number) a.message (bytes_before (entry_bytes (Delivers k a)) (tape_of es) b),
  asked_fits es f.1 (bytes_behind (entry_bytes (Delivers k a)) (tape_of es) b),
)

-- no entry changes the length of the room for rows
pub acted_long : (s : State) (e : Entry) → length (acted s e).rows ≡ length s.rows
unfolding acted
acted_long s (Lists l) = (touches_only s).listed_length l
acted_long s (Delivers k a) = (touches_only s).rows_length a

-- ---- the wall of a book that is the clerk's

pub map_map : {A B C : Type 0} (f : A → B) (g : B → C) (xs : List A) → map g (map f xs) ≡ map (λ x. g (f x)) xs
map_map f g [] = refl
map_map {C = C} f g (x ∷ xs) = ap (λ (ys : List C). g (f x) ∷ ys) (map_map f g xs)

module _ (R L : ℕ) (sheet : List Listing) (room : ℕ) (ms : List (List ℕ)) (s : State)
    (h : Stands R L (clerk_book NlsPlus sheet room ms) s) where
  abbrev taken : List Taken
  taken = taken_of NlsPlus sheet room ms

  rows_are : row_lines s ≡ map (λ (l : Listing). row_text (shown_by NlsPlus taken l)) sheet
  unfolding row_of shown_by
  rows_are =
      ap₂ (λ (ls : List Line) (ws : List Row). map (λ (w : Row). row_text (shown_of w (figures_of w.listing.symbol ls))) ws)
      (the_lines R L NlsPlus sheet room ms s h) (the_rows R L NlsPlus sheet room ms s h)
      ∙ map_map (row_of NlsPlus taken) (λ (w : Row). row_text (shown_of w (figures_of w.listing.symbol (trades_of taken)))) sheet

  counts_are : closing_text s.counters.taken s.counters.wanted ≡ closing_text (length taken) (suc (length ms))
  unfolding book_of clerk_book book_by
  counts_are = ap (λ (b : Book). closing_text b.taken b.wanted) h.reads

  pub wall_is : (e : Option ℕ) → wall_of s e ≡ clerk_wall sheet room ms e
  unfolding wall_of wall_lines clerk_wall
  wall_is e =
      ap joined
      (ap₂ (λ (rs : List (List ℕ)) (c : List ℕ). header_text ∷ (rs ++ (c ∷ end_lines e))) rows_are counts_are)

-- ---- the day

-- a tape of bytes that are these entries and then a rest at whose head none stands
pub tape_day : (day : ℕ → List ℕ) (N n : ℕ) → N ≤ last_number → (rooms : State) → Bytes rooms.lines
    → (b : List ℕ) → Bytes b → (es : List Entry) (rest : List ℕ) → Tape b es rest
    → Copies day N (arrivals_in (asked_in es)) → Largest (numbers (arrivals_in (asked_in es))) n
    → wall_text rooms b
    ≡ clerk_wall (clerk_sheet (row_limit (length rooms.rows)) (listings_in (asked_in es))) (line_limit (length rooms.lines)) (upto day n)
    (ending_at (end_of rest) (length (tape_of es)))
unfolding wall_text
tape_day day N n fits rooms bl b bytes es rest t copies largest =
    let fresh = with_counters (fresh_counters NlsPlus) rooms in
    let sheet = clerk_sheet (row_limit (length rooms.rows)) (listings_in (asked_in es)) in
    let whole : Bytes (tape_of es ++ rest) = subst Bytes t.bytes bytes in
    let fit = asked_fits es t.each (bytes_before (tape_of es) rest whole) in
    let stands = steps_are NlsPlus day N n fits rooms bl (asked_in es) fit copies largest in
    let ending = ending_at (end_of rest) (length (tape_of es)) in
    ap wall_after (play_split fresh b es rest bytes t)
    ∙ ap (λ (s : State). wall_of s ending) (asked_is fresh es)
    ∙ wall_is (length rooms.rows) (length rooms.lines) sheet (line_limit (length rooms.lines)) (upto day n)
    (asked_all fresh (asked_in es)) stands ending
