-- The tape of the day W played: six messages taken, the seventh wanted, every byte used; and the row of ABCD then. And what the calls of
-- any such day name: a cancel and a correction, so that what is said of the keys that a day names is not said of none.
-- Assumes nothing.
use Rattle.std.specs.Prelude.{Some}
use mathlib.Core.Path.{◌≡◌, refl, sym, ap, ◌∙◌}
use mathlib.Core.List.{List, [], ◌∷◌, reverse, reverse-reverse}
use Prim.Native.Nat.{ℕ}
use native.Mathlib.Omega.{arith}
use lib.IntN.{pos}
use lib.ListN.{length}
use Rattle.answers.specs.Answers.{answer_of}
use Rattle.book.specs.Calls.{shown}
use Rattle.tape.specs.declared.Stop.TheVariants.{Ended}
use Rattle.editions.specs.declared.Edition.TheVariants.{NlsPlus}
use Rattle.rows.specs.Rows.{row_limit}
use Rattle.lines.specs.Lines.{line_limit}
use Rattle.book.specs.State.{State, Arrival}
use Rattle.clerk.specs.Clerk.{clerk_sheet, taken_of}
use Rattle.clerk.specs.Arrivals.{Largest, numbers, Copies, upto}
use Rattle.clerk.specs.Claims.{named_in}
use Rattle.clerk.proofs.Demand3.{Day, named_by, named_calls}
use Rattle.trials.specs.Days.{abcd, control, w, alone, day_of, priced, figures_for, rows_room, lines_room, clerk_shows}
use Rattle.taped.specs.DayW.{tape_w, play_w}

pub w_played : (play_w.state.counters.taken ≡ 6) × (play_w.state.counters.wanted ≡ 7) × (play_w.used ≡ length tape_w)
    × (length tape_w ≡ 296) × (play_w.stop ≡ Ended)
unfolding play_w
w_played = (refl, refl, refl, refl, refl)

-- the row that document 01 prints of the day
pub w_shown : shown play_w.state abcd
    ≡ record { answer = answer_of 0; row = priced 250000 252500 252500 252500 (Some (pos 2500)) 170 2 600 }
unfolding play_w figures_for
w_shown = refl

-- the clerk's taken messages of W name Q 1, and before it Q 2
clerk_names : named_in (taken_of NlsPlus (clerk_sheet (row_limit rows_room) (alone 250000)) (line_limit lines_room) (upto (day_of w) 6))
    ≡ (81 ∷ control 49) ∷ (81 ∷ control 50) ∷ []
unfolding clerk_shows named_in
clerk_names = refl

-- the calls of any day that brings W's six messages, in rooms of that size, name Q 2 and then Q 1
pub w_named : {rooms : State} {l : List Arrival} {end : State} → length rooms.rows ≡ rows_room → length rooms.lines ≡ lines_room
    → Copies (day_of w) 6 l → Largest (numbers l) 6 → (h : Day NlsPlus rooms (alone 250000) l end)
    → named_by h.delivers ≡ (81 ∷ control 50) ∷ (81 ∷ control 49) ∷ []
w_named {rooms} {l} e f c g h =
    let taken : ℕ → ℕ → List (List ℕ)
    = λ r s. named_in (taken_of NlsPlus (clerk_sheet (row_limit r) (alone 250000)) (line_limit s) (upto (day_of w) 6)) in
    let named = named_by h.delivers in
    sym (reverse-reverse named)
    ∙ ap reverse
    (sym (named_calls NlsPlus (day_of w) 6 6 (omega arith) l c g h)
    ∙ ap (λ (r : ℕ). taken r (length rooms.lines)) e ∙ ap (taken rows_room) f ∙ clerk_names)
