-- The last line of a tape that stops, by hand: a tape that stops prints the same lines as one that ends, and then where it stops.
-- Assumes nothing.
use Rattle.std.specs.Prelude.{None, Some}
use Prim.Native.Nat.{ℕ}
use mathlib.Core.Path.{◌≡◌, refl}
use mathlib.Core.List.{List, [], ◌∷◌, ◌++◌, append-nil, append_assoc}
use Rattle.tape.specs.declared.Stop.TheVariants.{Ended, NoKind, CutShort}
use Rattle.tape.specs.Playing.{joined}
use Rattle.print.specs.Texts.{stop_text}
use Rattle.book.specs.State.{State}
use Rattle.page.specs.Page.{ending_at, wall_lines, wall_of}
use Rattle.page.proofs.Laws.{joined_append}

-- with nothing left the tape is complete; a byte that is no kind and a body cut short stop it at their offset
pub endings : (ending_at Ended 7 ≡ None) × (ending_at NoKind 7 ≡ Some 7) × (ending_at CutShort 7 ≡ Some 7)
endings = (refl, refl, refl)

pub same_lines : (s : State) (n : ℕ) → wall_of s (Some n) ≡ wall_of s None ++ stop_text n
unfolding wall_of wall_lines
same_lines s n = simp (joined_append, append_assoc, append-nil) refl
