-- `tape::play` meets its contract. The loop: what was played so far, and then the play of what is left, is the whole play.
-- Assumes nothing.
use mathlib.Core.Path.{◌≡◌}
use Prim.Native.Nat.{◌-◌, ◌≤◌}
use lib.ListN.{length, drop}
use Rattle.book.specs.State.{lent}
use Rattle.tape.specs.Playing.{played, further}
use Rattle.tape.proofs.play.Given as goal

abbrev pub invariant-loop-stop : goal.invariant-loop-stop
invariant-loop-stop l = (l.at ≤ length l.part) × (further l.at (played (lent l.counters l.rows l.lines) (drop l.at l.part)) ≡ played (lent l.initial.counters l.initial.rows l.initial.lines) l.part)
    × (length l.rows ≡ length l.initial.rows) × (length l.lines ≡ length l.initial.lines)

abbrev pub decreases-loop-stop : goal.decreases-loop-stop
decreases-loop-stop l = length l.part - l.at
