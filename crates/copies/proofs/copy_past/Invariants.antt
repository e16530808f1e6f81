-- `copies::copy_past` meets its contract. The loop: what is copied so far is a run.
-- Assumes nothing.
use mathlib.Core.Path.{◌≡◌}
use Prim.Native.Nat.{◌≤◌}
use lib.ListN.{length}
use lib.Seq.{sets}
use Rattle.octets.specs.Run.{part}
use Rattle.copies.proofs.copy_past.Given as goal

abbrev pub invariant-loop-i : goal.invariant-loop-i
invariant-loop-i l = (l.i ≤ l.count) × (length l.out ≡ length l.initial.out) × (l.out ≡ sets l.initial.out l.to (part l.s l.from l.i))
