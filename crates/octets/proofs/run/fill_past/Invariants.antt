-- `octets::run::fill_past` meets its contract. The loop: what is left of the run, stored from i on, makes the whole.
-- Assumes nothing.
use mathlib.Core.Path.{◌≡◌}
use Prim.Native.Nat.{◌-◌, ◌≤◌}
use lib.ListN.{length}
use lib.Seq.{sets}
use Rattle.octets.specs.Run.{tab, past, part}
use Rattle.octets.proofs.run.fill_past.Given as goal

abbrev pub invariant-loop-i : goal.invariant-loop-i
invariant-loop-i l = (l.i ≤ length l.initial.out) × (length l.out ≡ length l.initial.out) × (sets l.out l.i (tab (past l.s l.at) l.i (length l.initial.out - l.i)) ≡ part l.s l.at (length l.initial.out))
