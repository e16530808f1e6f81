-- `octets::run::same_past` meets its contract. The loop: what is left of the two runs decides whether the whole are the same.
-- Assumes nothing.
use mathlib.Core.Path.{◌≡◌}
use Prim.Native.Nat.{◌-◌}
use lib.ListN.{length, drop}
use Rattle.octets.specs.Run.{tab, past, part, same}
use Rattle.octets.proofs.run.same_past.Given as goal

abbrev pub invariant-loop-i : goal.invariant-loop-i
invariant-loop-i l = same (tab (past l.s l.at) l.i (length l.t - l.i)) (drop l.i l.t) ≡ same (part l.s l.at (length l.t)) l.t
