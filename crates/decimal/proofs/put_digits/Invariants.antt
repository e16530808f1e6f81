-- `decimal::put_digits` meets its contract. The loop: what is left of the number, stored in the first i places, makes the whole.
-- Assumes nothing.
use mathlib.Core.Path.{◌≡◌}
use lib.Seq.{sets}
use Rattle.decimal.specs.Decimal.{lowest}
use Rattle.decimal.proofs.put_digits.Given as goal

abbrev pub invariant-loop-i : goal.invariant-loop-i
invariant-loop-i l = sets l.out l.at (lowest l.i l.y) ≡ sets l.initial.out l.at (lowest l.k l.n)
