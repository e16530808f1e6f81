-- `plsread::number::read_number` meets its contract. The loop: the number so far, with the digits that are left, is what the field spells.
-- Assumes nothing.
use mathlib.Core.Path.{◌≡◌}
use Prim.Native.Nat.{◌^◌, ◌<◌}
use lib.ListN.{drop}
use Rattle.decimal.specs.Decimal.{worth_after, worth}
use Rattle.digits.specs.Field.{are_digits, rest}
use Rattle.plsread.proofs.number.read_number.Given as goal

abbrev pub invariant-loop-i : goal.invariant-loop-i
invariant-loop-i l = record {
  room : l.x < 10 ^ l.i;
  digits : are_digits (drop l.i l.s) ≡ are_digits (rest l.s);
  value : worth_after l.x (drop l.i l.s) ≡ worth (rest l.s);
}
