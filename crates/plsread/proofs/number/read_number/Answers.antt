-- `plsread::number::read_number` meets its contract. The loop: the number so far, with the digits that are left, is what the field spells.
-- Assumes nothing.
use mathlib.Core.Path.{sym, ap, ◌∙◌}
use Prim.Native.Nat.{ℕ}
use native.Mathlib.Nat.{one-le-pow}
use native.Mathlib.Omega.{arith}
use lib.Dec.{lit<}
use lib.ListN.{drop}
use Rattle.decimal.specs.Decimal.{worth}
use Rattle.digits.specs.Field.{are_digits}
use Rattle.plsread.proofs.Spelt.{blanks_most, digit_stop, digits_end, worth_end, room_more}
use Rattle.plsread.proofs.Spelt.{number_broken, number_short, number_whole}
use Rattle.plsread.proofs.number.read_number.Goals as goal

pub loop-i-init : goal.loop-i-init
loop-i-init c = let s = c.args.s.now in
    record {
      room = omega (arith, one-le-pow c.spaces-from.result 10 (lit< tt));
      digits = ap (λ (k : ℕ). are_digits (drop k s)) c.spaces-from.ensures;
      value = ap (λ (k : ℕ). worth (drop k s)) c.spaces-from.ensures;
    }

pub returns-then-not-is_ascii_digit : goal.returns-then-not-is_ascii_digit
returns-then-not-is_ascii_digit c =
    number_broken c.args.least c.args.s.now
    (sym c.loop-i.invariant.digits ∙ digit_stop _ _ c.loop-i-test.true (sym c.if-not-is_ascii_digit.ensures.value))

pub overflow_mul-x : goal.overflow_mul-x
overflow_mul-x c = let l = c.loop-i in
    omega (arith, room_more l.i l.x (omega arith) l.invariant.room)

pub overflow_add-x : goal.overflow_add-x
overflow_add-x c = let l = c.loop-i in
    omega (arith, room_more l.i l.x (omega arith) l.invariant.room)

pub overflow_sub-s-2 : goal.overflow_sub-s-2
overflow_sub-s-2 c = omega (arith, c.spaces-from.ensures, blanks_most c.args.s.now)

pub returns-then-s-from : goal.returns-then-s-from
returns-then-s-from c =
    number_short c.args.least c.args.s.now (sym c.loop-i.invariant.digits ∙ digits_end _ _ c.loop-i-test.false)
    (omega (arith, c.if-s-from.true, c.spaces-from.ensures))

pub returns-else-s-from : goal.returns-else-s-from
returns-else-s-from c = let l = c.loop-i in
    number_whole c.args.least c.args.s.now l.x (sym l.invariant.digits ∙ digits_end _ _ c.loop-i-test.false)
    (omega (arith, c.if-s-from.false, c.spaces-from.ensures))
    (sym (worth_end _ _ l.x c.loop-i-test.false) ∙ l.invariant.value)
