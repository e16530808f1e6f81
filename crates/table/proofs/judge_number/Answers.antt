-- `table::judge_number` meets its contract.
-- Assumes nothing.
use Prim.Native.Nat.{◌<◌}
use mathlib.Core.Path.{◌≡◌, refl}
use mathlib.Core.Bool.{true, ◌||◌}
use lib.Dec.{eqb, ltb}
use borrow.Author.Tests.{lt-ltb, le-ltb}
use Rattle.counters.specs.Counting.{last_number}
use Rattle.table.specs.Table.{number_table}
use Rattle.table.proofs.judge_number.Goals as goal

pub returns-then-number : goal.returns-then-number
unfolding number_table
returns-then-number c = let n = c.args.number in
    let outside : (eqb n 0 || ltb last_number n) ≡ true = c.if-number.true in
    simp outside refl

pub returns-then-number-wanted : goal.returns-then-number-wanted
unfolding number_table
returns-then-number-wanted c = let a = c.args in
    let below : a.number < a.wanted = c.if-number-wanted.true in
    simp (c.if-number.false, lt-ltb _ _ below) refl

pub returns-then-wanted-number : goal.returns-then-wanted-number
unfolding number_table
returns-then-wanted-number c = simp (c.if-number.false, le-ltb _ _ c.if-number-wanted.false, lt-ltb _ _ c.if-wanted-number.true) refl

pub returns : goal.returns
unfolding number_table
returns c = simp (c.if-number.false, le-ltb _ _ c.if-number-wanted.false, le-ltb _ _ c.if-wanted-number.false) refl
