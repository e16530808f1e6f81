-- `table::judge_new` meets its contract.
-- Assumes nothing.
use Rattle.std.specs.Prelude.{None, is_some}
use mathlib.Core.Path.{◌≡◌, refl, sym, ◌∙◌}
use mathlib.Core.Bool.{true, false}
use borrow.Author.Tests.{le-leb, lt-leb}
use borrow.Author.Rules.{rules}
use Rattle.table.specs.Working.{made_by}
use Rattle.table.proofs.Laws.{found_for, made_none, made_there}
use Rattle.table.proofs.judge_new.Goals as goal

pub returns-then-not-makes_new : goal.returns-then-not-makes_new
unfolding made_by
returns-then-not-makes_new c = simp (sym c.makes_new.ensures ∙ c.if-not-makes_new.true) refl

pub returns-then-is_some : goal.returns-then-is_some
returns-then-is_some c = let a = c.args in
    let there : is_some c.find.result ≡ true = search rules in
    made_there a.kind a.r a.rooms.lines.now a.rooms.used (sym c.makes_new.ensures ∙ c.if-not-makes_new.false) _
    (found_for _ _ _ _ _ c.find.ensures c.new_key.ensures refl) there

pub returns-then-limit-rooms : goal.returns-then-limit-rooms
returns-then-limit-rooms c = let a = c.args in
    let none : c.find.result ≡ None = search rules in
    made_none a.kind a.r a.rooms.lines.now a.rooms.used (sym c.makes_new.ensures ∙ c.if-not-makes_new.false)
    (found_for _ _ _ _ _ c.find.ensures c.new_key.ensures none) true (le-leb _ _ (rw c.limit.ensures at c.if-limit-rooms.true))

pub returns : goal.returns
returns c = let a = c.args in
    let none : c.find.result ≡ None = search rules in
    made_none a.kind a.r a.rooms.lines.now a.rooms.used (sym c.makes_new.ensures ∙ c.if-not-makes_new.false)
    (found_for _ _ _ _ _ c.find.ensures c.new_key.ensures none) false (lt-leb _ _ (rw c.limit.ensures at c.if-limit-rooms.false))
