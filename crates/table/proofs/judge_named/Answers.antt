-- `table::judge_named` meets its contract.
-- Assumes nothing.
use Rattle.std.specs.Prelude.{None}
use mathlib.Core.Path.{◌≡◌, ap, sym, ◌∙◌}
use mathlib.Core.Bool.{true, false}
use borrow.Author.Tests.{not-true, not-false}
use borrow.Author.Rules.{rules}
use Rattle.lines.specs.Lines.{used_lines}
use Rattle.table.specs.Working.{named_at, named_by}
use Rattle.table.proofs.Laws.{found_for, named_dead, named_live}
use Rattle.table.proofs.judge_named.Goals as goal

pub returns-in_default : goal.returns-in_default
unfolding named_by
returns-in_default c =
    let a = c.args in
    let none : c.find.result ≡ None = search rules in
    c.plainly.ensures
    ∙ sym (ap (named_at a.r (used_lines a.rooms.lines.now a.rooms.used)) (found_for _ _ _ _ _ c.find.ensures c.old_key.ensures none))

pub returns-then-not-l : goal.returns-then-not-l
returns-then-not-l c = let a = c.args in
    c.plainly-then-not-l.ensures
    ∙ sym (named_dead a.r a.rooms.lines.now a.rooms.used _ (found_for _ _ _ _ _ c.find.ensures c.old_key.ensures c.in-Some.is) _
    c.get-l.ensures (not-true _ c.if-not-l.true))

pub returns-then-not-is_match : goal.returns-then-not-is_match
returns-then-not-is_match c = let a = c.args in
    c.plainly-then-not-is_match.ensures
    ∙ sym (named_live a.r a.rooms.lines.now a.rooms.used _ (found_for _ _ _ _ _ c.find.ensures c.old_key.ensures c.in-Some.is) _
    c.get-l.ensures (not-false _ c.if-not-l.false) false (sym c.if-not-is_match.true ∙ c.is_match.ensures))

pub returns : goal.returns
returns c = let a = c.args in
    sym (named_live a.r a.rooms.lines.now a.rooms.used _ (found_for _ _ _ _ _ c.find.ensures c.old_key.ensures c.in-Some.is) _
    c.get-l.ensures (not-false _ c.if-not-l.false) true (sym c.if-not-is_match.false ∙ c.is_match.ensures))
