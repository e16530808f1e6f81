-- `table::judge_listed` meets its contract.
-- Assumes nothing.
use Rattle.std.specs.Prelude.{None}
use mathlib.Core.Path.{◌≡◌, ap, sym, ◌∙◌}
use borrow.Author.Rules.{rules}
use Rattle.table.specs.Table.{ledger_in}
use Rattle.table.specs.Working.{on_row, listed_at, listed_by}
use Rattle.table.proofs.judge_listed.Goals as goal

pub returns-in_default : goal.returns-in_default
unfolding listed_by
returns-in_default c = let a = c.args in
    let none : c.find.result ≡ None = search rules in
    c.plainly.ensures ∙ sym (ap (listed_at (ledger_in a.rooms.lines.now a.rooms.used) a.kind a.r) (sym c.find.ensures ∙ none))

pub returns : goal.returns
unfolding listed_by
returns c = let a = c.args in
    ap (on_row _) c.judge_trade-traded.ensures
    ∙ sym (ap (listed_at (ledger_in a.rooms.lines.now a.rooms.used) a.kind a.r) (sym c.find.ensures ∙ c.in-Some.is))
