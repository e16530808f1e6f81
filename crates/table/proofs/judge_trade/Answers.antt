-- `table::judge_trade` meets its contract.
-- Assumes nothing.
use Rattle.std.specs.Prelude.{is_err}
use mathlib.Core.Path.{◌≡◌, ap, sym, ◌∙◌}
use mathlib.Core.Bool.{true, false}
use borrow.Author.Rules.{rules}
use Rattle.answers.proofs.Promise.{done_number, not_done}
use Rattle.table.specs.Working.{plainly, trade_by}
use Rattle.table.proofs.Laws.{refused_there, done_there}
use Rattle.table.proofs.judge_trade.Goals as goal

pub returns-then-not-names_old : goal.returns-then-not-names_old
unfolding trade_by
returns-then-not-names_old c = simp (sym c.names_old.ensures ∙ c.if-not-names_old.true)
    (c.plainly.ensures ∙ ap plainly c.judge_new.ensures)

pub returns-then-is_err : goal.returns-then-is_err
unfolding trade_by
returns-then-is_err c =
    let refused : is_err c.judge_named-named.result.answer ≡ true = search rules in
    simp (sym c.names_old.ensures ∙ c.if-not-names_old.false)
    (refused_there _ _ _ _ c.judge_named-named.ensures (not_done _ refused))

pub returns : goal.returns
unfolding trade_by
returns c =
    let done : is_err c.judge_named-named.result.answer ≡ false = search rules in
    simp (sym c.names_old.ensures ∙ c.if-not-names_old.false)
    (done_there _ _ _ _ c.judge_named-named.ensures (done_number _ done) _ c.judge_new-2.ensures)
