-- `book::list` meets its contract.
-- Assumes nothing.
-- a listed symbol is eight bytes, and its close fits four
use Rattle.std.specs.Prelude.{is_err}
use mathlib.Core.Path.{◌≡◌}
use mathlib.Core.Bool.{true, false}
use Rattle.answers.proofs.Promise.{done_number, not_done}
use Rattle.book.proofs.Steps.{list_refused, list_done}
use borrow.Author.Rules.{rules}
use Rattle.rows.specs.Changed.{ListingFits}
use Rattle.book.proofs.list.Goals as goal
use Rattle.book.proofs.list.Goals.{Start}

-- a listed symbol is eight bytes, and its close fits four
pub entered : (c : Start) → ListingFits c.args.l
entered c = record { symbol = search rules; close = search rules }

pub returns-then-is_err : goal.returns-then-is_err
returns-then-is_err c =
    let refused : is_err c.judge_listing-answer.result ≡ true = search rules in
    list_refused _ _ _ c.judge_listing-answer.ensures (not_done _ refused)

pub returns : goal.returns
returns c =
    let done : is_err c.judge_listing-answer.result ≡ false = search rules in
    list_done _ _ _ c.judge_listing-answer.ensures (done_number _ done) _ _ c.add_row.ensures c.put.ensures
