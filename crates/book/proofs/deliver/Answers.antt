-- `book::deliver` meets its contract.
-- Assumes nothing.
use Rattle.std.specs.Prelude.{is_err}
use mathlib.Core.Path.{◌≡◌}
use mathlib.Core.Bool.{true, false}
use borrow.Author.Rules.{rules}
use Rattle.octets.specs.Run.{Bytes}
use Rattle.answers.proofs.Promise.{done_number, not_done}
use Rattle.book.specs.State.{State, lent}
use Rattle.book.proofs.Steps.{early_left, wanted_number, wanted_left}
use Rattle.book.proofs.deliver.Goals as goal
use Rattle.book.proofs.deliver.Goals.{After-judge_arrival-by_number}

-- what a call lends are bytes
pub entered : (c : After-judge_arrival-by_number) → Bytes c.args.rows.now × Bytes c.args.lines.now × Bytes c.args.message.now
entered c = (λ i. search rules, λ i. search rules, λ i. (c.type_inv.message i).fits)

pub returns-then-is_err : goal.returns-then-is_err
returns-then-is_err c =
    let refused : is_err c.judge_arrival-by_number.result ≡ true = search rules in
    early_left _ _ _ _ c.judge_arrival-by_number.ensures (not_done _ refused)

pub use_number-requires : goal.use_number-requires
use_number-requires c =
    let state : State = lent c.args.c c.args.rows.now c.args.lines.now in
    let done : is_err c.judge_arrival-by_number.result ≡ false = search rules in
    wanted_number state c.args.number c.args.message.now _ c.judge_arrival-by_number.ensures (done_number _ done)

pub returns : goal.returns
returns c =
    let done : is_err c.judge_arrival-by_number.result ≡ false = search rules in
    wanted_left _ _ _ _ c.judge_arrival-by_number.ensures (done_number _ done) _ c.use_number.ensures
