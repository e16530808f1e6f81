-- `book::row` meets its contract.
-- Assumes nothing.
use Rattle.std.specs.Prelude.{Err}
use mathlib.Core.Path.{◌≡◌, refl, ap, sym, ◌∙◌}
use borrow.Author.Rules.{rules}
use Rattle.octets.specs.Run.{Bytes}
use Rattle.answers.proofs.Promise.{never_refused}
use Rattle.book.specs.Calls.{place_told, row_told}
use Rattle.book.proofs.Steps.{row_refused, row_there}
use Rattle.book.proofs.row.Goals as goal
use Rattle.book.proofs.row.Goals.{After-find_row}

-- what a call lends are bytes
pub entered : (c : After-find_row) → Bytes c.args.rows.now × Bytes c.args.lines.now
entered c = (λ i. search rules, λ i. search rules)

pub returns-in_err-i : goal.returns-in_err-i
returns-in_err-i c =
    let given : c.from_residual.result ≡ Err c.in_err-i.field-0.0 = search rules in
    ap row_told given ∙ row_refused _ _ _ (ap place_told (sym c.in_err-i.was) ∙ c.find_row.ensures) (never_refused _) _ refl

pub returns : goal.returns
returns c = row_there _ _ _ (ap place_told (sym c.in_ok-i.was) ∙ c.find_row.ensures) refl _ _ _
    c.get-kept.ensures c.walk-figures.ensures c.shown.ensures
