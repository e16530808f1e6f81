-- `rows::put` meets its contract.
-- Assumes nothing.
use mathlib.Core.Path.{◌≡◌, ◌∙◌}
use lib.ListN.{length}
use borrow.Author.Rules.{rules}
use Rattle.rows.proofs.Laws.{in_place, row_stored}
use Rattle.rows.proofs.put.Goals as goal

pub returns-in-Some : goal.returns-in-Some
returns-in-Some c =
    let symbol-long : length c.args.l.symbol ≡ 8 = search rules in
    let a = c.args in
    row_stored a.rows.now _ _ _ c.in-Some.at a.l symbol-long c.paste.ensures c.put.ensures c.paste-in-Some.ensures
    ∙ in_place a.rows.now a.i _ _ _ c.in-Some.ensures.0 c.in-Some.ensures.1
