-- `lines::store` meets its contract.
-- Assumes nothing.
use mathlib.Core.Path.{◌≡◌, refl, ◌∙◌}
use lib.ListN.{length}
use Rattle.lines.specs.Cell.{key_length}
use Rattle.lines.proofs.Laws.{line_stored, mark_from}
use borrow.Author.Rules.{rules}
use Rattle.lines.proofs.store.Goals as goal

pub returns : goal.returns
returns c =
    let key-long : length c.args.l.key ≡ key_length = search rules in
    let symbol-long : length c.args.l.symbol ≡ 8 = search rules in
    let condition-long : length c.args.l.condition ≡ 4 = search rules in
    line_stored c.args.lines.now _ _ _ _ _ _ _ _ c.args.at c.args.l key-long symbol-long condition-long
    c.paste.ensures c.paste-2.ensures c.put.ensures c.put-2.ensures
    c.paste-3.ensures c.put-3.ensures c.put-4.ensures _ (c.from.ensures ∙ mark_from c.args.l.live) refl
