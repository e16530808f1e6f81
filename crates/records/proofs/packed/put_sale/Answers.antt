-- `records::packed::put_sale` meets its contract.
-- Assumes nothing.
use mathlib.Core.Path.{◌≡◌}
use lib.ListN.{length}
use borrow.Author.Rules.{rules}
use Rattle.records.proofs.Stores.{sale_stored}
use Rattle.records.proofs.packed.put_sale.Goals as goal

pub returns : goal.returns
returns c =
    let long : length c.args.s.control ≡ 10 = search rules in
    let a = c.args in
    rw (c.paste-2.ensures, c.put-2.ensures, c.put.ensures, c.paste.ensures)
    (sale_stored a.out.now a.at a.s long)
