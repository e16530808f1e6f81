-- `records::packed::put_front` meets its contract.
-- Assumes nothing.
use mathlib.Core.Path.{◌≡◌}
use lib.ListN.{length}
use Rattle.records.proofs.Stores.{front_stored}
use borrow.Author.Rules.{rules}
use Rattle.records.proofs.packed.put_front.Goals as goal

pub returns : goal.returns
returns c =
    let long : length c.args.r.symbol ≡ 8 = search rules in
    rw (
      c.put_byte-4.ensures,
      c.paste.ensures,
      c.put_byte-3.ensures,
      c.put_byte-2.ensures,
      c.put.ensures,
      c.put_byte.ensures,
    ) (front_stored c.args.b.now c.args.r long)
