-- `records::packed::put_record` meets its contract.
-- Assumes nothing.
use mathlib.Core.Path.{◌≡◌, ◌∙◌}
use lib.ListN.{length}
use borrow.Author.Rules.{rules}
use Rattle.records.specs.Fits.{RecordFits}
use Rattle.records.proofs.Stores.{fits_long, record_stored, record_over}
use Rattle.records.proofs.packed.put_record.Goals as goal
use Rattle.records.proofs.packed.put_record.Goals.{Start}

-- the record that a call brings fits its types
pub entered : (c : Start) → RecordFits c.args.r
entered c = search rules

pub returns : goal.returns
returns c =
    let fits : RecordFits c.args.r = search rules in
    let long = fits_long c.args.r fits in
    let eighty : length c.args.b.now ≡ 80 = search rules in
    rw (c.put_end.ensures, c.put_sale-2.ensures, c.put_sale.ensures, c.put_front.ensures)
    (record_stored c.args.b.now c.args.r long ∙ record_over c.args.b.now c.args.r long eighty)
