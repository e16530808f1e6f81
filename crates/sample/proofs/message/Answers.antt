-- `sample::message` meets its contract.
-- Assumes nothing.
use mathlib.Core.Path.{◌∙◌}
use lib.ListN.{replicate}
use Rattle.records.specs.Fits.{RecordFits}
use Rattle.kinds.specs.Kinds.{kind_of}
use borrow.Author.Rules.{rules}
use Rattle.sample.proofs.Laws.{laid_by}
use Rattle.sample.proofs.message.Goals as goal

pub returns : goal.returns
returns g c =
    let r = c.args.r in
    let entered : RecordFits r = record {
      time = search rules;
      symbol = search rules;
      sale = record { control = search rules; price = search rules; size = search rules; condition = search rules };
      new = record { control = search rules; price = search rules; size = search rules; condition = search rules };
      high = search rules;
      low = search rules;
      close = search rules;
      consolidated = search rules;
    } in
    c.lay_out.ensures ∙ laid_by r entered (replicate g.row.N 0) (kind_of r.letter)
