-- `message::write` meets its contract.
-- Assumes nothing.
use mathlib.Core.Path.{ap, ◌∙◌}
use Rattle.records.specs.declared.Record.{Record}
use Rattle.records.specs.Fits.{RecordFits}
use Rattle.records.specs.Packed.{record_of}
use Rattle.records.proofs.Again.{record_again}
use Rattle.message.specs.Writer.{write_answer, write_out}
use borrow.Author.Rules.{rules}
use Rattle.message.proofs.write.Goals as goal
use Rattle.message.proofs.write.Goals.{Start}

-- the record that a call brings fits its types
pub entered : (c : Start) → RecordFits c.args.r
entered c =
    record {
      time = search rules;
      symbol = search rules;
      sale = record { control = search rules; price = search rules; size = search rules; condition = search rules };
      new = record { control = search rules; price = search rules; size = search rules; condition = search rules };
      high = search rules;
      low = search rules;
      close = search rules;
      consolidated = search rules;
    }

pub returns : goal.returns
returns c =
    let entered : RecordFits c.args.r = record {
      time = search rules;
      symbol = search rules;
      sale = record { control = search rules; price = search rules; size = search rules; condition = search rules };
      new = record { control = search rules; price = search rules; size = search rules; condition = search rules };
      high = search rules;
      low = search rules;
      close = search rules;
      consolidated = search rules;
    } in
    let r = c.args.r in
    let out = c.args.out.now in
    let e = ap record_of c.put_record.ensures ∙ record_again r entered in
    let w = c.write_packed.ensures in record { answer = w.answer ∙ ap (λ (q : Record). write_answer c.args.edition q out) e; left = w.left ∙ ap (λ (q : Record). write_out c.args.edition q out) e }
