-- `records::packed::letter` meets its contract.
-- Assumes nothing.
use mathlib.Core.Path.{sym, ◌∙◌}
use Rattle.records.proofs.Again.{packed_letter, packed_fits}
use Rattle.records.proofs.packed.letter.Goals as goal

pub returns : goal.returns
returns c = let b = c.args.b.now in record {
  letter = c.byte.ensures ∙ sym (packed_letter b);
  fits = packed_fits b (λ i. (c.type_inv.b i).fits);
}
