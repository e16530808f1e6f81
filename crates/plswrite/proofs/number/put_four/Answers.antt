-- `plswrite::number::put_four` meets its contract.
-- Assumes nothing.
use Rattle.plswrite.proofs.Shown.{four_low}
use Rattle.plswrite.proofs.number.put_four.Goals as goal

pub returns : goal.returns
returns c = let told = four_low _ _ _ _ c.spread-word.ensures in record { bytes = told.0; left = told.1 }
