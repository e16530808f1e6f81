-- `print::header` meets its contract.
-- Assumes nothing.
use mathlib.Core.Path.{refl}
use Rattle.print.specs.Texts.{header_text}
use Rattle.print.proofs.header.Goals as goal

pub returns : goal.returns
unfolding header_text
returns c = record { bytes = c.paste.ensures; count = refl }
