-- `print::symbols::unpadded` meets its contract. The loop: what is left when k bytes are looked at is what is left of the whole.
-- Assumes nothing.
use mathlib.Core.Path.{◌≡◌}
use lib.ListN.{take}
use Rattle.print.specs.Texts.{symbol_text}
use Rattle.print.proofs.symbols.unpadded.Given as goal

abbrev pub invariant-loop-k : goal.invariant-loop-k
invariant-loop-k l = symbol_text (take l.k l.s) ≡ symbol_text l.s
