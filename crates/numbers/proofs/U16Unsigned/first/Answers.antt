-- `numbers::Unsigned::first` of u16 meets its contract.
-- Assumes nothing.
use native.Mathlib.Omega.{arith}
use Rattle.numbers.proofs.Laws.{be_two}
use Rattle.numbers.proofs.U16Unsigned.first.Goals as goal

pub returns : goal.returns
returns c = omega (arith, c.from.ensures, c.from-2.ensures, c.byte.ensures, c.byte-2.ensures, be_two c.args.s.now 0)
