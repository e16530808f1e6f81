-- `numbers::Unsigned::write` of u16 meets its contract.
-- Assumes nothing.
use Rattle.numbers.proofs.Laws.{put_two}
use Rattle.numbers.proofs.U16Unsigned.write.Goals as goal

pub returns : goal.returns
returns c = let a = c.args in
    rw (c.put_byte-2.ensures, c.put_byte.ensures) (put_two a.out.now 0 a.self c.ranges.self.fits)
