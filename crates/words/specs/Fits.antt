-- What the struct types say of a row that is shown, as far as its words tell it from any other: the symbol is eight bytes, the net
-- has 64 signed bits.
-- Assumes nothing.
use Rattle.std.specs.Prelude.{◌≡◌, length}
use Rattle.octets.specs.Run.{Bytes}
use Rattle.show.specs.declared.RowShown.{RowShown}
use Rattle.show.specs.Fits.{NetFits}

pub record RowFits (r : RowShown) : Type 0 where
  pub symbol : length r.symbol ≡ 8
  pub bytes : Bytes r.symbol
  pub net : NetFits r.net
