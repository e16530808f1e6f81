-- What the struct types say of a row that is shown, and the longest lines that they allow.
-- Assumes nothing.
use Rattle.std.specs.Prelude.{ℕ, ◌^◌, ◌<◌, ◌≡◌, length, None, Option, Some}
use Rattle.show.specs.declared.RowShown.{RowShown}
use Rattle.show.specs.Fits.{NetFits}

abbrev pub PriceFits : Option ℕ → Type 0
PriceFits None = Unit
PriceFits (Some p) = p < 2 ^ 32

abbrev pub ReportedFits : Option ℕ → Type 0
ReportedFits None = Unit
ReportedFits (Some v) = v < 2 ^ 64

-- each text has its length, and each number its width
pub record RowFits (w : RowShown) : Type 0 where
  pub symbol : length w.symbol ≡ 8
  pub last : PriceFits w.last
  pub high : PriceFits w.high
  pub low : PriceFits w.low
  pub net : NetFits w.net
  pub volume : w.volume < 2 ^ 64
  pub count : w.count < 2 ^ 64
  pub reported : ReportedFits w.reported

-- ---- no line is longer, newline included

abbrev pub header_longest : ℕ
header_longest = 46

abbrev pub row_longest : ℕ
row_longest = 130

abbrev pub closing_longest : ℕ
closing_longest = 83

abbrev pub stop_longest : ℕ
stop_longest = 35
