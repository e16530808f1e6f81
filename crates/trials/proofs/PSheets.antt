-- The listings to try by hand, one table under one proof: each line is computed from the book's promises and from the clerk's sheet.
-- Assumes nothing.
use mathlib.Core.Path.{refl}
use Rattle.trials.specs.Sheets.{AsListed, sheets, tried}

-- a `refl` for each sheet
pub p_sheets : AsListed sheets
unfolding tried sheets
p_sheets = (refl, (refl, (refl, (refl, (refl, (refl, (refl, (refl, tt))))))))
