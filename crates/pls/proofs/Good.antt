-- The four tables of PLS are good.
-- Assumes nothing.
use mathlib.Core.Path.{refl}
use Rattle.kinds.specs.declared.Kind.{Kind}
use Rattle.kinds.specs.declared.Kind.TheVariants.{Event, Trade, Cancel, Correction, Summary, Other}
use Rattle.layout.specs.Values.{room_of}
use Rattle.layout.specs.Tables.{tiles}
use Rattle.layout.proofs.Good.{Good, All}
use Rattle.pls.specs.Layouts.{letter_place, layout_s, layout_t, layout_c, layout_of}

pub good : (k : Kind) → All (Good letter_place) (layout_of k)
unfolding tiles room_of layout_s layout_t layout_c
good Event = record { tiled = refl; narrow = refl; placed = refl; sized = refl }
good Trade = record { tiled = refl; narrow = refl; placed = refl; sized = refl }
good Cancel = record { tiled = refl; narrow = refl; placed = refl; sized = refl }
good Correction = record { tiled = refl; narrow = refl; placed = refl; sized = refl }
good Summary = tt
good Other = tt
