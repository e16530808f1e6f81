-- The five tables of NLS Plus are good, and have no digits.
-- Assumes nothing.
use mathlib.Core.Path.{refl}
use Rattle.kinds.specs.declared.Kind.{Kind}
use Rattle.kinds.specs.declared.Kind.TheVariants.{Event, Trade, Cancel, Correction, Summary, Other}
use Rattle.layout.specs.Values.{room_of}
use Rattle.layout.specs.Tables.{tiles, plain_by, ready_by}
use Rattle.layout.proofs.Good.{Good, Sure, All}
use Rattle.packing.specs.Layouts.{letter_place, layout_s, layout_t, layout_c, layout_j, layout_of}

pub good : (k : Kind) → All (Good letter_place) (layout_of k)
unfolding tiles room_of layout_s layout_t layout_c layout_j
good Event = record { tiled = refl; narrow = refl; placed = refl; sized = refl }
good Trade = record { tiled = refl; narrow = refl; placed = refl; sized = refl }
good Cancel = record { tiled = refl; narrow = refl; placed = refl; sized = refl }
good Correction = record { tiled = refl; narrow = refl; placed = refl; sized = refl }
good Summary = record { tiled = refl; narrow = refl; placed = refl; sized = refl }
good Other = tt

pub sure : (k : Kind) → All Sure (layout_of k)
unfolding ready_by plain_by layout_s layout_t layout_c layout_j
sure Event = record { ready = λ m. refl; plain = λ m. refl }
sure Trade = record { ready = λ m. refl; plain = λ m. refl }
sure Cancel = record { ready = λ m. refl; plain = λ m. refl }
sure Correction = record { ready = λ m. refl; plain = λ m. refl }
sure Summary = record { ready = λ m. refl; plain = λ m. refl }
sure Other = tt
