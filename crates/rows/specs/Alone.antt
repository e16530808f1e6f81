-- A row's cell is read alone as it is read in its room.
-- Assumes nothing.
use native.Mathlib.Nat.{add-zero}
use native.Mathlib.Omega.{arith}
use Rattle.cells.proofs.Slabs.{part_within, byte_within}
use Rattle.cells.specs.Room.{ReadAlone}
use Rattle.rows.specs.Cell.{row_cell, at_close, at_summary, at_high, at_low, at_reported, at_volume}
use Rattle.rows.specs.Rows.{listing_from, reported_at, row_from, summary_at}

pub row_alone : ReadAlone row_cell row_from
unfolding row_from listing_from summary_at reported_at
row_alone m at =
    rw (
      part_within m at row_cell 0 8 (omega arith),
      add-zero,
      part_within m at row_cell at_close 4 (omega arith),
      byte_within m at row_cell at_summary (omega arith),
      part_within m at row_cell at_high 4 (omega arith),
      part_within m at row_cell at_low 4 (omega arith),
      byte_within m at row_cell at_reported (omega arith),
      part_within m at row_cell at_volume 8 (omega arith),
    )
