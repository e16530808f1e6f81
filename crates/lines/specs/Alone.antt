-- A line's cell is read alone as it is read in its room.
-- Assumes nothing.
use native.Mathlib.Nat.{add-zero}
use native.Mathlib.Omega.{arith}
use Rattle.cells.proofs.Slabs.{part_within, byte_within}
use Rattle.cells.specs.Room.{ReadAlone}
use Rattle.lines.specs.Cell.{line_cell, key_length, at_symbol, at_price, at_size, at_condition, at_place, at_time, at_live}
use Rattle.lines.specs.Lines.{line_from}

pub line_alone : ReadAlone line_cell line_from
unfolding line_from
line_alone m at =
    rw (
      part_within m at line_cell 0 key_length (omega arith),
      add-zero,
      part_within m at line_cell at_symbol 8 (omega arith),
      part_within m at line_cell at_price 4 (omega arith),
      part_within m at line_cell at_size 4 (omega arith),
      part_within m at line_cell at_condition 4 (omega arith),
      part_within m at line_cell at_place 4 (omega arith),
      part_within m at line_cell at_time 4 (omega arith),
      byte_within m at line_cell at_live (omega arith),
    )
