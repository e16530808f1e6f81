-- A room of cells of one size: how many it has, and what stands in one of them.
-- Assumes nothing.
use Rattle.std.specs.Prelude.{ℕ, ◌*◌, ◌/◌, ◌≡◌, min, List, cond, length, ltb}
use Rattle.octets.specs.Run.{part}

-- as many whole cells as the bytes hold, at most the cap
abbrev pub cell_limit : ℕ → ℕ → ℕ → ℕ
cell_limit cap size room = min cap (room / size)

-- a cell that is cut out of the room is read as it is in the room
abbrev pub ReadAlone : {A : Type 0} → ℕ → (List ℕ → ℕ → A) → Type 0
ReadAlone size read = (m : List ℕ) (at : ℕ) → read (part m at size) 0 ≡ read m at

-- cell i, read from where it starts; where the room has no such cell, what stands for none
abbrev pub cell_in : {A : Type 0} → ℕ → ℕ → (List ℕ → ℕ → A) → A → List ℕ → ℕ → A
cell_in cap size read none m i = cond (ltb i (cell_limit cap size (length m))) (read m (i * size)) none
