-- What is moved between a message and the eighty bytes of its record: time and letter, and two runs, by any form.
-- Assumes nothing.
use Rattle.std.specs.Prelude.{ℕ, List, get_or, set}
use Rattle.std.proofs.lemmas.List.Edits.{sets}
use Rattle.octets.specs.Run.{part}
use Rattle.packing.specs.declared.Form.{Form}
use Rattle.packing.specs.declared.Run.{Run}

-- the bytes of a run of a message, put where a record has them, and back
abbrev pub run_unpacked : Run → List ℕ → List ℕ → List ℕ
run_unpacked r b m = sets b r.packed (part m r.message r.width)

abbrev pub run_stored : Run → List ℕ → List ℕ → List ℕ
run_stored r out b = sets out r.message (part b r.packed r.width)

-- a message put into the eighty bytes b
abbrev pub unpacked : Form → List ℕ → List ℕ → List ℕ
unpacked f b m = run_unpacked f.rest (run_unpacked f.body (sets (set b 0 (get_or m 4 0)) 1 (part m 0 4)) m) m

-- the eighty bytes b put into a message
abbrev pub stored : Form → List ℕ → List ℕ → List ℕ
stored f out b = run_stored f.rest (run_stored f.body (set (sets out 0 (part b 1 4)) 4 (get_or b 0 0)) b) b
