-- What is moved is what the tables say.
-- Assumes nothing.
use mathlib.Core.Path.{◌≡◌, refl, ap}
use mathlib.Core.List.{List}
use Prim.Native.Nat.{ℕ}
use lib.ListN.{replicate}
use lib.Seq.{sets}
use Rattle.octets.specs.Run.{tab, part, Bytes}
use Rattle.numbers.specs.Number.{digits}
use Rattle.layout.specs.Values.{room_of}
use Rattle.layout.specs.Tables.{tiles}
use Rattle.records.specs.Held.{read_by, write_by}
use Rattle.records.specs.Packed.{slots, record_bytes, record_of}
use Rattle.records.proofs.Again.{filled, told}
use Rattle.packing.specs.declared.Form.{Form}
use Rattle.packing.specs.Layouts.{layout_s, layout_t, layout_c, layout_j}
use Rattle.packing.specs.Moves.{unpacked, stored}

-- ---- the forms of the types, as the code has them

abbrev pub form_s : Form
form_s = record { body = record { packed = 5; message = 5; width = 1 }; rest = record { packed = 80; message = 6; width = 0 } }

abbrev pub form_t : Form
form_t = record { body = record { packed = 6; message = 5; width = 32 }; rest = record { packed = 72; message = 37; width = 8 } }

abbrev pub form_c : Form
form_c = record { body = record { packed = 6; message = 5; width = 54 }; rest = record { packed = 72; message = 59; width = 8 } }

abbrev pub form_j : Form
form_j = record { body = record { packed = 7; message = 5; width = 9 }; rest = record { packed = 60; message = 14; width = 20 } }

-- ---- read: put over eighty zeros, a message is its record's bytes

module _ (m : List ℕ) (g : Bytes m) where
  pub s_filled : unpacked form_s (replicate 80 0) m ≡ record_bytes (read_by layout_s m)
  unfolding part tab digits slots room_of tiles layout_s
  s_filled = filled layout_s refl m g

  pub t_filled : (k : ℕ) → unpacked form_t (replicate 80 0) m ≡ record_bytes (read_by (layout_t k) m)
  unfolding part tab digits slots room_of tiles layout_t
  t_filled k = filled (layout_t k) refl m g

  pub c_filled : unpacked form_c (replicate 80 0) m ≡ record_bytes (read_by layout_c m)
  unfolding part tab digits slots room_of tiles layout_c
  c_filled = filled layout_c refl m g

  pub j_filled : unpacked form_j (replicate 80 0) m ≡ record_bytes (read_by layout_j m)
  unfolding part tab digits slots room_of tiles layout_j
  j_filled = filled layout_j refl m g

-- ---- write: a record's bytes, put into a message, are what its table writes

module _ (b : List ℕ) (g : Bytes b) (out : List ℕ) where
  pub s_put : stored form_s out b ≡ sets out 0 (write_by layout_s (record_of b))
  unfolding part tab slots layout_s
  s_put = ap (sets out 0) (told layout_s b g)

  pub t_put : (k : ℕ) → stored form_t out b ≡ sets out 0 (write_by (layout_t k) (record_of b))
  unfolding part tab slots layout_t
  t_put k = ap (sets out 0) (told (layout_t k) b g)

  pub c_put : stored form_c out b ≡ sets out 0 (write_by layout_c (record_of b))
  unfolding part tab slots layout_c
  c_put = ap (sets out 0) (told layout_c b g)

  pub j_put : stored form_j out b ≡ sets out 0 (write_by layout_j (record_of b))
  unfolding part tab slots layout_j
  j_put = ap (sets out 0) (told layout_j b g)
