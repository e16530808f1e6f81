-- There and back: a record from its bytes, bytes from their record. And what code that copies into the eighty bytes and out of them,
-- and asks them, amounts to for any table.
-- Assumes nothing.
use mathlib.Core.Path.{◌≡◌, refl, ap, sym, ◌∙◌}
use mathlib.Core.Bool.{true, ◌&&◌}
use mathlib.Core.List.{List}
use Prim.Native.Nat.{ℕ}
use lib.ListN.{length, get_or}
use Rattle.octets.specs.Run.{all, Bytes}
use Rattle.layout.specs.Values.{Values, room_of, is_zero, Typed, Sized}
use Rattle.layout.specs.Tables.{Layout, tiles, all_narrow, look, written, lacked, all_from, kept_by, lawful_by, plain_by, ready_by}
use Rattle.layout.specs.Carrying.{carried, runs}
use Rattle.layout.proofs.Carried.{carries, runs_zero}
use Rattle.records.specs.declared.Record.{Record}
use Rattle.records.specs.Fits.{RecordFits}
use Rattle.records.specs.Held.{holds, read_by, write_by, kept, lawful}
use Rattle.records.specs.Packed.{slots, packed, record_bytes, record_of}
use Rattle.records.proofs.Held.{fits_typed, typed_fits, read_values, read_letter, read_long, read_typed, read_written, written_read}

pub packed_tiles : tiles packed ≡ true
unfolding tiles packed slots room_of
packed_tiles = refl

-- the letter is the first byte
pub packed_letter : (b : List ℕ) → (record_of b).letter ≡ get_or b 0 0
unfolding record_of packed
packed_letter b = read_letter packed packed_tiles b

-- and the texts have their lengths, whatever the bytes are
pub packed_long : (b : List ℕ) → Sized (holds (record_of b))
unfolding record_of
packed_long b = read_long packed packed_tiles b

packed_narrow : all_narrow packed.entries ≡ true
unfolding packed slots room_of
packed_narrow = refl

packed_ready : (b : List ℕ) → ready_by packed b ≡ true
unfolding ready_by packed slots
packed_ready b = refl

-- the record that bytes are fits its types
pub packed_fits : (b : List ℕ) → Bytes b → RecordFits (record_of b)
unfolding record_of
packed_fits b g = typed_fits (record_of b) (read_typed packed packed_tiles packed_narrow b g (packed_ready b))

packed_lawful : (r : Record) → lawful packed r ≡ true
unfolding lawful_by kept_by lacked packed slots holds
packed_lawful r = refl

packed_plain : (b : List ℕ) → plain_by packed b ≡ true
unfolding plain_by packed slots
packed_plain b = refl

-- the record that a record's bytes are is the record
pub typed_again : (r : Record) → Typed (holds r) → record_of (record_bytes r) ≡ r
unfolding record_of record_bytes
typed_again r y = written_read packed packed_tiles r y (packed_lawful r)

pub record_again : (r : Record) → RecordFits r → record_of (record_bytes r) ≡ r
record_again r g = typed_again r (fits_typed r g)

-- the bytes of the record that 80 bytes are, are those bytes
pub bytes_again : (b : List ℕ) → Bytes b → length b ≡ 80 → record_bytes (record_of b) ≡ b
unfolding record_of record_bytes packed
bytes_again b g e = read_written packed packed_tiles b g e (packed_plain b)

-- ---- of any table

packed_values : (b : List ℕ) → holds (record_of b) ≡ look slots b
unfolding record_of packed
packed_values b = read_values packed packed_tiles b

module _ (l : Layout) where
  -- a reader copies into the eighty bytes
  pub filled : tiles l ≡ true → (m : List ℕ) → Bytes m → carried slots l.entries m ≡ record_bytes (read_by l m)
  unfolding record_bytes write_by packed
  filled t m b = carries m b slots l.entries ∙ ap (written slots) (sym (read_values l t m))

  -- a writer copies from them
  pub told : (b : List ℕ) → Bytes b → carried l.entries slots b ≡ write_by l (record_of b)
  unfolding write_by
  told b g = carries b g l.entries slots ∙ ap (written l.entries) (sym (packed_values b))

  -- a lawful record keeps its rules, and the bytes of the fields that its layout lacks are 0
  pub judged : (b : List ℕ) → kept l (record_of b) && all 0 (runs slots b (lacked l)) ≡ lawful l (record_of b)
  unfolding lawful_by slots
  judged b =
      let t = kept l (record_of b) in
      sym (ap (λ (v : Values). all_from (λ f. is_zero (v f)) t (lacked l)) (packed_values b) ∙ runs_zero b slots t (lacked l) refl)
