-- A record that was read fits its types, and its texts and its centre are bytes. That whatever `read` is lent is bytes,
-- and whatever record `write` is given fits its types, is said beside their proofs (`entered` in `read/Answers` and `write/Answers`).
-- Assumes nothing.
use mathlib.Core.Path.{◌≡◌, ap, sym, subst}
use mathlib.Core.Bool.{true}
use mathlib.Core.List.{List}
use mathlib.Core.Option.{Option, none, some}
use Prim.Native.Nat.{ℕ, ◌<◌}
use lib.Dec.{lit<}
use Rattle.octets.specs.Run.{Bytes}
use Rattle.octets.proofs.Bytes.{none_bytes, zeros_bytes}
use Rattle.editions.specs.declared.Edition.{Edition}
use Rattle.kinds.specs.Kinds.{kind_of}
use Rattle.layout.specs.Values.{centre, symbol, control, condition, new_control, new_condition, Value, number, text, octet, txt, room_of}
use Rattle.layout.specs.Tables.{Layout, look}
use Rattle.layout.proofs.Good.{Good, All}
use Rattle.layout.proofs.Rooms.{OfBytes, look_bytes}
use Rattle.records.specs.declared.Sale.{Sale}
use Rattle.records.specs.declared.Record.{Record}
use Rattle.records.specs.Fits.{RecordFits}
use Rattle.records.specs.Zeros.{no_sale, no_record}
use Rattle.records.specs.Held.{number_in, text_in, sale_from, new_from, record_from, read_by, filled_in}
use Rattle.records.proofs.Fitting.{no_record_fits}
use Rattle.records.proofs.Held.{read_typed, typed_fits, obeys_stored}
use Rattle.formats.specs.Formats.{letter_place, letter_in, layout_for, fields_of}
use Rattle.formats.proofs.Good.{good}
use Rattle.message.specs.Reader.{Reading, obeys_in, read_of}
use Rattle.message.proofs.Said.{Said, unshaped, unkept, obeyed, said}

filled_fits : (e : Edition) (o : Option Layout) → All (Good (letter_place e)) o → (m : List ℕ) → Bytes m → obeys_in o m ≡ true
    → RecordFits (filled_in o m)
filled_fits e none h m b y = no_record_fits
filled_fits e (some l) h m b y =
    typed_fits (read_by l m) (read_typed l h.tiled h.narrow m b (obeys_stored l h.tiled h.narrow m y))

-- a record that was read, or was handed back for a refusal, fits its types
pub read_fits : (e : Edition) (m : List ℕ) → Bytes m → RecordFits (read_of e m).found
unfolding fields_of
read_fits e m b = go (said e m)
  where
    as_found : (r : Record) → (read_of e m).found ≡ r → RecordFits r → RecordFits (read_of e m).found
    as_found r q f = subst RecordFits (sym q) f

    go : Said e m → RecordFits (read_of e m).found
    go (unshaped s q) = as_found no_record (ap (λ (a : Reading). a.found) q) no_record_fits
    go (unkept s f q) = as_found no_record (ap (λ (a : Reading). a.found) q) no_record_fits
    go (obeyed s l q) =
        as_found (fields_of e m) (ap (λ (a : Reading). a.found) q) (filled_fits e (layout_for e m) (good e (kind_of (letter_in e m))) m b l)

-- ---- what is read from bytes is of bytes

pub record SaleBytes (s : Sale) : Type 0 where
  pub control : Bytes s.control
  pub condition : Bytes s.condition

pub record RecordBytes (r : Record) : Type 0 where
  pub centre : r.centre < 256
  pub symbol : Bytes r.symbol
  pub sale : SaleBytes r.sale
  pub new : SaleBytes r.new

no_sale_bytes : SaleBytes no_sale
no_sale_bytes = record { control = zeros_bytes 10; condition = zeros_bytes 4 }

no_record_bytes : RecordBytes no_record
no_record_bytes = record { centre = lit< tt; symbol = zeros_bytes 8; sale = no_sale_bytes; new = no_sale_bytes }

byte_in : (v : Value) → OfBytes octet v → number_in v < 256
byte_in (number x) h = h
byte_in (text xs) h = lit< tt

text_in_lem : (c : ℕ) (v : Value) → OfBytes (txt c) v → Bytes (text_in v)
text_in_lem c (number x) h = none_bytes
text_in_lem c (text xs) h = h

-- by any layout
filled_bytes : (e : Edition) (o : Option Layout) → All (Good (letter_place e)) o → (m : List ℕ) → Bytes m → RecordBytes (filled_in o m)
unfolding read_by record_from sale_from new_from room_of
filled_bytes e none h m b = no_record_bytes
filled_bytes e (some l) h m b =
    let v = look l.entries m in
    let f = look_bytes m b l.entries h.narrow in
    record {
      centre = byte_in (v centre) (f centre);
      symbol = text_in_lem 8 (v symbol) (f symbol);
      sale = record { control = text_in_lem 10 (v control) (f control); condition = text_in_lem 4 (v condition) (f condition) };
      new = record { control = text_in_lem 10 (v new_control) (f new_control); condition = text_in_lem 4 (v new_condition) (f new_condition) };
    }

-- a record that was read, or was handed back for a refusal, is of bytes
pub read_bytes : (e : Edition) (m : List ℕ) → Bytes m → RecordBytes (read_of e m).found
unfolding fields_of
read_bytes e m b = go (said e m)
  where
    as_found : (r : Record) → (read_of e m).found ≡ r → RecordBytes r → RecordBytes (read_of e m).found
    as_found r q f = subst RecordBytes (sym q) f

    go : Said e m → RecordBytes (read_of e m).found
    go (unshaped s q) = as_found no_record (ap (λ (a : Reading). a.found) q) no_record_bytes
    go (unkept s f q) = as_found no_record (ap (λ (a : Reading). a.found) q) no_record_bytes
    go (obeyed s l q) =
        as_found (fields_of e m) (ap (λ (a : Reading). a.found) q) (filled_bytes e (layout_for e m) (good e (kind_of (letter_in e m))) m b)
