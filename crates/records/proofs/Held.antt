-- The laws of every table, over records.
-- Assumes nothing.
use mathlib.Core.Path.{◌≡◌, refl, ap, sym, subst, ◌∙◌}
use mathlib.Core.Bool.{true, false, ◌&&◌}
use mathlib.Core.List.{List}
use Prim.Native.Nat.{ℕ, ◌^◌}
use borrow.Author.Tests.{eq-eqb, eqb-true, lt-ltb, ltb-true}
use lib.Dec.{eqb}
use lib.ListN.{length, get_or}
use Rattle.octets.specs.Run.{Bytes}
use Rattle.layout.specs.Values.{Field, letter, time, event, centre, symbol, class, control, price, size, condition, new_control}
use Rattle.layout.specs.Values.{new_price, new_size, new_condition, high, low, close, consolidated, Value, number, text, Values, is_text}
use Rattle.layout.specs.Values.{is_zero, room_of, Typed, Sized, zero_of}
use Rattle.layout.specs.Forms.{is_numeral}
use Rattle.layout.specs.Tables.{Layout, field_of, form_of, tiles, all_narrow, bytes_at, stands, look, written, Each, lacked, kept_by}
use Rattle.layout.specs.Tables.{lawful_by, spelt_by, plain_by, obeys_by, ready_by}
use Rattle.layout.proofs.Forms.{both, clash, typed_sized}
use Rattle.layout.proofs.Tables.{layout_found, layout_none, layout_sized, layout_kinds, layout_letter, layout_again, lawful_fits}
use Rattle.layout.proofs.Tables.{layout_plain, layout_outside, layout_lean}
use Rattle.layout.proofs.Tables.{layout_back, layout_long, layout_spelt, layout_lawful, layout_obeys}
use Rattle.layout.proofs.Rooms.{look_typed, obeys_ready, ready_spelt}
use Rattle.records.specs.declared.Record.{Record}
use Rattle.records.specs.Fits.{RecordFits}
use Rattle.records.specs.Held.{holds, number_in, text_in, sale_from, new_from, record_from, read_by, write_by, kept, lawful}

-- ---- a record and its values

record_values : (r : Record) → record_from (holds r) ≡ r
unfolding record_from sale_from new_from holds
record_values r = refl

-- equal values are one function, and so make one record
one_values : (v w : Values) → ((f : Field) → v f ≡ w f) → v ≡ w
one_values v w h = λ i f. h f i

is_number : (v : Value) → is_text v ≡ false → number (number_in v) ≡ v
is_number (number x) e = refl
is_number (text xs) e = clash (sym e)

is_text_lem : (v : Value) → is_text v ≡ true → text (text_in v) ≡ v
is_text_lem (number x) e = clash e
is_text_lem (text xs) e = refl

values_record : (v : Values) → ((f : Field) → is_text (v f) ≡ is_text (zero_of f)) → (f : Field) → holds (record_from v) f ≡ v f
unfolding holds record_from sale_from new_from room_of
values_record v k letter = is_number (v letter) (k letter)
values_record v k time = is_number (v time) (k time)
values_record v k event = is_number (v event) (k event)
values_record v k centre = is_number (v centre) (k centre)
values_record v k symbol = is_text_lem (v symbol) (k symbol)
values_record v k class = is_number (v class) (k class)
values_record v k control = is_text_lem (v control) (k control)
values_record v k price = is_number (v price) (k price)
values_record v k size = is_number (v size) (k size)
values_record v k condition = is_text_lem (v condition) (k condition)
values_record v k new_control = is_text_lem (v new_control) (k new_control)
values_record v k new_price = is_number (v new_price) (k new_price)
values_record v k new_size = is_number (v new_size) (k new_size)
values_record v k new_condition = is_text_lem (v new_condition) (k new_condition)
values_record v k high = is_number (v high) (k high)
values_record v k low = is_number (v low) (k low)
values_record v k close = is_number (v close) (k close)
values_record v k consolidated = is_number (v consolidated) (k consolidated)

-- a record fits its types exactly if its values do
pub fits_typed : (r : Record) → RecordFits r → Typed (holds r)
unfolding holds room_of
fits_typed r g letter = refl
fits_typed r g time = lt-ltb r.time (2 ^ 32) g.time
fits_typed r g event = refl
fits_typed r g centre = refl
fits_typed r g symbol = eq-eqb (length r.symbol) 8 g.symbol
fits_typed r g class = refl
fits_typed r g control = eq-eqb (length r.sale.control) 10 g.sale.control
fits_typed r g price = lt-ltb r.sale.price (2 ^ 32) g.sale.price
fits_typed r g size = lt-ltb r.sale.size (2 ^ 32) g.sale.size
fits_typed r g condition = eq-eqb (length r.sale.condition) 4 g.sale.condition
fits_typed r g new_control = eq-eqb (length r.new.control) 10 g.new.control
fits_typed r g new_price = lt-ltb r.new.price (2 ^ 32) g.new.price
fits_typed r g new_size = lt-ltb r.new.size (2 ^ 32) g.new.size
fits_typed r g new_condition = eq-eqb (length r.new.condition) 4 g.new.condition
fits_typed r g high = lt-ltb r.high (2 ^ 32) g.high
fits_typed r g low = lt-ltb r.low (2 ^ 32) g.low
fits_typed r g close = lt-ltb r.close (2 ^ 32) g.close
fits_typed r g consolidated = lt-ltb r.consolidated (2 ^ 64) g.consolidated

pub typed_fits : (r : Record) → Typed (holds r) → RecordFits r
unfolding holds room_of
typed_fits r y =
    record {
      time = ltb-true r.time (2 ^ 32) (y time);
      symbol = eqb-true (length r.symbol) 8 (y symbol);
      sale = record {
        control = eqb-true (length r.sale.control) 10 (y control);
        price = ltb-true r.sale.price (2 ^ 32) (y price);
        size = ltb-true r.sale.size (2 ^ 32) (y size);
        condition = eqb-true (length r.sale.condition) 4 (y condition);
      };
      new = record {
        control = eqb-true (length r.new.control) 10 (y new_control);
        price = ltb-true r.new.price (2 ^ 32) (y new_price);
        size = ltb-true r.new.size (2 ^ 32) (y new_size);
        condition = eqb-true (length r.new.condition) 4 (y new_condition);
      };
      high = ltb-true r.high (2 ^ 32) (y high);
      low = ltb-true r.low (2 ^ 32) (y low);
      close = ltb-true r.close (2 ^ 32) (y close);
      consolidated = ltb-true r.consolidated (2 ^ 64) (y consolidated);
    }

-- ---- every layout that is tiled

module _ (l : Layout) (t : tiles l ≡ true) where
  -- a record that is read holds what the table says
  pub read_values : (m : List ℕ) → holds (read_by l m) ≡ look l.entries m
  unfolding read_by
  read_values m =
      let v = look l.entries m in
      one_values (holds (record_from v)) v (values_record v (layout_kinds l t m))

  -- each field of the layout what stands at its place, every other zero
  pub read_stands : (m : List ℕ) → Each (λ e. holds (read_by l m) (field_of e) ≡ stands e m) l.entries
  read_stands m = rw (read_values m) (layout_found l t m)

  pub read_lacks : (m : List ℕ) → Each (λ f. is_zero (holds (read_by l m) f) ≡ true) (lacked l)
  read_lacks m = rw (read_values m) (layout_none l t m)

  pub read_letter : (m : List ℕ) → (read_by l m).letter ≡ get_or m l.place 0
  unfolding read_by record_from
  read_letter m = ap number_in (layout_letter l t m)

  -- what is read has its types' lengths, and what is read from bytes that can be stored fits its types
  pub read_long : (m : List ℕ) → Sized (holds (read_by l m))
  read_long m = rw (read_values m) (layout_sized l t m)

  pub read_typed : all_narrow l.entries ≡ true → (m : List ℕ) → Bytes m → ready_by l m ≡ true → Typed (holds (read_by l m))
  unfolding ready_by
  read_typed n m b y = rw (read_values m) (look_typed m b l.entries n y)

  -- (a) bytes that are plain are written as they were read
  pub read_written : (m : List ℕ) → Bytes m → length m ≡ l.size → plain_by l m ≡ true → write_by l (read_by l m) ≡ m
  unfolding write_by
  read_written m b h p = ap (written l.entries) (read_values m) ∙ layout_again l t m b h p

  -- and bytes that are spelt and are written as they were read are plain
  pub read_plain : (m : List ℕ) → Bytes m → spelt_by l m ≡ true → write_by l (read_by l m) ≡ m → plain_by l m ≡ true
  unfolding write_by
  read_plain m b s e = layout_plain l t m b s (sym (ap (written l.entries) (read_values m)) ∙ e)

  -- and all but digits is written as it was read
  pub read_outside : (m : List ℕ) → Bytes m
      → Each (λ e. is_numeral (form_of e) ≡ false → bytes_at e (write_by l (read_by l m)) ≡ bytes_at e m) l.entries
  unfolding write_by
  read_outside m b = rw (read_values m) (layout_outside l t m b)

  -- (b) a lawful record is read as it was written
  pub written_read : (r : Record) → Typed (holds r) → lawful l r ≡ true → read_by l (write_by l r) ≡ r
  unfolding read_by write_by
  written_read r y o =
      let v = look l.entries (written l.entries (holds r)) in
      ap record_from (one_values v (holds r) (layout_back l t (holds r) y o)) ∙ record_values r

  pub written_long : (r : Record) → Sized (holds r) → length (write_by l r) ≡ l.size
  unfolding write_by
  written_long r y = layout_long l t (holds r) y

  -- (c) a message obeys exactly if it has the length, is spelt, and its record is lawful
  pub obeys_lawful : (m : List ℕ) → obeys_by l m ≡ eqb (length m) l.size && spelt_by l m && lawful l (read_by l m)
  obeys_lawful m = layout_obeys l t m ∙ ap (λ (v : Values). eqb (length m) l.size && spelt_by l m && lawful_by l v) (sym (read_values m))

  -- what obeys can be stored, and what can be stored is spelt
  pub obeys_stored : all_narrow l.entries ≡ true → (m : List ℕ) → obeys_by l m ≡ true → ready_by l m ≡ true
  unfolding obeys_by spelt_by ready_by
  obeys_stored n m o =
      let p = both {a = eqb (length m) l.size && spelt_by l m} o in
      obeys_ready m l.entries n (both {a = eqb (length m) l.size} p.0).1 p.1

  pub stored_spelt : (m : List ℕ) → ready_by l m ≡ true → spelt_by l m ≡ true
  unfolding spelt_by ready_by
  stored_spelt m y = ready_spelt m l.entries y

  -- and what a message fills is lawful exactly if it keeps the rules of the fields that the layout has
  pub fields_kept : (m : List ℕ) → kept l (read_by l m) ≡ lawful l (read_by l m)
  fields_kept m = subst (λ (v : Values). kept_by l v ≡ lawful_by l v) (sym (read_values m)) (layout_lawful l t m)

  -- what is written of a lawful record obeys
  pub written_obeys : (r : Record) → Typed (holds r) → lawful l r ≡ true → obeys_by l (write_by l r) ≡ true
  unfolding write_by
  written_obeys r y o =
      let f = lawful_fits l t (holds r) y o in
      let n = layout_long l t (holds r) (λ f. typed_sized (room_of f) (holds r f) (y f)) in
      let e : lawful l (read_by l (write_by l r)) ≡ true = ap (lawful l) (written_read r y o) ∙ o in
      obeys_lawful (write_by l r) ∙ rw (eq-eqb (length (write_by l r)) l.size n, layout_spelt l t (holds r) f, e)

  -- and each of its numbers is in the form that we write
  pub written_plain : (r : Record) → Typed (holds r) → lawful l r ≡ true → plain_by l (write_by l r) ≡ true
  unfolding write_by
  written_plain r y o = layout_lean l t (holds r) (lawful_fits l t (holds r) y o)
