-- Demand 2, of every edition. A message is read exactly when it obeys its layout and the field rules, and every field then is what stands
-- at its place; a record that breaks a rule is not written; one that is written is read as it was. What comes of a message that is read
-- and then written is said in `Trips`.
-- Assumes nothing.
use mathlib.Core.Path.{◌≡◌, refl, ap, sym, subst, ◌∙◌}
use mathlib.Core.Logic.{◌↔◌, ◌⊎◌, inl, inr}
use mathlib.Core.Bool.{Bool, true, false}
use mathlib.Core.List.{List, ◌++◌}
use mathlib.Core.Option.{Option, some}
use Prim.Native.Nat.{ℕ, ◌≤◌, ◌<◌}
use native.Mathlib.Omega.{arith}
use borrow.Author.Tests.{le-leb, leb-true, leb-false}
use lib.Dec.{leb}
use lib.ListN.{length, take, drop, get_or}
use lib.Seq.{take_at, drop_at}
use Rattle.editions.specs.declared.Edition.{Edition}
use Rattle.std.specs.Prelude.{Ok, Err}
use Rattle.answers.specs.declared.Refusal.TheVariants.{FieldBroken, NoSpace}
use Rattle.answers.specs.Answers.{Answer, number_of}
use Rattle.layout.specs.Values.{is_zero, all_fields, room_of}
use Rattle.layout.specs.Tables.{Layout, field_of, stands, Each, lacked}
use Rattle.layout.proofs.Tables as Laws
use Rattle.layout.proofs.Tables.{all_each}
use Rattle.layout.proofs.Forms.{typed_sized}
use Rattle.records.specs.declared.Record.{Record}
use Rattle.records.specs.Fits.{RecordFits}
use Rattle.records.specs.Zeros.{no_record}
use Rattle.records.specs.Held.{holds, read_by, write_by, lawful}
use Rattle.records.proofs.Held.{fits_typed, read_letter, written_read, written_obeys}
use Rattle.formats.specs.Formats.{letter_place, layout_by, layout_for, length_by, fields_of, bytes_of}
use Rattle.formats.proofs.Good.{named}
use Rattle.judge.specs.Judged.{lawful_of}
use Rattle.message.specs.Reader.{Reading, refused_of, accepted_of, shaped_in, obeys_in, read_in, read_of}
use Rattle.message.specs.Writer.{write_answer, write_out}
use Rattle.message.specs.Obeying.{Shaped, Obeys, Lawful}
use Rattle.message.proofs.Said.{Said, unshaped, unkept, obeyed, said}
use Rattle.message.proofs.Written.{bytes_length}
use Rattle.layouts.proofs.Exactly.{shaped_is, is_shaped, obeys_is, is_obeys, fields_as, stood, lacks, lawful_is}
use Rattle.layouts.proofs.Exactly.{is_lawful, bytes_as, long_as, lawful_as, filled_lawful, filled_long}

clash : (b : Bool) → b ≡ true → b ≡ false → ⊥
clash b t f = let z : ◌≡◌ {A = ℕ} 0 1 = cc in omega arith

module _ (e : Edition) where
  -- ---- reading

  zeros : Each (λ f. is_zero (holds no_record f) ≡ true) all_fields
  unfolding holds
  zeros = all_each (λ f. is_zero (holds no_record f)) all_fields refl

  -- What reading a message may say: 0 exactly if it obeys, 4 exactly if no type has its letter and its length, 5 exactly
  -- if one has and a field breaks its rule. A message that obeys fills each field of its layout with what stands there,
  -- and leaves every other field zero; a message that is refused leaves every field zero.
  pub record ReadsExactly (m : List ℕ) (a : Reading) : Type 0 where
    pub listed : (number_of a.answer ≡ 0) ⊎ ((number_of a.answer ≡ 4) ⊎ (number_of a.answer ≡ 5))
    pub zero : (number_of a.answer ≡ 0) ↔ Obeys e m
    pub four : (number_of a.answer ≡ 4) ↔ (Shaped e m → ⊥)
    pub five : (number_of a.answer ≡ 5) ↔ (Shaped e m × (Obeys e m → ⊥))
    pub filled : (o : Obeys e m) → Each (λ i. holds a.found (field_of i) ≡ stands i m) o.type.entries
    pub others : (o : Obeys e m) → Each (λ f. is_zero (holds a.found f) ≡ true) (lacked o.type)
    pub refused : (number_of a.answer ≡ 0 → ⊥) → Each (λ f. is_zero (holds a.found f) ≡ true) all_fields

  pub read_exactly : (m : List ℕ) → ReadsExactly m (read_of e m)
  read_exactly m = go (said e m)
    where
      by : Option Layout
      by = layout_for e m

      to_shape : Obeys e m → Shaped e m
      to_shape o = record { type = o.type; typed = o.typed; long = o.obeys.long }

      at_wrong : shaped_in by m ≡ false → ReadsExactly m (refused_of 4)
      at_wrong i =
          let none : Shaped e m → ⊥ = λ s. clash (shaped_in by m) (is_shaped e m s) i in
          record {
            listed = inr (inl refl);
            zero = (λ z. absurd (omega arith), λ o. absurd (none (to_shape o)));
            four = (λ z. none, λ h. refl);
            five = (λ z. absurd (omega arith), λ p. absurd (none p.0));
            filled = λ o. absurd (none (to_shape o));
            others = λ o. absurd (none (to_shape o));
            refused = λ z. zeros;
          }

      at_broken : shaped_in by m ≡ true → obeys_in by m ≡ false → ReadsExactly m (refused_of 5)
      at_broken i f =
          let never : Obeys e m → ⊥ = λ o. clash (obeys_in by m) (is_obeys e m o) f in
          record {
            listed = inr (inr refl);
            zero = (λ z. absurd (omega arith), λ o. absurd (never o));
            four = (λ z. absurd (omega arith), λ h. absurd (h (shaped_is e m i)));
            five = (λ z. (shaped_is e m i, never), λ p. refl);
            filled = λ o. absurd (never o);
            others = λ o. absurd (never o);
            refused = λ z. zeros;
          }

      at_done : shaped_in by m ≡ true → obeys_in by m ≡ true → ReadsExactly m (accepted_of (fields_of e m))
      at_done i l =
          record {
            listed = inl refl;
            zero = (λ z. obeys_is e m l, λ o. refl);
            four = (λ z. absurd (omega arith), λ h. absurd (h (shaped_is e m i)));
            five = (λ z. absurd (omega arith), λ p. absurd (p.1 (obeys_is e m l)));
            filled = λ o. stood e m o.type o.typed;
            others = λ o. lacks e m o.type o.typed;
            refused = λ z. absurd (z refl);
          }

      go : Said e m → ReadsExactly m (read_of e m)
      go (unshaped i q) = subst (ReadsExactly m) (sym q) (at_wrong i)
      go (unkept i f q) = subst (ReadsExactly m) (sym q) (at_broken i f)
      go (obeyed i l q) = subst (ReadsExactly m) (sym q) (at_done i l)

  -- a refused read hands back a record of zeros
  pub read_refused : (m : List ℕ) → (number_of (read_of e m).answer ≡ 0 → ⊥)
      → ((read_of e m).found ≡ no_record) × Each (λ f. is_zero (holds (read_of e m).found f) ≡ true) all_fields
  read_refused m h = (go (said e m), (read_exactly m).refused h)
    where
      go : Said e m → (read_of e m).found ≡ no_record
      go (unshaped i q) = ap (λ (a : Reading). a.found) q
      go (unkept i f q) = ap (λ (a : Reading). a.found) q
      go (obeyed i l q) = absurd (h (ap (λ (a : Reading). number_of a.answer) q))

  -- ---- reading, then writing

  pub done_parts : (m : List ℕ) → number_of (read_of e m).answer ≡ 0
      → (obeys_in (layout_for e m) m ≡ true) × ((read_of e m).found ≡ fields_of e m)
  done_parts m z = go (said e m)
    where
      go : Said e m → (obeys_in (layout_for e m) m ≡ true) × ((read_of e m).found ≡ fields_of e m)
      go (unshaped i q) =
          let n : ◌≡◌ {A = ℕ} 0 4 = sym z ∙ ap (λ (a : Reading). number_of a.answer) q in
          absurd (omega arith)
      go (unkept i f q) =
          let n : ◌≡◌ {A = ℕ} 0 5 = sym z ∙ ap (λ (a : Reading). number_of a.answer) q in
          absurd (omega arith)
      go (obeyed i l q) = (l, ap (λ (a : Reading). a.found) q)

  pub write_done : (r : Record) (out : List ℕ) → lawful_of e r ≡ true → length_by e r.letter ≤ length out
      → (write_answer e r out ≡ (Ok tt)) × (write_out e r out ≡ bytes_of e r ++ drop (length (bytes_of e r)) out)
  unfolding write_answer write_out
  write_done r out l k = (simp (l, le-leb _ _ k), simp (l, le-leb _ _ k))

  pub accepted : (m : List ℕ) → Obeys e m → read_of e m ≡ accepted_of (fields_of e m)
  unfolding read_of read_in fields_of
  accepted m o =
      let s = is_shaped e m (record { type = o.type; typed = o.typed; long = o.obeys.long }) in
      simp (s, is_obeys e m o)

  -- ---- writing

  -- What writing a record may say and leave: 0 exactly if it keeps the rules of its type and there is room, 18 exactly if
  -- it keeps them and there is not, 5 exactly if it breaks one. Where not 0, every byte stays; where 0, those past the message.
  pub record WritesExactly (r : Record) (out : List ℕ) (a : Answer) (left : List ℕ) : Type 0 where
    pub listed : (number_of a ≡ 0) ⊎ ((number_of a ≡ 5) ⊎ (number_of a ≡ 18))
    pub zero : (number_of a ≡ 0) ↔ ((w : Lawful e r) × (w.type.size ≤ length out))
    pub short : (number_of a ≡ 18) ↔ ((w : Lawful e r) × (length out < w.type.size))
    pub five : (number_of a ≡ 5) ↔ (Lawful e r → ⊥)
    pub stays : (number_of a ≡ 0 → ⊥) → left ≡ out
    pub past : RecordFits r → (w : Lawful e r) → drop w.type.size left ≡ drop w.type.size out

  -- the type that it is lawful by has the length of its letter
  pub long_is : (r : Record) (w : Lawful e r) → length_by e r.letter ≡ w.type.size
  long_is r w = long_as e r w.type w.typed

  -- a record that fits its types is written as long as its type says
  pub long_bytes : (r : Record) → RecordFits r → length (bytes_of e r) ≡ length_by e r.letter
  long_bytes r g = bytes_length e r (λ f. typed_sized (room_of f) (holds r f) (fits_typed r g f))

  pub write_exactly : (r : Record) (out : List ℕ) → WritesExactly r out (write_answer e r out) (write_out e r out)
  unfolding write_answer write_out
  write_exactly r out = rules (lawful_of e r) refl
    where
      is : Answer → List ℕ → Type 0
      is a left = WritesExactly r out a left

      unlawful : lawful_of e r ≡ false → is (Err FieldBroken) out
      unlawful f =
          let never : Lawful e r → ⊥ = λ w. clash (lawful_of e r) (is_lawful e r w) f in
          record {
            listed = inr (inl refl);
            zero = (λ z. absurd (omega arith), λ p. absurd (never p.0));
            short = (λ z. absurd (omega arith), λ p. absurd (never p.0));
            five = (λ z. never, λ h. refl);
            stays = λ z. refl;
            past = λ g v. refl;
          }

      tight : lawful_of e r ≡ true → length out < length_by e r.letter → is (Err NoSpace) out
      tight l k =
          let w = lawful_is e r l in
          record {
            listed = inr (inr refl);
            zero = (λ z. absurd (omega arith), λ p. absurd (omega (arith, long_is r p.0)));
            short = (λ z. (w, omega (arith, long_is r w)), λ p. refl);
            five = (λ z. absurd (omega arith), λ h. absurd (h w));
            stays = λ z. refl;
            past = λ g v. refl;
          }

      roomy : lawful_of e r ≡ true → length_by e r.letter ≤ length out → is (Ok tt) (bytes_of e r ++ drop (length (bytes_of e r)) out)
      roomy l k =
          let w = lawful_is e r l in
          record {
            listed = inl refl;
            zero = (λ z. (w, omega (arith, long_is r w)), λ p. refl);
            short = (λ z. absurd (omega arith), λ p. absurd (omega (arith, long_is r p.0)));
            five = (λ z. absurd (omega arith), λ h. absurd (h w));
            stays = λ z. absurd (z refl);
            past = λ g v. passed v.type.size (long_bytes r g ∙ long_is r v);
          }
        where
          passed : (n : ℕ) → length (bytes_of e r) ≡ n → drop n (bytes_of e r ++ drop (length (bytes_of e r)) out) ≡ drop n out
          passed n i = drop_at (bytes_of e r) _ n i ∙ ap (λ (k : ℕ). drop k out) i

      room : lawful_of e r ≡ true → (b : Bool) → leb (length_by e r.letter) (length out) ≡ b → is (write_answer e r out) (write_out e r out)
      room l true i = simp (l, i) (roomy l (leb-true _ _ i))
      room l false i = simp (l, i) (tight l (leb-false _ _ i))

      rules : (b : Bool) → lawful_of e r ≡ b → is (write_answer e r out) (write_out e r out)
      rules true l = room l (leb (length_by e r.letter) (length out)) refl
      rules false f = simp f (unlawful f)

  -- a record that breaks a rule, or has a value in a field that its type lacks, is not written
  pub broken : (r : Record) (out : List ℕ) → (Lawful e r → ⊥) → (number_of (write_answer e r out) ≡ 5) × (write_out e r out ≡ out)
  broken r out h =
      let w = write_exactly r out in
      let five : number_of (write_answer e r out) ≡ 5 = w.five.1 h in
      (five, w.stays (λ z. omega arith))

  -- ---- writing, then reading

  -- what then stands at the front is the record's message
  pub written_front : (r : Record) (out : List ℕ) → RecordFits r → (w : Lawful e r) → w.type.size ≤ length out
      → take w.type.size (write_out e r out) ≡ bytes_of e r
  written_front r out g w h =
      let k : length_by e r.letter ≤ length out = omega (arith, long_is r w) in
      ap (take w.type.size) (write_done r out (is_lawful e r w) k).1
      ∙ take_at (bytes_of e r) _ w.type.size (long_bytes r g ∙ long_is r w)

  -- a record that keeps the rules of its type is written where there is room, and the message that then stands there is
  -- read as the record
  pub write_again : (r : Record) (out : List ℕ) → RecordFits r → (w : Lawful e r) → w.type.size ≤ length out
      → read_of e (take w.type.size (write_out e r out)) ≡ accepted_of r
  write_again r out g w h =
      let l = w.type in
      let y = fits_typed r g in
      let d = named e r.letter l w.typed in
      let t : lawful_of e r ≡ true = is_lawful e r w in
      let o : lawful l r ≡ true = sym (lawful_as e r l w.typed) ∙ t in
      let b : read_by l (write_by l r) ≡ r = written_read l d.tiled r y o in
      let at : get_or (write_by l r) (letter_place e) 0 ≡ r.letter =
      ap (λ (p : ℕ). get_or (write_by l r) p 0) (sym d.placed)
      ∙ sym (read_letter l d.tiled (write_by l r)) ∙ ap (λ (q : Record). q.letter) b in
      let i : layout_for e (write_by l r) ≡ some l = ap (layout_by e) at ∙ w.typed in
      let q = Laws.obeys_is l (write_by l r) (written_obeys l d.tiled r y o) in
      let z : Obeys e (write_by l r) = record { type = l; typed = i; obeys = q } in
      ap (read_of e) (written_front r out g w h ∙ bytes_as e r l w.typed)
      ∙ accepted (write_by l r) z
      ∙ ap accepted_of (fields_as e (write_by l r) l i ∙ b)

  -- what is written is a message that obeys its layout, and each field of it stands for what the record holds
  pub written_stands : (r : Record) (out : List ℕ) → RecordFits r → (w : Lawful e r) → w.type.size ≤ length out
      → (o : Obeys e (take w.type.size (write_out e r out)))
      × Each (λ i. holds r (field_of i) ≡ stands i (take w.type.size (write_out e r out))) o.type.entries
  written_stands r out g w h =
      let m = take w.type.size (write_out e r out) in
      let a = write_again r out g w h in
      let x = read_exactly m in
      let o : Obeys e m = x.zero.0 (ap (λ (s : Reading). number_of s.answer) a) in
      let f : (read_of e m).found ≡ r = ap (λ (s : Reading). s.found) a in
      (o, subst (λ (q : Record). Each (λ i. holds q (field_of i) ≡ stands i m) o.type.entries) f (x.filled o))
