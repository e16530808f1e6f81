-- The three answers of the reader, by its tests: the length of the message, whether its fields can be stored, and the rules of its record.
-- Assumes nothing.
use mathlib.Core.Path.{◌≡◌, refl, ap, ap₂, sym, subst, ◌∙◌}
use mathlib.Core.Bool.{Bool, true, false, not, ◌&&◌, ◌||◌}
use mathlib.Core.List.{List}
use mathlib.Core.Option.{Option, none, some}
use Prim.Native.Nat.{ℕ}
use borrow.Author.Tests.{not-true, not-false}
use lib.Dec.{eqb}
use lib.ListN.{length, replicate}
use Rattle.octets.specs.Run.{Bytes}
use Rattle.editions.specs.declared.Edition.{Edition}
use Rattle.kinds.specs.declared.Kind.{Kind}
use Rattle.kinds.specs.Kinds.{kind_of}
use Rattle.answers.specs.Answers.{Answer}
use Rattle.std.specs.Prelude.{Ok, Err}
use Rattle.answers.specs.declared.Refusal.{Refusal}
use Rattle.answers.specs.declared.Refusal.TheVariants.{NoType, FieldBroken}
use Rattle.layout.specs.Tables.{Layout, obeys_by, ready_by}
use Rattle.layout.proofs.Forms.{clash}
use Rattle.layout.proofs.Good.{Good, All}
use Rattle.records.specs.declared.Record.{Record}
use Rattle.records.specs.Held.{read_by, kept, lawful, size_in, filled_in, ready_in}
use Rattle.records.specs.Packed.{record_of, record_bytes}
use Rattle.records.proofs.Stores.{no_bytes}
use Rattle.records.proofs.Held.{read_typed, obeys_lawful, obeys_stored, stored_spelt, fields_kept}
use Rattle.records.proofs.Again.{typed_again}
use Rattle.formats.specs.Formats.{letter_place, letter_in, layout_of, layout_for, fields_of}
use Rattle.formats.proofs.Good.{good}
use Rattle.judge.specs.Judged.{kept_in}
use Rattle.message.specs.Reader.{Reading, reading_of, refused_of, accepted_of, shaped_in, obeys_in, read_in, read_of}

-- ---- by any layout

-- the reader's first test: no length at all, or another one
abbrev pub misshapen : Option Layout → List ℕ → Bool
misshapen o m = eqb (size_in o) 0 || not (eqb (length m) (size_in o))

module _ (e : Edition) where
  shape_test : (o : Option Layout) → All (Good (letter_place e)) o → (m : List ℕ) → misshapen o m ≡ not (shaped_in o m)
  shape_test none h m = refl
  shape_test (some l) h m = rw h.sized

  -- what can be stored is judged as it was read
  kept_stored : (l : Layout) → Good (letter_place e) l → (m : List ℕ) → Bytes m → ready_by l m ≡ true
      → kept l (record_of (record_bytes (read_by l m))) ≡ lawful l (read_by l m)
  kept_stored l h m g y =
      ap (kept l) (typed_again (read_by l m) (read_typed l h.tiled h.narrow m g y)) ∙ fields_kept l h.tiled m

  -- of a message that has the length, to obey is that its fields can be stored and what is stored keeps the rules
  obeys_stored_kept : (l : Layout) → Good (letter_place e) l → (m : List ℕ) → Bytes m → eqb (length m) l.size ≡ true
      → obeys_by l m ≡ ready_by l m && kept l (record_of (record_bytes (read_by l m)))
  obeys_stored_kept l h m g s = go (ready_by l m) refl
    where
      never : (t : Bool) → obeys_by l m ≡ t → ready_by l m ≡ false → obeys_by l m ≡ false
      never true q n = clash (sym n ∙ obeys_stored l h.tiled h.narrow m q)
      never false q n = q

      go : (t : Bool) → ready_by l m ≡ t → obeys_by l m ≡ ready_by l m && kept l (record_of (record_bytes (read_by l m)))
      go true y = rw y (obeys_lawful l h.tiled m ∙ rw (s, stored_spelt l h.tiled m y) (sym (kept_stored l h m g y)))
      go false n = rw n (never (obeys_by l m) refl n)

  obeyed_is : (o : Option Layout) → All (Good (letter_place e)) o → (m : List ℕ) → Bytes m → shaped_in o m ≡ true → (b : List ℕ)
      → b ≡ record_bytes (filled_in o m) → obeys_in o m ≡ ready_in o m && kept_in o (record_of b)
  obeyed_is none h m g s b f = clash s
  obeyed_is (some l) h m g s b f =
      obeys_stored_kept l h m g s ∙ ap (λ (x : List ℕ). ready_by l m && kept l (record_of x)) (sym f)

-- ---- what a reader says that has found the type

module _ (e : Edition) (k : Kind) (m : List ℕ) (q : k ≡ kind_of (letter_in e m)) where
  abbrev o : Option Layout
  o = layout_of e k

  -- an answer and eighty bytes are those of the definition
  abbrev Says : Answer → List ℕ → Kind → Type 0
  Says a b j = (a ≡ (read_in (layout_of e j) m).answer) × (b ≡ record_bytes (read_in (layout_of e j) m).found)

  say : (a : Answer) (b : List ℕ) → Says a b k → (a ≡ (read_of e m).answer) × (b ≡ record_bytes (read_of e m).found)
  unfolding read_of
  say a b h = subst (Says a b) q h

  pub told_unshaped : misshapen o m ≡ true
      → ((Err NoType) ≡ (read_of e m).answer) × (replicate 80 0 ≡ record_bytes (read_of e m).found)
  unfolding read_in
  told_unshaped t =
      let s : shaped_in o m ≡ false = not-true (shaped_in o m) (sym (shape_test e o (good e k) m) ∙ t) in
      say (Err NoType) (replicate 80 0) (rw s, rw s (sym no_bytes))

  module _ (g : Bytes m) (t : misshapen o m ≡ false) (b : List ℕ) (f : b ≡ record_bytes (filled_in o m)) where
    shaped : shaped_in o m ≡ true
    shaped = not-false (shaped_in o m) (sym (shape_test e o (good e k) m) ∙ t)

    pub told_obeyed : ready_in o m && kept_in o (record_of b) ≡ true → ((Ok tt) ≡ (read_of e m).answer) × (b ≡ record_bytes (read_of e m).found)
    unfolding read_in
    told_obeyed p =
        let y : obeys_in o m ≡ true = obeyed_is e o (good e k) m g shaped b f ∙ p in
        say (Ok tt) b (rw (shaped, y), rw (shaped, y) f)

    pub told_unkept : ready_in o m && kept_in o (record_of b) ≡ false
        → ((Err FieldBroken) ≡ (read_of e m).answer) × (replicate 80 0 ≡ record_bytes (read_of e m).found)
    unfolding read_in
    told_unkept p =
        let y : obeys_in o m ≡ false = obeyed_is e o (good e k) m g shaped b f ∙ p in
        say (Err FieldBroken) (replicate 80 0) (rw (shaped, y), rw (shaped, y) (sym no_bytes))

-- ---- and what may be said of a message

module _ (e : Edition) (m : List ℕ) where
  abbrev by : Option Layout
  by = layout_for e m

  pub data Said : Type 0 where
    unshaped : shaped_in by m ≡ false → read_of e m ≡ refused_of 4 → Said
    unkept : shaped_in by m ≡ true → obeys_in by m ≡ false → read_of e m ≡ refused_of 5 → Said
    obeyed : shaped_in by m ≡ true → obeys_in by m ≡ true → read_of e m ≡ accepted_of (fields_of e m) → Said

  pub said : Said
  unfolding read_of read_in fields_of
  said = shape (shaped_in by m) refl
    where
      judge : shaped_in by m ≡ true → (b : Bool) → obeys_in by m ≡ b → Said
      judge s true q = obeyed s q (simp (s, q))
      judge s false q = unkept s q (simp (s, q))

      shape : (b : Bool) → shaped_in by m ≡ b → Said
      shape false q = unshaped q (simp q)
      shape true q = judge q (obeys_in by m) refl

-- ---- an answer alone tells the reading

-- where it refuses, the record is of zeros
pub read_refused : (e : Edition) (m : List ℕ) (f : Refusal) → Err f ≡ (read_of e m).answer → reading_of (Err f) ≡ read_of e m
read_refused e m f h = go (said e m)
  where
    go : Said e m → reading_of (Err f) ≡ read_of e m
    go (unshaped s q) = cc
    go (unkept s o q) = cc
    go (obeyed s o q) = cc

-- where it does not, the record is what was found
pub read_done : (e : Edition) (m : List ℕ) (r : Record) → Ok tt ≡ (read_of e m).answer → r ≡ (read_of e m).found → reading_of (Ok r) ≡ read_of e m
read_done e m r h f =
    let said : Answer → Record → Reading = λ a found. record { answer = a; found = found } in
    ap₂ said h f
