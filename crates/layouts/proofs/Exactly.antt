-- What the reader's and the writer's tests amount to: `Shaped`, `Obeys` and `Lawful`, by the layout of the edition that the letter names.
-- Assumes nothing.
use mathlib.Core.Path.{◌≡◌, refl, ap, sym, subst, ◌∙◌}
use mathlib.Core.Bool.{true, ◌&&◌}
use mathlib.Core.List.{List}
use mathlib.Core.Option.{Option, none, some}
use Prim.Native.Nat.{ℕ}
use borrow.Author.Tests.{eqb-true, eq-eqb}
use lib.Dec.{eqb}
use lib.ListN.{length, get_or}
use Rattle.editions.specs.declared.Edition.{Edition}
use Rattle.layout.specs.Values.{is_zero}
use Rattle.layout.specs.Tables as Tables
use Rattle.layout.specs.Tables.{Layout, field_of, stands, Each, lacked, spelt_by}
use Rattle.layout.proofs.Forms.{both, clash}
use Rattle.layout.proofs.Tables as Laws
use Rattle.records.specs.declared.Record.{Record}
use Rattle.records.specs.Held.{holds, read_by, write_by, lawful, size_in, filled_in, bytes_in}
use Rattle.records.proofs.Held.{read_letter, read_stands, read_lacks, obeys_lawful}
use Rattle.formats.specs.Formats.{letter_place, layout_by, letter_in, layout_for, length_by, fields_of, bytes_of}
use Rattle.formats.proofs.Good.{named}
use Rattle.judge.specs.Judged.{lawful_in, lawful_of}
use Rattle.message.specs.Reader.{shaped_in, obeys_in}
use Rattle.message.specs.Obeying.{Shaped, Obeys, Lawful}

module _ (e : Edition) where
  -- ---- messages

  module _ (m : List ℕ) where
    abbrev by : Option Layout
    by = layout_for e m

    pub shaped_is : shaped_in by m ≡ true → Shaped e m
    shaped_is s = go by refl s
      where
        go : (o : Option Layout) → by ≡ o → shaped_in o m ≡ true → Shaped e m
        go none i s = clash s
        go (some l) i s = record { type = l; typed = i; long = eqb-true (length m) l.size s }

    pub is_shaped : Shaped e m → shaped_in by m ≡ true
    is_shaped s = ap (λ (o : Option Layout). shaped_in o m) s.typed ∙ eq-eqb (length m) s.type.size s.long

    pub obeys_is : obeys_in by m ≡ true → Obeys e m
    obeys_is s = go by refl s
      where
        go : (o : Option Layout) → by ≡ o → obeys_in o m ≡ true → Obeys e m
        go none i s = clash s
        go (some l) i s = record { type = l; typed = i; obeys = Laws.obeys_is l m s }

    pub is_obeys : Obeys e m → obeys_in by m ≡ true
    is_obeys o = ap (λ (x : Option Layout). obeys_in x m) o.typed ∙ Laws.is_obeys o.type m o.obeys

    -- by the layout that the letter names
    module _ (l : Layout) (i : by ≡ some l) where
      pub fields_as : fields_of e m ≡ read_by l m
      unfolding fields_of
      fields_as = ap (λ (o : Option Layout). filled_in o m) i

      pub letter_of_lem : (fields_of e m).letter ≡ letter_in e m
      letter_of_lem =
          let h = named e (letter_in e m) l i in
          ap (λ (r : Record). r.letter) fields_as ∙ read_letter l h.tiled m ∙ ap (λ (p : ℕ). get_or m p 0) h.placed

      pub stood : Each (λ x. holds (fields_of e m) (field_of x) ≡ stands x m) l.entries
      stood = rw fields_as (read_stands l (named e (letter_in e m) l i).tiled m)

      pub lacks : Each (λ f. is_zero (holds (fields_of e m) f) ≡ true) (lacked l)
      lacks = rw fields_as (read_lacks l (named e (letter_in e m) l i).tiled m)

  -- ---- records

  module _ (r : Record) where
    pub lawful_is : lawful_of e r ≡ true → Lawful e r
    unfolding lawful_of
    lawful_is s = go (layout_by e r.letter) refl s
      where
        go : (o : Option Layout) → layout_by e r.letter ≡ o → lawful_in o r ≡ true → Lawful e r
        go none i s = clash s
        go (some l) i s = record { type = l; typed = i; lawful = Laws.lawful_is l (holds r) s }

    pub is_lawful : Lawful e r → lawful_of e r ≡ true
    unfolding lawful_of
    is_lawful w = ap (λ (o : Option Layout). lawful_in o r) w.typed ∙ Laws.is_lawful w.type (holds r) w.lawful

    module _ (l : Layout) (i : layout_by e r.letter ≡ some l) where
      pub bytes_as : bytes_of e r ≡ write_by l r
      unfolding bytes_of
      bytes_as = ap (λ (o : Option Layout). bytes_in o r) i

      pub long_as : length_by e r.letter ≡ l.size
      unfolding length_by
      long_as = ap size_in i

      pub lawful_as : lawful_of e r ≡ lawful l r
      unfolding lawful_of
      lawful_as = ap (λ (o : Option Layout). lawful_in o r) i

  -- ---- a message that obeys fills a record that is lawful

  module _ (m : List ℕ) (o : Obeys e m) where
    again_named : layout_by e (fields_of e m).letter ≡ some o.type
    again_named = ap (layout_by e) (letter_of_lem m o.type o.typed) ∙ o.typed

    pub filled_lawful : lawful_of e (fields_of e m) ≡ true
    filled_lawful =
        let l = o.type in
        let h = named e (letter_in e m) l o.typed in
        let q = obeys_lawful l h.tiled m in
        let s = Laws.is_obeys l m o.obeys in
        lawful_as (fields_of e m) l again_named
        ∙ ap (lawful l) (fields_as m l o.typed)
        ∙ (both {a = eqb (length m) l.size && spelt_by l m} (sym q ∙ s)).1

    pub filled_long : length_by e (fields_of e m).letter ≡ length m
    filled_long = long_as (fields_of e m) o.type again_named ∙ sym o.obeys.long

    -- the message of that record is written by the message's own layout
    pub filled_bytes : bytes_of e (fields_of e m) ≡ write_by o.type (read_by o.type m)
    filled_bytes = bytes_as (fields_of e m) o.type again_named ∙ ap (write_by o.type) (fields_as m o.type o.typed)
