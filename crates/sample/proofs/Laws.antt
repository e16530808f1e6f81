-- Fields laid out one after the other, each at the place that its table gives it, are the table's message.
-- Assumes nothing.
use mathlib.Core.Path.{◌≡◌, refl, ap, ◌∙◌}
use mathlib.Core.Bool.{true}
use mathlib.Core.List.{List, [], ◌∷◌}
use Prim.Native.Nat.{ℕ, ◌+◌}
use borrow.Author.Tests.{eqb-true}
use lib.Dec.{eqb}
use lib.ListN.{length}
use lib.Seq.{sets}
use Rattle.octets.proofs.Laws.{sets_then}
use Rattle.layout.specs.Values.{Values, Sized, room_of}
use Rattle.layout.specs.Forms.{writes}
use Rattle.layout.specs.Tables.{Item, at, Layout, tiles, offset_of, width_of, form_of, field_of, follows, written}
use Rattle.layout.proofs.Forms.{both, form_sized, typed_sized}
use Rattle.kinds.specs.declared.Kind.{Kind}
use Rattle.kinds.specs.declared.Kind.TheVariants.{Event, Trade, Cancel, Correction, Summary, Other}
use Rattle.records.specs.declared.Record.{Record}
use Rattle.records.specs.Fits.{RecordFits}
use Rattle.records.specs.Held.{holds, write_by, bytes_in}
use Rattle.records.proofs.Held.{fits_typed}
use Rattle.packing.specs.Layouts.{layout_s, layout_t, layout_c, layout_j, layout_of}
use Rattle.packing.proofs.Good.{good}
use Rattle.sample.specs.Laid.{laid_of}

module _ (v : Values) (y : Sized v) where
  -- each field of a table, stored at its place
  abbrev laid : List Item → List ℕ → List ℕ
  laid [] l = l
  laid (e ∷ es) l = laid es (sets l (offset_of e) (writes (form_of e) (width_of e) (v (field_of e))))

  laid_written : (es : List Item) (o : ℕ) (l : List ℕ) → follows o es ≡ true → laid es l ≡ sets l o (written es v)
  laid_written [] o l s = refl
  laid_written (at g a n k ∷ es) o l s =
      let p = both s in
      let q = both {a = eqb a o} p.0 in
      let xs = writes k n (v g) in
      let here : a ≡ o = eqb-true a o q.0 in
      let long : length xs ≡ n = form_sized k n (v g) (room_of g) q.1 (y g) in
      laid_written es (o + n) (sets l a xs) p.1
      ∙ ap (λ (j : ℕ). sets (sets l j xs) (o + n) (written es v)) here
      ∙ sets_then xs (written es v) l o (o + n) (ap (λ (j : ℕ). o + j) long)

-- ---- the messages of a record

fits_sized : (r : Record) → RecordFits r → Sized (holds r)
fits_sized r g f = typed_sized (room_of f) (holds r f) (fits_typed r g f)

module _ (r : Record) (g : RecordFits r) (l : List ℕ) where
  by : (t : Layout) → tiles t ≡ true → laid (holds r) (fits_sized r g) t.entries l ≡ sets l 0 (write_by t r)
  unfolding tiles write_by
  by t e = laid_written (holds r) (fits_sized r g) t.entries 0 l (both {a = follows 0 t.entries} (both (both e).0).0).0

  pub laid_by : (k : Kind) → laid_of k l r ≡ sets l 0 (bytes_in (layout_of k) r)
  unfolding layout_s layout_t layout_c layout_j holds
  laid_by Event = by layout_s (good Event).tiled
  laid_by Trade = by (layout_t 84) (good Trade).tiled
  laid_by Cancel = by (layout_t 88) (good Cancel).tiled
  laid_by Correction = by layout_c (good Correction).tiled
  laid_by Summary = by layout_j (good Summary).tiled
  laid_by Other = refl
