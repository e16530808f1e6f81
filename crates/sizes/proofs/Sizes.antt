-- The sizes that a caller is told are those that the book, the reader and the records have.
-- Assumes nothing.
use Prim.Native.Nat.{ℕ, suc, ◌+◌, ◌-◌, ◌/◌, ◌≤◌, ◌<◌, min}
use mathlib.Core.Path.{◌≡◌, refl, ap, ap₂, sym, ◌∙◌}
use mathlib.Core.Bool.{Bool, true, false}
use mathlib.Core.List.{List, [], ◌∷◌, ◌++◌, map}
use native.Mathlib.Omega.{arith}
use borrow.Author.Tests.{leb-true, leb-false, le-leb, lt-leb}
use lib.Dec.{leb}
use lib.ListN.{length, get_or, get_or-eq_default, get_or-map, get_or-append}
use Rattle.editions.specs.declared.Edition.{Edition}
use Rattle.editions.specs.declared.Edition.TheVariants.{NlsPlus, Pls}
use Rattle.kinds.specs.declared.Kind.{Kind}
use Rattle.kinds.specs.declared.Kind.TheVariants.{Correction, Other}
use Rattle.kinds.specs.Kinds.{letter_of, all_kinds, kind_at, kind_of}
use Rattle.kinds.proofs.Laws.{passes, every}
use Rattle.kinds.proofs.Promise.{kind_again}
use Rattle.records.specs.declared.Record.{Record}
use Rattle.records.specs.Fits.{RecordFits}
use Rattle.packing.specs.Layouts as Plus
use Rattle.pls.specs.Layouts as Ascii
use Rattle.formats.specs.Formats.{length_of, length_by}
use Rattle.formats.proofs.Lengths.{lengths_printed}
use Rattle.counters.specs.declared.Counters.{Counters}
use Rattle.show.specs.declared.RowShown.{RowShown}
use Rattle.words.specs.Words.{counter_words, row_words}
use Rattle.rows.specs.Rows.{row_limit}
use Rattle.lines.specs.Lines.{line_limit}
use Rattle.records.specs.Packed.{packed, record_bytes}
use Rattle.records.proofs.Stores.{fits_long, record_length_lem}
use Rattle.sizes.specs.Sizes.{longest, lengths, length_at, sizes, size_of}

-- past the end of the list
pub size_none : (which : ℕ) → length sizes ≤ which → size_of which ≡ 0
unfolding size_of
size_none which h = get_or-eq_default sizes 0 h

-- ---- the lengths of the types' messages

-- the place of a type among those of both editions
pub by_ascii : (place : ℕ) → 5 ≤ place → length_of Pls (kind_at (place - 5)) ≡ length_at place
by_ascii place h = simp (le-leb 5 place h) refl

pub by_plus : (place : ℕ) → place < 5 → length_of NlsPlus (kind_at place) ≡ length_at place
by_plus place h = simp (lt-leb 5 place h) refl

at_place : (i : ℕ) → get_or lengths i 0 ≡ length_at i
at_place i = go (leb 5 i) refl
  where
    past : 5 ≤ i → i ≡ suc (suc (suc (suc (suc (i - 5)))))
    past h = omega (arith, h)

    go : (t : Bool) → leb 5 i ≡ t → get_or lengths i 0 ≡ length_at i
    go true e =
        let h = leb-true 5 i e in
        ap (λ (n : ℕ). get_or lengths n 0) (past h) ∙ get_or-map (length_of Pls) all_kinds (i - 5) Other ∙ by_ascii i h
    go false e =
        let h : i < 5 = omega (arith, leb-false 5 i e) in
        get_or-append (map (length_of NlsPlus) all_kinds) (map (length_of Pls) all_kinds) 0 i h
        ∙ get_or-map (length_of NlsPlus) all_kinds i Other
        ∙ by_plus i h

-- from 8 on
pub size_type : (which : ℕ) → 8 ≤ which → length_at (which - 8) ≡ size_of which
unfolding size_of
size_type which h = sym (ap size_of e ∙ at_place (which - 8))
  where
    e : which ≡ suc (suc (suc (suc (suc (suc (suc (suc (which - 8))))))))
    e = omega (arith, h)

-- no message is longer than 85, and a C of PLS is as long
abbrev within : Edition → Kind → Bool
within e k = leb (length_of e k) longest

record Computed : Type 0 where
  pub plus : passes (within NlsPlus) all_kinds ≡ true
  pub ascii : passes (within Pls) all_kinds ≡ true
  pub top : longest ≡ 85

computed : Computed
unfolding Plus.layout_s Plus.layout_t Plus.layout_c Plus.layout_j Ascii.layout_s Ascii.layout_t Ascii.layout_c
computed = record { plus = refl; ascii = refl; top = refl }

pub longest_is : longest ≡ 85
longest_is = computed.top

length_longest : (e : Edition) (k : Kind) → length_of e k ≤ longest
unfolding Ascii.layout_c
length_longest NlsPlus k = leb-true (length_of NlsPlus k) longest (every (within NlsPlus) computed.plus refl k)
length_longest Pls k = leb-true (length_of Pls k) longest (every (within Pls) computed.ascii refl k)

-- ---- all of them

-- a room of so many bytes has so many rows or lines; no message is longer, and a C of PLS is as long; a record, the counters and a row
-- are as long, and so is a message of each type; past the end of the list there is no size
pub record SizesAre : Type 0 where
  pub printed : sizes ≡ 30 ∷ 256 ∷ 40 ∷ 65536 ∷ 85 ∷ 80 ∷ 6 ∷ 15 ∷ (Plus.printed_lengths ++ (Ascii.printed_lengths ++ (0 ∷ [])))
  pub rows : (room : ℕ) → row_limit room ≡ min (size_of 1) (room / size_of 0)
  pub lines : (room : ℕ) → line_limit room ≡ min (size_of 3) (room / size_of 2)
  pub longest : (e : Edition) (letter : ℕ) → length_by e letter ≤ size_of 4
  pub attained : length_by Pls 67 ≡ size_of 4
  pub bytes : (r : Record) → RecordFits r → length (record_bytes r) ≡ size_of 5
  pub counters : (c : Counters) → length (counter_words c) ≡ size_of 6
  pub figures : (r : RowShown) → length (row_words r) ≡ size_of 7
  pub types : (place : ℕ) → place < 5 → length_by NlsPlus (letter_of (kind_at place)) ≡ size_of (8 + place)
  pub ascii : (place : ℕ) → length_by Pls (letter_of (kind_at place)) ≡ size_of (13 + place)
  pub none : (which : ℕ) → length sizes ≤ which → size_of which ≡ 0

-- by the place of a type in its edition
plus_at : (place : ℕ) → place < 5 → length_of NlsPlus (kind_at place) ≡ size_of (8 + place)
plus_at place h =
    let e : 8 + place - 8 ≡ place = omega arith in
    by_plus place h ∙ ap length_at (sym e) ∙ size_type (8 + place) (omega arith)

ascii_at : (place : ℕ) → length_of Pls (kind_at place) ≡ size_of (13 + place)
ascii_at place =
    let e : 13 + place - 8 ≡ 5 + place = omega arith in
    let d : 5 + place - 5 ≡ place = omega arith in
    ap (λ (i : ℕ). length_of Pls (kind_at i)) (sym d)
    ∙ by_ascii (5 + place) (omega arith)
    ∙ ap length_at (sym e)
    ∙ size_type (13 + place) (omega arith)

pub sizes_are : SizesAre
unfolding size_of length_by counter_words row_words packed
sizes_are =
    record {
      printed =
          ap₂ {C = List ℕ} (λ a b. 30 ∷ 256 ∷ 40 ∷ 65536 ∷ a ∷ 80 ∷ 6 ∷ 15 ∷ b) longest_is
          (ap₂ {C = List ℕ} (λ a b. a ++ b) lengths_printed.plus lengths_printed.ascii);
      rows = λ room. refl;
      lines = λ room. refl;
      longest = λ e k. length_longest e (kind_of k);
      attained = ap (length_of Pls) (kind_again Correction);
      bytes = λ r g. record_length_lem r (fits_long r g);
      counters = λ c. refl;
      figures = λ r. refl;
      types = λ place h. ap (length_of NlsPlus) (kind_again (kind_at place)) ∙ plus_at place h;
      ascii = λ place. ap (length_of Pls) (kind_again (kind_at place)) ∙ ascii_at place;
      none = size_none;
    }
