-- The writer by hand: what writing an event into a few bytes answers and leaves, by each edition. The figures are document 01's and 02's
-- and come from no definition, so a refused call that changes the space, in the code and in its definition alike, is found here.
-- Assumes nothing.
use Prim.Native.Nat.{ℕ}
use mathlib.Core.Path.{◌≡◌, refl}
use mathlib.Core.List.{List, [], ◌∷◌}
use lib.ListN.{replicate}
use Rattle.answers.specs.Answers.{number_of}
use Rattle.editions.specs.declared.Edition.TheVariants.{NlsPlus, Pls}
use Rattle.editions.specs.declared.Edition.{Edition}
use Rattle.kinds.specs.Kinds as Kinds
use Rattle.numbers.specs.Number as Number
use Rattle.layout.specs.Tables as Tables
use Rattle.records.specs.declared.Sale.{Sale}
use Rattle.records.specs.declared.Record.{Record}
use Rattle.records.specs.Held as Held
use Rattle.decimal.specs.Decimal as Decimal
use Rattle.digits.specs.Field as Field
use Rattle.packing.specs.Layouts as Plus
use Rattle.pls.specs.Layouts as Ascii
use Rattle.formats.specs.Formats as Formats
use Rattle.judge.specs.Judged as Judged
use Rattle.message.specs.Writer.{write_answer, write_out}

abbrev no_sale : Sale
no_sale = record { control = replicate 10 0; price = 0; size = 0; condition = replicate 4 0 }

-- an S at time 258 with an event, all other fields zero
abbrev event : ℕ → Record
event e =
    record {
      letter = 83;
      time = 258;
      event = e;
      centre = 0;
      symbol = replicate 8 0;
      class = 0;
      sale = no_sale;
      new = no_sale;
      high = 0;
      low = 0;
      close = 0;
      consolidated = 0;
    }

unfoldable pub answered : Edition → ℕ → List ℕ → ℕ
unfolding write_answer Judged.lawful_of Formats.length_by Kinds.kind_of Plus.layout_s Ascii.layout_s Tables.lawful_by Tables.kept_by Tables.lacked
    Held.holds
answered d e out = number_of (write_answer d (event e) out)

unfoldable pub left : Edition → ℕ → List ℕ → List ℕ
unfolding write_out Judged.lawful_of Formats.length_by Formats.bytes_of Kinds.kind_of Plus.layout_s Ascii.layout_s Tables.lawful_by Tables.kept_by
    Tables.lacked Held.holds Held.write_by Number.digits Field.shown_in Decimal.digit_count Decimal.lowest
left d e out = write_out d (event e) out

-- NLS Plus: event O into eight, six and five bytes, and into none; an event that is none into eight and into five
pub writes : (answered NlsPlus 79 (replicate 8 7) ≡ 0) × (left NlsPlus 79 (replicate 8 7) ≡ 0 ∷ 0 ∷ 1 ∷ 2 ∷ 83 ∷ 79 ∷ 7 ∷ 7 ∷ [])
    × (answered NlsPlus 79 (replicate 6 7) ≡ 0) × (left NlsPlus 79 (replicate 6 7) ≡ 0 ∷ 0 ∷ 1 ∷ 2 ∷ 83 ∷ 79 ∷ [])
    × (answered NlsPlus 79 (replicate 5 7) ≡ 18) × (left NlsPlus 79 (replicate 5 7) ≡ 7 ∷ 7 ∷ 7 ∷ 7 ∷ 7 ∷ [])
    × (answered NlsPlus 79 [] ≡ 18) × (left NlsPlus 79 [] ≡ [])
    × (answered NlsPlus 80 (replicate 8 7) ≡ 5) × (left NlsPlus 80 (replicate 8 7) ≡ 7 ∷ 7 ∷ 7 ∷ 7 ∷ 7 ∷ 7 ∷ 7 ∷ 7 ∷ [])
    × (answered NlsPlus 80 (replicate 5 7) ≡ 5) × (left NlsPlus 80 (replicate 5 7) ≡ 7 ∷ 7 ∷ 7 ∷ 7 ∷ 7 ∷ [])
unfolding answered left
writes = (refl, refl, refl, refl, refl, refl, refl, refl, refl, refl, refl, refl)

-- PLS: event O into eleven, ten and nine bytes, and into none; an event that is none into ten
pub writes_digits : (answered Pls 79 (replicate 11 7) ≡ 0)
    × (left Pls 79 (replicate 11 7) ≡ 32 ∷ 32 ∷ 32 ∷ 32 ∷ 32 ∷ 50 ∷ 53 ∷ 56 ∷ 83 ∷ 79 ∷ 7 ∷ [])
    × (answered Pls 79 (replicate 10 7) ≡ 0) × (left Pls 79 (replicate 10 7) ≡ 32 ∷ 32 ∷ 32 ∷ 32 ∷ 32 ∷ 50 ∷ 53 ∷ 56 ∷ 83 ∷ 79 ∷ [])
    × (answered Pls 79 (replicate 9 7) ≡ 18) × (left Pls 79 (replicate 9 7) ≡ replicate 9 7)
    × (answered Pls 79 [] ≡ 18) × (left Pls 79 [] ≡ [])
    × (answered Pls 80 (replicate 10 7) ≡ 5) × (left Pls 80 (replicate 10 7) ≡ replicate 10 7)
unfolding answered left
writes_digits = (refl, refl, refl, refl, refl, refl, refl, refl, refl, refl)
