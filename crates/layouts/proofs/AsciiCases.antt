-- PLS by hand: messages and records with what reading and writing them answers and gives. The figures come from documents 01 and 02 and
-- from no definition. A message of each type obeys, one of them in our form and one not, so that no statement about these is empty.
-- Assumes nothing.
use mathlib.Core.Path.{◌≡◌, refl, ap, sym, subst}
use mathlib.Core.Logic.{◌↔◌}
use mathlib.Core.Bool.{true}
use mathlib.Core.Option.{some}
use mathlib.Core.List.{List, [], ◌∷◌, ◌++◌, map}
use Prim.Native.Nat.{ℕ}
use Prim.Native.String.{String}
use lib.ListN.{drop, get_or, replicate}
use Rattle.octets.specs.Run.{tab, part}
use Rattle.texts.specs.Text.{text}
use Rattle.conditions.specs.Conditions.{level_at, condition_marks}
use Rattle.kinds.specs.declared.Kind.TheVariants.{Event, Trade, Cancel, Correction}
use Rattle.kinds.specs.Kinds.{kind_of}
use Rattle.answers.specs.Answers.{number_of}
use Rattle.editions.specs.declared.Edition.TheVariants.{Pls}
use Rattle.decimal.specs.Letters.{letters}
use Rattle.decimal.specs.Decimal as Decimal
use Rattle.digits.specs.Field as Field
use Rattle.layout.specs.Values.{room_of}
use Rattle.layout.specs.Forms.{plain}
use Rattle.layout.proofs.Forms.{clash}
use Rattle.layout.specs.Tables.{Layout, form_of, bytes_at, Each, spelt_by, obeys_by, kept_by, lawful_by, lacked}
use Rattle.records.specs.declared.Sale.{Sale}
use Rattle.records.specs.declared.Record.{Record}
use Rattle.records.specs.Zeros.{no_sale}
use Rattle.records.specs.Held.{holds, sale_from, new_from, record_from, read_by, write_by}
use Rattle.pls.specs.Layouts.{layout_s, layout_t, layout_c}
use Rattle.formats.specs.Formats.{letter_in, layout_for, length_by, bytes_of}
use Rattle.judge.specs.Judged.{lawful_of}
use Rattle.message.specs.Reader.{read_in, read_of}
use Rattle.message.specs.Writer.{write_answer, write_out}
use Rattle.message.specs.Obeying.{Obeys, OurForm}
use Rattle.layouts.proofs.Demand2.{read_exactly}
use Rattle.layouts.proofs.Trips.{one_type}

-- ---- reading

-- what the reader answers to the bytes of a text
unfoldable pub answer_to : String → ℕ
unfolding tab part text level_at condition_marks kind_of spelt_by obeys_by layout_s layout_t layout_c read_in read_of Field.spelt Field.value_of
answer_to m = number_of (read_of Pls (letters m)).answer

-- the record that it hands back
unfoldable pub found_in : String → Record
unfolding tab part text level_at condition_marks kind_of spelt_by obeys_by layout_s layout_t layout_c read_in read_of Field.spelt Field.value_of read_by
    record_from sale_from new_from room_of
found_in m = (read_of Pls (letters m)).found

-- events: a time of one digit, of zeros before it, of spaces alone; the last millisecond and the one past it; the digit 0 for an O; a small
-- letter; a space behind a digit, a sign, a point; nine bytes, eleven, none
pub events : map answer_to
    ("       0SO" ∷ "00000000SO" ∷ "        SO" ∷ "86399999SC" ∷ "86400000SC" ∷ "       0S0" ∷ "       0sO" ∷ "      0 SO" ∷ "      -1SO"
    ∷ "     1.0SO" ∷ "      0SO" ∷ "       0SO " ∷ "" ∷ [])
    ≡ 0 ∷ 0 ∷ 5 ∷ 0 ∷ 5 ∷ 5 ∷ 4 ∷ 5 ∷ 5 ∷ 5 ∷ 4 ∷ 4 ∷ 4 ∷ []
unfolding answer_to
events = refl

-- trades: as they come; a price of 0.0001 behind spaces and behind zeros; three decimals; the highest price, one more, and one that four
-- bytes would take for 1; the largest size, none, and one behind zeros
pub trades : map answer_to
    ("34200000TXABCD    Q1             251000      100@   "
    ∷ "34200000TXABCD    Q1               0001      100@   "
    ∷ "34200000TXABCD    Q1         0000000001      100@   "
    ∷ "34200000TXABCD    Q1                001      100@   "
    ∷ "34200000TXABCD    Q1         2000000000      100@   "
    ∷ "34200000TXABCD    Q1         2000000001      100@   "
    ∷ "34200000TXABCD    Q1         4294967297      100@   "
    ∷ "34200000TXABCD    Q1             251000999999999@   "
    ∷ "34200000TXABCD    Q1             251000        0@   "
    ∷ "34200000TXABCD    Q1             251000000000100@   "
    ∷ [])
    ≡ 0 ∷ 0 ∷ 0 ∷ 5 ∷ 0 ∷ 5 ∷ 5 ∷ 0 ∷ 5 ∷ 0 ∷ []
unfolding answer_to
trades = refl

-- class B and centre Q, which NLS Plus has; a cancel; a correction; a J; a T that is one byte short
pub others : map answer_to
    ("34200000TXABCD    B1             251000      100@   "
    ∷ "34200000TQABCD    Q1             251000      100@   "
    ∷ "34200000XXABCD    Q1             251000      100@   "
    ∷ "34200000CXABCD    Q1             251000      100@   9             252500      120@   "
    ∷ "34200000J                         "
    ∷ "34200000TXABCD    Q1             251000      100@  "
    ∷ [])
    ≡ 5 ∷ 5 ∷ 0 ∷ 0 ∷ 4 ∷ 4 ∷ []
unfolding answer_to
others = refl

-- the fields of a correction, each from its place
pub corrected : found_in "34200000CXABCD    Q1             251000      100@  I9             252500      120@6  "
    ≡ record {
      letter = 67;
      time = 34200000;
      event = 0;
      centre = 88;
      symbol = letters "ABCD    ";
      class = 81;
      sale = record { control = letters "1         "; price = 251000; size = 100; condition = letters "@  I" };
      new = record { control = letters "9         "; price = 252500; size = 120; condition = letters "@6  " };
      high = 0;
      low = 0;
      close = 0;
      consolidated = 0;
    }
unfolding found_in
corrected = refl

-- ---- writing

-- a trade at time 0 with a price, a size and a consolidated volume
abbrev trade : ℕ → ℕ → ℕ → Record
trade price size volume =
    record {
      letter = 84;
      time = 0;
      event = 0;
      centre = 88;
      symbol = letters "ABCD    ";
      class = 81;
      sale = record { control = letters "1         "; price = price; size = size; condition = letters "@   " };
      new = no_sale;
      high = 0;
      low = 0;
      close = 0;
      consolidated = volume;
    }

-- the same with a close, under a letter
abbrev closed : ℕ → Record
closed letter =
    record {
      letter = letter;
      time = 0;
      event = 0;
      centre = 88;
      symbol = letters "ABCD    ";
      class = 81;
      sale = record { control = letters "1         "; price = 1; size = 1; condition = letters "@   " };
      new = no_sale;
      high = 0;
      low = 0;
      close = 1;
      consolidated = 0;
    }

unfoldable pub answer_of : Record → ℕ → ℕ
unfolding write_answer lawful_of length_by kind_of layout_s layout_t layout_c lawful_by kept_by lacked holds text level_at condition_marks
answer_of r space = number_of (write_answer Pls r (replicate space 7))

unfoldable pub left_by : Record → ℕ → List ℕ
unfolding write_out lawful_of length_by kind_of layout_s layout_t layout_c lawful_by kept_by lacked holds text level_at condition_marks bytes_of
    write_by Field.shown_in Decimal.lowest Decimal.digit_count
left_by r space = write_out Pls r (replicate space 7)

-- no zeros before a number, a whole part of zero as six spaces, and what stands behind the message stays
pub written : (answer_of (trade 1 1 0) 52 ≡ 0)
    × (left_by (trade 1 1 0) 52 ≡ letters "       0TXABCD    Q1               0001        1@   ")
    × (answer_of (trade 10000 1 0) 54 ≡ 0)
    × (left_by (trade 10000 1 0) 54 ≡ letters "       0TXABCD    Q1              10000        1@   " ++ (7 ∷ 7 ∷ []))
    × (left_by (trade 2000000000 999999999 0) 52 ≡ letters "       0TXABCD    Q1         2000000000999999999@   ")
unfolding answer_of left_by
written = (refl, refl, refl, refl, refl)

-- a size that nine digits do not hold, a consolidated volume, a price of 0, a J, a T with a close; a space one byte short
pub unwritten : (answer_of (trade 1 1000000000 0) 52 ≡ 5) × (answer_of (trade 1 1 1) 52 ≡ 5) × (answer_of (trade 0 1 0) 52 ≡ 5)
    × (answer_of (closed 74) 52 ≡ 5) × (answer_of (closed 84) 52 ≡ 5)
    × (answer_of (trade 1 1 0) 51 ≡ 18) × (left_by (trade 1 1 0) 51 ≡ replicate 51 7)
unfolding answer_of left_by
unwritten = (refl, refl, refl, refl, refl, refl, refl)

-- ---- there and back

-- zeros before a time do not come back, and what was in our form does
pub back : (left_by (found_in "00000000SO") 10 ≡ letters "       0SO") × (left_by (found_in "       0SO") 10 ≡ letters "       0SO")
    × (left_by (found_in "34200000CXABCD    Q1         0000251000000000100@  I9             252500      120@6  ") 85
    ≡ letters "34200000CXABCD    Q1             251000      100@  I9             252500      120@6  ")
unfolding found_in left_by
back = (refl, refl, refl)

-- ---- a message of each type that obeys

abbrev samples : List String
samples =
    "       0SO"
    ∷ "34200000TXABCD    Q1             251000      100@   "
    ∷ "34200000XXABCD    Q1             251000      100@   "
    ∷ "34200000CXABCD    Q1             251000      100@  I9             252500      120@6  "
    ∷ []

-- the second of these in another form
abbrev unlike : String
unlike = "34200000TXABCD    Q1         0000251000      100@   "

obeys_each : (ms : List String) → map answer_to ms ≡ map (λ m. 0) ms → Each (λ m. Obeys Pls (letters m)) ms
unfolding answer_to
obeys_each [] h = tt
obeys_each (m ∷ ms) h =
    ((read_exactly Pls (letters m)).zero.0 (ap (λ (ns : List ℕ). get_or ns 0 0) h), obeys_each ms (ap (drop 1) h))

pub record SomeObey : Type 0 where
  pub types : map (λ m. kind_of (letter_in Pls (letters m))) samples ≡ Event ∷ Trade ∷ Cancel ∷ Correction ∷ []
  pub obey : Each (λ m. Obeys Pls (letters m)) samples
  pub ours : (o : Obeys Pls (letters "       0SO")) → OurForm Pls (letters "       0SO") o
  pub other : (o : Obeys Pls (letters unlike)) → OurForm Pls (letters unlike) o → ⊥

-- by a layout that the message is known to have, and by any
ours_by : (m : String) (l : Layout) → layout_for Pls (letters m) ≡ some l → (o : Obeys Pls (letters m))
    → (Each (λ x. plain (form_of x) (bytes_at x (letters m)) ≡ true) l.entries) ↔ OurForm Pls (letters m) o
ours_by m l q o =
    let e = one_type Pls (letters m) l q o in (
      subst (λ (k : Layout). Each (λ x. plain (form_of x) (bytes_at x (letters m)) ≡ true) k.entries) e,
      subst (λ (k : Layout). Each (λ x. plain (form_of x) (bytes_at x (letters m)) ≡ true) k.entries) (sym e),
    )

pub some_obey : SomeObey
unfolding kind_of answer_to part tab Field.spelt Field.lean layout_s layout_t
some_obey =
    record {
      types = refl;
      obey = obeys_each samples refl;
      ours = λ o. (ours_by "       0SO" layout_s refl o).0 (refl, (refl, (refl, tt)));
      other = λ o f.
          let g = (ours_by unlike (layout_t 84) refl o).1 f in
          clash g.1.1.1.1.1.1.0;
    }
