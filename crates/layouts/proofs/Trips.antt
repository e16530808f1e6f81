-- Demand 2, there and back. Of every edition the record of a message always comes back, in a message of the same length that differs at
-- most in numbers in digits; the bytes come back exactly if each of these is spelt as we write it, as in NLS Plus every message is.
-- Assumes nothing.
use mathlib.Core.Path.{◌≡◌, refl, ap, sym, subst, ◌∙◌}
use mathlib.Core.Logic.{◌↔◌}
use mathlib.Core.Bool.{true, false, ◌&&◌}
use mathlib.Core.List.{List, ◌++◌}
use mathlib.Core.Option.{Option, none, some}
use Prim.Native.Nat.{ℕ, ◌≤◌}
use native.Mathlib.Omega.{arith}
use lib.Dec.{eqb}
use lib.ListN.{length, take, drop}
use lib.Seq.{take_at, drop_at}
use Rattle.octets.specs.Run.{Bytes}
use Rattle.editions.specs.declared.Edition.{Edition}
use Rattle.editions.specs.declared.Edition.TheVariants.{NlsPlus}
use Rattle.answers.specs.Answers.{Answer, number_of}
use Rattle.layout.specs.Forms.{plain, is_numeral}
use Rattle.layout.specs.Tables.{Layout, form_of, bytes_at, Each, spelt_by, plain_by, obeys_by}
use Rattle.layout.proofs.Forms.{both}
use Rattle.layout.proofs.Good.{Good}
use Rattle.layout.proofs.Tables as Laws
use Rattle.layout.proofs.Tables.{all_each, each_all}
use Rattle.records.specs.declared.Record.{Record}
use Rattle.records.specs.Fits.{RecordFits}
use Rattle.records.specs.Held.{read_by, write_by}
use Rattle.records.proofs.Held.{fits_typed, read_written, read_plain, read_outside, written_plain}
use Rattle.formats.specs.Formats.{letter_place, layout_by, letter_in, layout_for, length_by, fields_of, bytes_of}
use Rattle.formats.proofs.Good.{named, sure}
use Rattle.judge.specs.Judged.{lawful_of}
use Rattle.message.specs.Reader.{Reading, accepted_of, read_of}
use Rattle.message.specs.Writer.{write_answer, write_out}
use Rattle.message.specs.Obeying.{Obeys, OurForm, Lawful}
use Rattle.message.proofs.Fitting.{read_fits}
use Rattle.layouts.proofs.Exactly.{obeys_is, letter_of_lem, lawful_is, is_lawful, bytes_as, lawful_as, filled_lawful}
use Rattle.layouts.proofs.Exactly.{filled_long, filled_bytes}
use Rattle.layouts.proofs.Demand2.{done_parts, accepted, long_is, long_bytes, write_done, written_front, write_again}

-- a message is what the writer makes of some record that keeps the rules, in some room
pub record Made (e : Edition) (m : List ℕ) : Type 0 where
  pub from : Record
  pub fits : RecordFits from
  pub lawful : Lawful e from
  pub room : List ℕ
  pub enough : lawful.type.size ≤ length room
  pub left : take lawful.type.size (write_out e from room) ≡ m

-- what comes of a message that is read and written again: the record is written; the message that then stands in the room is as long as the
-- one read, is read as the same record, and is equal outside the numbers in digits; the bytes past it stay
pub record ComesBack (e : Edition) (m out : List ℕ) (a : Answer) (left : List ℕ) : Type 0 where
  pub answered : number_of a ≡ 0
  pub long : length (take (length m) left) ≡ length m
  pub again : read_of e (take (length m) left) ≡ read_of e m
  pub outside : (o : Obeys e m)
      → Each (λ x. is_numeral (form_of x) ≡ false → bytes_at x (take (length m) left) ≡ bytes_at x m) o.type.entries
  pub past : drop (length m) left ≡ drop (length m) out

-- the same bytes come back, and the others stay
abbrev pub Same : (m out left : List ℕ) → Type 0
Same m out left = left ≡ m ++ drop (length m) out

-- the same bytes come back exactly if every number in digits is in our form, exactly if the message is one that the writer makes
pub record BytesBack (e : Edition) (m out left : List ℕ) : Type 0 where
  pub ours : (o : Obeys e m) → Same m out left ↔ OurForm e m o
  pub made : Same m out left ↔ Made e m

-- ---- a message that was read, and a room that it fits into

module _ (e : Edition) (m out : List ℕ) (b : Bytes m) (z : number_of (read_of e m).answer ≡ 0) (h : length m ≤ length out) where
  abbrev found : Record
  found = (read_of e m).found

  -- what the writer leaves where the message was
  abbrev back : List ℕ
  back = take (length m) (write_out e found out)

  abbrev same : Type 0
  same = Same m out (write_out e found out)

  obeyed : Obeys e m
  obeyed = obeys_is e m (done_parts e m z).0

  filled : found ≡ fields_of e m
  filled = (done_parts e m z).1

  lawful : lawful_of e found ≡ true
  lawful = ap (lawful_of e) filled ∙ filled_lawful e m obeyed

  long : length_by e found.letter ≡ length m
  long = ap (λ (r : Record). length_by e r.letter) filled ∙ filled_long e m obeyed

  made_long : length (bytes_of e found) ≡ length m
  made_long = long_bytes e found (read_fits e m b) ∙ long

  done : (number_of (write_answer e found out) ≡ 0) × (write_out e found out ≡ bytes_of e found ++ drop (length (bytes_of e found)) out)
  done =
      let d = write_done e found out lawful (omega (arith, long)) in
      (ap number_of d.0, d.1)

  front : back ≡ bytes_of e found
  front = ap (take (length m)) done.1 ∙ take_at (bytes_of e found) _ (length m) made_long

  good : (o : Obeys e m) → Good (letter_place e) o.type
  good o = named e (letter_in e m) o.type o.typed

  -- by the layout of the message
  by_layout : (o : Obeys e m) → bytes_of e found ≡ write_by o.type (read_by o.type m)
  by_layout o = ap (bytes_of e) filled ∙ filled_bytes e m o

  read_so : read_of e m ≡ accepted_of found
  read_so = accepted e m obeyed ∙ ap accepted_of (sym filled)

  pub read_then_written : ComesBack e m out (write_answer e found out) (write_out e found out)
  read_then_written =
      let w = lawful_is e found lawful in
      let n : w.type.size ≡ length m = sym (long_is e found w) ∙ long in
      record {
        answered = done.0;
        long = ap length front ∙ made_long;
        again =
            ap (λ (k : ℕ). read_of e (take k (write_out e found out))) (sym n)
            ∙ write_again e found out (read_fits e m b) w (omega (arith, n))
            ∙ sym read_so;
        outside =
            λ o.
            subst (λ (x : List ℕ). Each (λ d. is_numeral (form_of d) ≡ false → bytes_at d x ≡ bytes_at d m) o.type.entries)
            (sym (front ∙ by_layout o))
            (read_outside o.type (good o).tiled m b);
        past =
            ap (drop (length m)) done.1
            ∙ drop_at (bytes_of e found) _ (length m) made_long
            ∙ ap (λ (k : ℕ). drop k out) made_long;
      }

  -- ---- the same bytes

  same_bytes : same → bytes_of e found ≡ m
  same_bytes s = sym front ∙ ap (take (length m)) s ∙ take_at m _ (length m) refl

  bytes_same : bytes_of e found ≡ m → same
  bytes_same s = done.1 ∙ ap (λ (x : List ℕ). x ++ drop (length x) out) s

  same_ours : (o : Obeys e m) → same → OurForm e m o
  unfolding plain_by obeys_by
  same_ours o s =
      let l = o.type in
      let y = Laws.is_obeys l m o.obeys in
      let t : spelt_by l m ≡ true = (both {a = eqb (length m) l.size} (both {a = eqb (length m) l.size && spelt_by l m} y).0).1 in
      all_each (λ x. plain (form_of x) (bytes_at x m)) l.entries
      (read_plain l (good o).tiled m b t (sym (by_layout o) ∙ same_bytes s))

  ours_same : (o : Obeys e m) → OurForm e m o → same
  unfolding plain_by
  ours_same o f =
      let l = o.type in
      bytes_same
      (by_layout o
      ∙ read_written l (good o).tiled m b o.obeys.long (each_all (λ x. plain (form_of x) (bytes_at x m)) l.entries f))

  same_made : same → Made e m
  same_made s =
      let w = lawful_is e found lawful in
      let n : w.type.size ≡ length m = sym (long_is e found w) ∙ long in
      record {
        from = found;
        fits = read_fits e m b;
        lawful = w;
        room = out;
        enough = omega (arith, n);
        left = written_front e found out (read_fits e m b) w (omega (arith, n)) ∙ same_bytes s;
      }

  made_same : Made e m → same
  made_same d =
      let r = d.from in
      let a : read_of e m ≡ accepted_of r =
      ap (read_of e) (sym d.left) ∙ write_again e r d.room d.fits d.lawful d.enough in
      let f : found ≡ r = ap (λ (x : Reading). x.found) a in
      bytes_same (ap (bytes_of e) f ∙ sym (written_front e r d.room d.fits d.lawful d.enough) ∙ d.left)

  pub read_again_exactly : BytesBack e m out (write_out e found out)
  read_again_exactly = record { ours = λ o. (same_ours o, ours_same o); made = (same_made, made_same) }

-- ---- what is written is in our form

-- a message has one layout
pub one_type : (e : Edition) (m : List ℕ) (l : Layout) → layout_for e m ≡ some l → (o : Obeys e m) → l ≡ o.type
one_type e m l q o = ap (λ (x : Option Layout). layout_or l x) (sym q ∙ o.typed)
  where
    layout_or : Layout → Option Layout → Layout
    layout_or l none = l
    layout_or l (some k) = k

-- no zero stands before a number that we write, and a whole part of zero is spaces
pub written_ours : (e : Edition) (r : Record) (out : List ℕ) → RecordFits r → (w : Lawful e r) → w.type.size ≤ length out
    → (o : Obeys e (take w.type.size (write_out e r out))) → OurForm e (take w.type.size (write_out e r out)) o
unfolding plain_by
written_ours e r out g w h o =
    let l = w.type in
    let m = take l.size (write_out e r out) in
    let d = named e r.letter l w.typed in
    let f = sym (lawful_as e r l w.typed) ∙ is_lawful e r w in
    let i : m ≡ write_by l r = written_front e r out g w h ∙ bytes_as e r l w.typed in
    let a : fields_of e m ≡ r = ap (λ (x : Reading). x.found) (sym (accepted e m o) ∙ write_again e r out g w h) in
    let t : layout_for e m ≡ some l =
    ap (layout_by e) (sym (letter_of_lem e m o.type o.typed) ∙ ap (λ (x : Record). x.letter) a) ∙ w.typed in
    subst (λ (k : Layout). Each (λ x. plain (form_of x) (bytes_at x m) ≡ true) k.entries) (one_type e m l t o)
    (all_each (λ x. plain (form_of x) (bytes_at x m)) l.entries
    (ap (plain_by l) i ∙ written_plain l d.tiled r (fits_typed r g) f))

-- of NLS Plus every message comes back as it was
pub read_again : (m out : List ℕ) → Bytes m → number_of (read_of NlsPlus m).answer ≡ 0 → length m ≤ length out
    → (number_of (write_answer NlsPlus (read_of NlsPlus m).found out) ≡ 0)
    × (write_out NlsPlus (read_of NlsPlus m).found out ≡ m ++ drop (length m) out)
unfolding plain_by
read_again m out b z h =
    let o = obeyed NlsPlus m out b z h in
    let f = all_each (λ x. plain (form_of x) (bytes_at x m)) o.type.entries ((sure (letter_in NlsPlus m) o.type o.typed).plain m) in
    ((read_then_written NlsPlus m out b z h).answered, ((read_again_exactly NlsPlus m out b z h).ours o).1 f)
