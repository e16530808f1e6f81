-- The laws of every table whose fields tile it: read, then written; written, then read; to obey is to have the length and to be lawful.
-- Assumes nothing.
use mathlib.Core.Path.{◌≡◌, refl, ap, sym, ◌∙◌}
use mathlib.Core.Logic.{◌↔◌}
use mathlib.Core.Bool.{Bool, true, false, cond, not, ◌&&◌, ◌||◌, and-true}
use mathlib.Core.List.{List, [], ◌∷◌, ◌++◌}
use Prim.Native.Nat.{ℕ, suc, ◌+◌}
use native.Mathlib.Nat.{add-zero}
use native.Mathlib.Omega.{arith}
use borrow.Author.Tests.{eqb-true, eq-eqb, not-true}
use lib.Dec.{eqb}
use lib.ListN.{length, drop, get_or, length-append}
use Rattle.octets.specs.Run.{tab, part, Bytes}
use Rattle.octets.proofs.Trips.{join, whole, walk, here, zeros}
use Rattle.layout.specs.Values.{Field, letter, time, event, centre, symbol, class, control, price, size, condition, new_control}
use Rattle.layout.specs.Values.{new_price, new_size, new_condition, high, low, close, consolidated, Value, number, text, Values}
use Rattle.layout.specs.Values.{is_text, is_zero, Room, octet, num, txt, room_of, typed, Typed, sized, Sized, zero_in, zero_of}
use Rattle.layout.specs.Values.{all_fields, place_of, is}
use Rattle.layout.specs.Forms.{Form, byte, big, numeral, chars, reads, writes, keeps, spells, plain, fits, suits}
use Rattle.layout.specs.Forms.{is_numeral}
use Rattle.layout.specs.Tables.{Item, at, Layout, field_of, offset_of, width_of, form_of, lacks, distinct, follows, total, is_byte}
use Rattle.layout.specs.Tables.{marks, tiles, bytes_at, stands, look, written, Each, without, lacked, Obeys, Lawful, all_from}
use Rattle.layout.specs.Tables.{kept_by, lawful_by, fits_by, spelt_by, plain_by, obeys_by}
use Rattle.layout.proofs.Forms.{both, clash, form_length, form_back, form_again, form_kind, form_fits, form_spells, form_sized}
use Rattle.layout.proofs.Forms.{form_plain, form_lean, other_plain, read_sized, typed_sized, zero_typed}

-- ---- a test of each element, and what it says

module _ {A : Type 0} (p : A → Bool) where
  all_never : (xs : List A) → all_from p false xs ≡ false
  all_never [] = refl
  all_never (x ∷ xs) = all_never xs

  pub all_first : (t : Bool) (xs : List A) → all_from p t xs ≡ true → (t ≡ true) × (all_from p true xs ≡ true)
  all_first true xs e = (refl, e)
  all_first false xs e = clash (sym (all_never xs) ∙ e)

  pub all_each : (xs : List A) → all_from p true xs ≡ true → Each (λ x. p x ≡ true) xs
  all_each [] e = tt
  all_each (x ∷ xs) e =
      let q = all_first (p x) xs e in
      (q.0, all_each xs q.1)

  pub each_all : (xs : List A) → Each (λ x. p x ≡ true) xs → all_from p true xs ≡ true
  each_all [] e = refl
  each_all (x ∷ xs) e = rw e.0 (each_all xs e.1)

-- tests that agree of each element
pub all_same : {A : Type 0} (p q : A → Bool) (t : Bool) (xs : List A) → Each (λ x. p x ≡ q x) xs → all_from p t xs ≡ all_from q t xs
all_same p q t [] h = refl
all_same p q t (x ∷ xs) h = ap (λ (c : Bool). all_from p (t && c) xs) h.0 ∙ all_same p q (t && q x) xs h.1

each_map : {A : Type 0} {P Q : A → Type 0} (xs : List A) → ((x : A) → P x → Q x) → Each P xs → Each Q xs
each_map [] f h = tt
each_map (x ∷ xs) f h = (f x h.0, each_map xs f h.1)

-- ---- two fields of one place are one field

field_at : ℕ → Field
field_at n =
    cond (eqb n 0) letter (cond (eqb n 1) time (cond (eqb n 2) event (cond (eqb n 3) centre (cond (eqb n 4) symbol
    (cond (eqb n 5) class (cond (eqb n 6) control (cond (eqb n 7) price (cond (eqb n 8) size (cond (eqb n 9) condition
    (cond (eqb n 10) new_control (cond (eqb n 11) new_price (cond (eqb n 12) new_size (cond (eqb n 13) new_condition
    (cond (eqb n 14) high (cond (eqb n 15) low (cond (eqb n 16) close consolidated))))))))))))))))

abbrev has : Field → List Field → Bool
has f [] = false
has f (g ∷ gs) = is f g || has f gs

-- each field is found by its place, is in the list of all, and lacking is zero
about : (f : Field) → (field_at (place_of f) ≡ f) × (has f all_fields ≡ true) × (is_zero (zero_of f) ≡ true)
unfolding field_at room_of
about letter = (refl, refl, refl)
about time = (refl, refl, refl)
about event = (refl, refl, refl)
about centre = (refl, refl, refl)
about symbol = (refl, refl, refl)
about class = (refl, refl, refl)
about control = (refl, refl, refl)
about price = (refl, refl, refl)
about size = (refl, refl, refl)
about condition = (refl, refl, refl)
about new_control = (refl, refl, refl)
about new_price = (refl, refl, refl)
about new_size = (refl, refl, refl)
about new_condition = (refl, refl, refl)
about high = (refl, refl, refl)
about low = (refl, refl, refl)
about close = (refl, refl, refl)
about consolidated = (refl, refl, refl)

pub same_field : (f g : Field) → is f g ≡ true → f ≡ g
same_field f g e = sym (about f).0 ∙ ap field_at (eqb-true (place_of f) (place_of g) e) ∙ (about g).0

pub zero_is : (f : Field) → is_zero (zero_of f) ≡ true
zero_is f = (about f).2

self : (f : Field) → is f f ≡ true
self f = eq-eqb (place_of f) (place_of f) refl

other : (f g : Field) → not (is f g) ≡ true → is f g ≡ false
other f g e = not-true (is f g) e

-- ---- what a message says of each entry's field is what stands there, if no field is there twice

module _ (m : List ℕ) where
  skip : (e : Item) (rest es : List Item) → lacks (field_of e) es ≡ true → Each (λ d. look rest m (field_of d) ≡ stands d m) es
      → Each (λ d. look (e ∷ rest) m (field_of d) ≡ stands d m) es
  skip e rest [] n h = tt
  skip e rest (d ∷ es) n h =
      let p = both n in
      let q : is (field_of d) (field_of e) ≡ false = flip (field_of e) (field_of d) (other (field_of e) (field_of d) p.0) in
      (rw q h.0, skip e rest es p.1 h.1)
    where
      flip : (f g : Field) → is f g ≡ false → is g f ≡ false
      flip f g e = go (is g f) refl
        where
          go : (t : Bool) → is g f ≡ t → is g f ≡ false
          go false q = q
          go true q = clash (sym e ∙ rw (same_field g f q) (self f))

  found : (es : List Item) → distinct es ≡ true → Each (λ e. look es m (field_of e) ≡ stands e m) es
  found [] d = tt
  found (e ∷ es) d =
      let p = both d in
      (rw (self (field_of e)), skip e es es p.0 (found es p.1))

  -- the letter is the byte at its place
  one_byte : (k : Form) (a o n : ℕ) → suits k n octet ≡ true → is_byte k ≡ true → a ≡ o → reads k (part m a n) ≡ number (get_or m o 0)
  unfolding part tab
  one_byte (byte p) a o n s y i = rw (eqb-true n 1 s, i) (ap (λ (j : ℕ). number (get_or m j 0)) (add-zero o))
  one_byte (big r) a o n s y i = clash y
  one_byte (numeral d r) a o n s y i = clash y
  one_byte (chars p) a o n s y i = clash y

  octet_room : (g : Field) (k : Form) (n : ℕ) → is letter g ≡ true → suits k n (room_of g) ≡ true → suits k n octet ≡ true
  unfolding room_of
  octet_room g k n i s = ap (λ (f : Field). suits k n (room_of f)) (same_field letter g i) ∙ s

  marked : (es : List Item) (o w : ℕ) → follows w es ≡ true → marks o es ≡ true → look es m letter ≡ number (get_or m o 0)
  marked [] o w f e = clash e
  marked (at g a n k ∷ es) o w f e =
      let q = both f in
      go (is letter g) refl (both {a = eqb a w} q.0).1 (λ h. marked es o (w + n) q.1 h)
    where
      go : (t : Bool) → is letter g ≡ t → suits k n (room_of g) ≡ true → (marks o es ≡ true → look es m letter ≡ number (get_or m o 0))
          → look (at g a n k ∷ es) m letter ≡ number (get_or m o 0)
      go false i s r = rw i (r (rw i at e))
      go true i s r =
          let h : eqb a o && is_byte k ≡ true = rw i at e in
          let c = both h in
          rw i (one_byte k a o n (octet_room g k n i s) c.1 (eqb-true a o c.0))

-- ---- (a) read, then written

module _ (m : List ℕ) (b : Bytes m) (v : Values) where
  again : (es : List Item) (o : ℕ) → follows o es ≡ true → all_from (λ e. plain (form_of e) (bytes_at e m)) true es ≡ true
      → Each (λ e. v (field_of e) ≡ stands e m) es → written es v ≡ part m o (total es)
  unfolding part tab
  again [] o f t h = refl
  again (at g a n k ∷ es) o f t h =
      let p = both f in
      let q = both p.0 in
      let s = all_first (λ e. plain (form_of e) (bytes_at e m)) (plain k (part m a n)) es t in
      let e : a ≡ o = eqb-true a o q.0 in
      let w : writes k n (v g) ≡ part m a n = ap (writes k n) h.0 ∙ form_again k m a n (room_of g) b q.1 s.0 in
      let r : written es v ≡ part m (o + n) (total es) = again es (o + n) p.1 s.1 h.1 in
      rw (w, r, e) (join m o n (total es) (o + n) refl)

-- ---- (b) written, then read

module _ (v : Values) where
  abbrev fit : Item → Bool
  fit e = fits (form_of e) (width_of e) (v (field_of e))

  -- an entry's bytes are where they were written, and the rest stands behind them
  placed : (m : List ℕ) (g : Field) (a n : ℕ) (k : Form) (es : List Item) (o : ℕ) → follows o (at g a n k ∷ es) ≡ true
      → length (writes k n (v g)) ≡ n
      → drop o m ≡ written (at g a n k ∷ es) v → (part m a n ≡ writes k n (v g)) × (drop (o + n) m ≡ written es v)
  placed m g a n k es o s l d =
      let e : a ≡ o = eqb-true a o (both (both s).0).0 in
      (rw e (here m o n (writes k n (v g)) (written es v) d l), walk m o n (o + n) (writes k n (v g)) (written es v) d l refl)

  back : (m : List ℕ) (f : Field) (es : List Item) (o : ℕ) → follows o es ≡ true → all_from fit true es ≡ true → drop o m ≡ written es v
      → (lacks f es ≡ true → zero_of f ≡ v f) → look es m f ≡ v f
  back m f [] o s t d z = z refl
  back m f (at g a n k ∷ es) o s t d z =
      let p = both s in
      let q = both {a = eqb a o} p.0 in
      let u = all_first fit (fits k n (v g)) es t in
      let x = placed m g a n k es o s (form_length k n (v g) (room_of g) q.1 u.0) d in
      let y : reads k (part m a n) ≡ v g = ap (reads k) x.0 ∙ form_back k n (v g) (room_of g) q.1 u.0 in
      go (is f g) refl y (λ z. back m f es (o + n) p.1 u.1 x.1 z)
    where
      go : (t : Bool) → is f g ≡ t → reads k (part m a n) ≡ v g → ((lacks f es ≡ true → zero_of f ≡ v f) → look es m f ≡ v f)
          → look (at g a n k ∷ es) m f ≡ v f
      go true e y r = rw e (y ∙ ap v (sym (same_field f g e)))
      go false e y r = rw e (r (λ h. z (rw e h)))

  -- what is written passes a test of each field's bytes, if what is written of each value does
  module _ (test : Form → List ℕ → Bool)
      (law : (k : Form) (n : ℕ) (x : Value) (z : Room) → suits k n z ≡ true → fits k n x ≡ true → test k (writes k n x) ≡ true) where
    passes : (m : List ℕ) (es : List Item) (o : ℕ) → follows o es ≡ true → all_from fit true es ≡ true → drop o m ≡ written es v
        → all_from (λ e. test (form_of e) (bytes_at e m)) true es ≡ true
    passes m [] o s t d = refl
    passes m (at g a n k ∷ es) o s t d =
        let p = both s in
        let q = both {a = eqb a o} p.0 in
        let u = all_first fit (fits k n (v g)) es t in
        let x = placed m g a n k es o s (form_length k n (v g) (room_of g) q.1 u.0) d in
        let y : test k (part m a n) ≡ true = ap (test k) x.0 ∙ law k n (v g) (room_of g) q.1 u.0 in
        rw y (passes m es (o + n) p.1 u.1 x.1)

  -- what stood in a message and was read into the values is there again, but for digits
  module _ (m : List ℕ) (b : Bytes m) where
    kept_outside : (m' : List ℕ) (es : List Item) (o : ℕ) → follows o es ≡ true → Sized v → drop o m' ≡ written es v
        → Each (λ e. v (field_of e) ≡ stands e m) es → Each (λ e. is_numeral (form_of e) ≡ false → bytes_at e m' ≡ bytes_at e m) es
    kept_outside m' [] o s y d h = tt
    kept_outside m' (at g a n k ∷ es) o s y d h =
        let p = both s in
        let q = both {a = eqb a o} p.0 in
        let x = placed m' g a n k es o s (form_sized k n (v g) (room_of g) q.1 (y g)) d in (
          λ z. x.0 ∙ ap (writes k n) h.0 ∙ form_again k m a n (room_of g) b q.1 (other_plain k (part m a n) z),
          kept_outside m' es (o + n) p.1 y x.1 h.1,
        )

    -- what is written as it stood was plain
    plain_all : (es : List Item) (o : ℕ) → follows o es ≡ true → Sized v → drop o m ≡ written es v
        → Each (λ e. v (field_of e) ≡ stands e m) es → all_from (λ e. spells (form_of e) (bytes_at e m)) true es ≡ true
        → all_from (λ e. plain (form_of e) (bytes_at e m)) true es ≡ true
    plain_all [] o s y d h t = refl
    plain_all (at g a n k ∷ es) o s y d h t =
        let p = both s in
        let q = both {a = eqb a o} p.0 in
        let x = placed m g a n k es o s (form_sized k n (v g) (room_of g) q.1 (y g)) d in
        let u = all_first (λ e. spells (form_of e) (bytes_at e m)) (spells k (part m a n)) es t in
        let w : writes k n (reads k (part m a n)) ≡ part m a n = ap (writes k n) (sym h.0) ∙ sym x.0 in
        rw (form_plain k m a n (room_of g) q.1 u.0 w) (plain_all es (o + n) p.1 y x.1 h.1 u.1)

  written_length : (es : List Item) (o : ℕ) → follows o es ≡ true → Sized v → length (written es v) ≡ total es
  written_length [] o s y = refl
  written_length (at g a n k ∷ es) o s y =
      let p = both s in
      let q = both {a = eqb a o} p.0 in
      simp (length-append, form_sized k n (v g) (room_of g) q.1 (y g), written_length es (o + n) p.1 y)

  -- what keeps its rules has room
  fit_all : (es : List Item) (o : ℕ) → follows o es ≡ true → Typed v → all_from (λ e. keeps (form_of e) (v (field_of e))) true es ≡ true
      → all_from fit true es ≡ true
  fit_all [] o s y k = refl
  fit_all (at g a n k ∷ es) o s y t =
      let p = both s in
      let q = both {a = eqb a o} p.0 in
      let u = all_first (λ e. keeps (form_of e) (v (field_of e))) (keeps k (v g)) es t in
      rw (form_fits k n (v g) (room_of g) q.1 (y g) u.0) (fit_all es (o + n) p.1 y u.1)

-- ---- fields that a table lacks

unread : (es : List Item) (m : List ℕ) (f : Field) → lacks f es ≡ true → look es m f ≡ zero_of f
unread [] m f h = refl
unread (e ∷ es) m f h =
    let p = both h in
    rw (other f (field_of e) p.0) (unread es m f p.1)

-- nothing is read into them
none_read : (es : List Item) (m : List ℕ) (t : Bool) (fs : List Field) → all_from (λ f. is_zero (look es m f)) t (without es fs) ≡ t
none_read es m t [] = refl
none_read es m t (f ∷ fs) = go (lacks f es) refl (none_read es m t fs)
  where
    go : (x : Bool) → lacks f es ≡ x → all_from (λ g. is_zero (look es m g)) t (without es fs) ≡ t
        → all_from (λ g. is_zero (look es m g)) t (without es (f ∷ fs)) ≡ t
    go false e r = rw e r
    go true e r = rw e (ap (λ (x : Bool). all_from (λ g. is_zero (look es m g)) x (without es fs)) zero ∙ r)
      where
        zero : t && is_zero (look es m f) ≡ t
        zero = rw (unread es m f e, (about f).2) (and-true t)

-- where all that a table lacks is zero, each of them is
module _ (es : List Item) (v : Values) where
  empty_of : (f : Field) (fs : List Field) → all_from (λ g. is_zero (v g)) true (without es fs) ≡ true → has f fs ≡ true → lacks f es ≡ true
      → is_zero (v f) ≡ true
  empty_of f [] e h l = clash h
  empty_of f (g ∷ gs) e h l = go (is f g) refl (λ a b. empty_of f gs a b l)
    where
      here_g : f ≡ g → is_zero (v f) ≡ true
      here_g q =
          let n : lacks g es ≡ true = rw q at l in
          let c : all_from (λ x. is_zero (v x)) (is_zero (v g)) (without es gs) ≡ true = rw n at e in
          rw q (all_first (λ x. is_zero (v x)) (is_zero (v g)) (without es gs) c).0

      rest : (t : Bool) → lacks g es ≡ t → all_from (λ x. is_zero (v x)) true (without es gs) ≡ true
      rest true n =
          let c : all_from (λ x. is_zero (v x)) (is_zero (v g)) (without es gs) ≡ true = rw n at e in
          (all_first (λ x. is_zero (v x)) (is_zero (v g)) (without es gs) c).1
      rest false n = rw n at e

      go : (t : Bool) → is f g ≡ t → (all_from (λ x. is_zero (v x)) true (without es gs) ≡ true → has f gs ≡ true → is_zero (v f) ≡ true)
          → is_zero (v f) ≡ true
      go true q r = here_g (same_field f g q)
      go false q r = r (rest (lacks g es) refl) (rw q at h)

-- a value that is zero is its room's zero
zero_of_lem : (z : Room) (v : Value) → is_zero v ≡ true → typed z v ≡ true → zero_in z ≡ v
zero_of_lem octet (number x) e h = ap number (sym (eqb-true x 0 e))
zero_of_lem octet (text xs) e h = clash h
zero_of_lem (num b) (number x) e h = ap number (sym (eqb-true x 0 e))
zero_of_lem (num b) (text xs) e h = clash h
zero_of_lem (txt c) (number x) e h = clash h
zero_of_lem (txt c) (text xs) e h = ap text (sym (zeros xs c (eqb-true (length xs) c h) e))

-- what is read of a field is of its kind
read_kind : (es : List Item) (m : List ℕ) (o : ℕ) (f : Field) → follows o es ≡ true → is_text (look es m f) ≡ is_text (zero_of f)
read_kind [] m o f s = refl
read_kind (at g a n k ∷ es) m o f s =
    let p = both s in
    let q = both {a = eqb a o} p.0 in
    go (is f g) refl q.1 (read_kind es m (o + n) f p.1)
  where
    go : (t : Bool) → is f g ≡ t → suits k n (room_of g) ≡ true → is_text (look es m f) ≡ is_text (zero_of f)
        → is_text (look (at g a n k ∷ es) m f) ≡ is_text (zero_of f)
    go true e u r = rw (e, same_field f g e) (form_kind k n (room_of g) (part m a n) u)
    go false e u r = rw e r

-- and has its length
look_sized : (es : List Item) (m : List ℕ) (o : ℕ) (f : Field) → follows o es ≡ true → sized (room_of f) (look es m f) ≡ true
look_sized [] m o f s = typed_sized (room_of f) (zero_of f) (zero_typed (room_of f))
look_sized (at g a n k ∷ es) m o f s =
    let p = both s in
    let q = both {a = eqb a o} p.0 in
    go (is f g) refl q.1 (look_sized es m (o + n) f p.1)
  where
    go : (t : Bool) → is f g ≡ t → suits k n (room_of g) ≡ true → sized (room_of f) (look es m f) ≡ true
        → sized (room_of f) (look (at g a n k ∷ es) m f) ≡ true
    go true e u r = rw (e, same_field f g e) (read_sized k m a n (room_of g) u)
    go false e u r = rw e r

-- ---- what is said is what is tested

module _ (l : Layout) where
  pub obeys_is : (m : List ℕ) → obeys_by l m ≡ true → Obeys l m
  unfolding obeys_by spelt_by
  obeys_is m o =
      let p = both o in
      let q = both p.0 in
      record {
        long = eqb-true (length m) l.size q.0;
        spelt = all_each (λ e. spells (form_of e) (bytes_at e m)) l.entries q.1;
        kept = all_each (λ e. keeps (form_of e) (stands e m)) l.entries p.1;
      }

  pub is_obeys : (m : List ℕ) → Obeys l m → obeys_by l m ≡ true
  unfolding obeys_by spelt_by
  is_obeys m o =
      rw (
        eq-eqb (length m) l.size o.long,
        each_all (λ e. spells (form_of e) (bytes_at e m)) l.entries o.spelt,
        each_all (λ e. keeps (form_of e) (stands e m)) l.entries o.kept,
      )

  pub lawful_is : (v : Values) → lawful_by l v ≡ true → Lawful l v
  unfolding lawful_by kept_by
  lawful_is v o =
      let p = all_first (λ f. is_zero (v f)) (kept_by l v) (lacked l) o in
      record {
        kept = all_each (λ e. keeps (form_of e) (v (field_of e))) l.entries p.0;
        empty = all_each (λ f. is_zero (v f)) (lacked l) p.1;
      }

  pub is_lawful : (v : Values) → Lawful l v → lawful_by l v ≡ true
  unfolding lawful_by kept_by
  is_lawful v w =
      rw (each_all (λ e. keeps (form_of e) (v (field_of e))) l.entries w.kept) (each_all (λ f. is_zero (v f)) (lacked l) w.empty)

-- ---- every layout that is tiled

module _ (l : Layout) (t : tiles l ≡ true) where
  abbrev es : List Item
  es = l.entries

  abbrev parts : (follows 0 es ≡ true) × (total es ≡ l.size) × (distinct es ≡ true) × (marks l.place es ≡ true)
  unfolding tiles
  parts =
      let p = both t in
      let q = both p.0 in
      let r = both q.0 in
      (r.0, eqb-true (total es) l.size r.1, q.1, p.1)

  -- each entry's field is read from its place
  pub layout_found : (m : List ℕ) → Each (λ e. look es m (field_of e) ≡ stands e m) es
  layout_found m = found m es parts.2

  -- and nothing is read into the others
  pub layout_none : (m : List ℕ) → Each (λ f. is_zero (look es m f) ≡ true) (lacked l)
  unfolding lacked
  layout_none m = all_each (λ f. is_zero (look es m f)) (lacked l) (none_read es m true all_fields)

  pub layout_sized : (m : List ℕ) → Sized (look es m)
  layout_sized m f = look_sized es m 0 f parts.0

  pub layout_kinds : (m : List ℕ) (f : Field) → is_text (look es m f) ≡ is_text (zero_of f)
  layout_kinds m f = read_kind es m 0 f parts.0

  -- the letter is read from the layout's place
  pub layout_letter : (m : List ℕ) → look es m letter ≡ number (get_or m l.place 0)
  layout_letter m = marked m es l.place 0 parts.0 parts.3

  -- (a) bytes that are plain are written as they were read
  pub layout_again : (m : List ℕ) → Bytes m → length m ≡ l.size → plain_by l m ≡ true → written es (look es m) ≡ m
  unfolding plain_by
  layout_again m b h p = again m b (look es m) es 0 parts.0 p (layout_found m) ∙ whole m (total es) (h ∙ sym parts.1)

  -- and bytes that are spelt and are written as they were read are plain
  pub layout_plain : (m : List ℕ) → Bytes m → spelt_by l m ≡ true → written es (look es m) ≡ m → plain_by l m ≡ true
  unfolding plain_by spelt_by
  layout_plain m b t e = plain_all (look es m) m b es 0 parts.0 (layout_sized m) (sym e) (layout_found m) t

  -- and all but digits is written as it was read
  pub layout_outside : (m : List ℕ) → Bytes m
      → Each (λ e. is_numeral (form_of e) ≡ false → bytes_at e (written es (look es m)) ≡ bytes_at e m) es
  layout_outside m b = kept_outside (look es m) m b (written es (look es m)) es 0 parts.0 (layout_sized m) refl (layout_found m)

  -- (b) what is lawful has room, and is read as it was written
  pub lawful_fits : (v : Values) → Typed v → lawful_by l v ≡ true → fits_by l v ≡ true
  unfolding fits_by lawful_by kept_by
  lawful_fits v y o = fit_all v es 0 parts.0 y (all_first (λ f. is_zero (v f)) (kept_by l v) (lacked l) o).0

  pub layout_back : (v : Values) → Typed v → lawful_by l v ≡ true → (f : Field) → look es (written es v) f ≡ v f
  unfolding fits_by lawful_by lacked
  layout_back v y o f =
      let e = (all_first (λ g. is_zero (v g)) (kept_by l v) (lacked l) o).1 in
      back v (written es v) f es 0 parts.0 (lawful_fits v y o) refl
      (λ h. zero_of_lem (room_of f) (v f) (empty_of es v f all_fields e (about f).1 h) (y f))

  -- what is written has the length, and is spelt
  pub layout_long : (v : Values) → Sized v → length (written es v) ≡ l.size
  layout_long v y = written_length v es 0 parts.0 y ∙ parts.1

  pub layout_spelt : (v : Values) → fits_by l v ≡ true → spelt_by l (written es v) ≡ true
  unfolding fits_by spelt_by
  layout_spelt v g = passes v spells form_spells (written es v) es 0 parts.0 g refl

  -- in the form that we write
  pub layout_lean : (v : Values) → fits_by l v ≡ true → plain_by l (written es v) ≡ true
  unfolding fits_by plain_by
  layout_lean v g = passes v plain form_lean (written es v) es 0 parts.0 g refl

  -- (c) the rules of what is read are those of the bytes, and then it is lawful
  pub layout_kept : (m : List ℕ) → kept_by l (look es m) ≡ all_from (λ e. keeps (form_of e) (stands e m)) true es
  unfolding kept_by
  layout_kept m =
      all_same (λ e. keeps (form_of e) (look es m (field_of e))) (λ e. keeps (form_of e) (stands e m)) true es
      (each_map {P = λ e. look es m (field_of e) ≡ stands e m} es (λ e h. ap (keeps (form_of e)) h) (layout_found m))

  pub layout_lawful : (m : List ℕ) → kept_by l (look es m) ≡ lawful_by l (look es m)
  unfolding lawful_by lacked
  layout_lawful m = sym (none_read es m (kept_by l (look es m)) all_fields)

  -- a message obeys exactly if it has the length, is spelt, and what is read is lawful
  pub layout_obeys : (m : List ℕ) → obeys_by l m ≡ eqb (length m) l.size && spelt_by l m && lawful_by l (look es m)
  unfolding obeys_by
  layout_obeys m = ap (λ (x : Bool). eqb (length m) l.size && spelt_by l m && x) (sym (layout_kept m) ∙ layout_lawful m)
