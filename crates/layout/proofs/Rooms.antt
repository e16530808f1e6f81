-- What is read from bytes that can be stored has room in a record, and its texts and its one-byte numbers are bytes. What keeps its rule
-- can be stored.
-- Assumes nothing.
use mathlib.Core.Path.{◌≡◌, refl, sym, ◌∙◌}
use mathlib.Core.Bool.{Bool, true, false, ◌&&◌}
use mathlib.Core.List.{List, [], ◌∷◌}
use Prim.Native.Nat.{ℕ, ◌^◌, ◌<◌}
use native.Mathlib.Omega.{arith}
use borrow.Author.Tests.{eqb-true, eq-eqb, leb-true, ltb-true, lt-ltb}
use lib.Dec.{eqb, leb, ltb, lit<}
use lib.ListN.{length}
use Rattle.octets.specs.Run.{part, Bytes}
use Rattle.octets.proofs.Laws.{part_length}
use Rattle.octets.proofs.Bytes.{part_bytes, zeros_bytes}
use Rattle.numbers.specs.Number.{be}
use Rattle.numbers.proofs.Laws.{be_below}
use Rattle.digits.specs.Field.{spelt, value_of}
use Rattle.layout.specs.Values.{Field, Value, number, text, Room, octet, num, txt, room_of, typed, Typed, zero_in, is}
use Rattle.layout.specs.Forms.{Range, any, up_to, within, inside, Form, byte, big, numeral, chars, reads, keeps, spells}
use Rattle.layout.specs.Forms.{bounded, narrow, ready}
use Rattle.layout.specs.Tables.{Item, at, field_of, form_of, bytes_at, stands, look, all_from, all_narrow}
use Rattle.layout.proofs.Forms.{both, clash, zero_typed}
use Rattle.layout.proofs.Tables.{all_first, same_field}

-- each field of some lines of a table can be stored
abbrev pub all_ready : List ℕ → List Item → Bool
all_ready m es = all_from (λ e. ready (form_of e) (room_of (field_of e)) (bytes_at e m)) true es

module _ (m : List ℕ) (b : Bytes m) where
  one_typed : (k : Form) (o n : ℕ) (z : Room) → narrow k n z ≡ true → ready k z (part m o n) ≡ true
      → typed z (reads k (part m o n)) ≡ true
  one_typed (byte p) o n octet e y = refl
  one_typed (byte p) o n (num c) e y = clash e
  one_typed (byte p) o n (txt c) e y = clash e
  one_typed (big r) o n octet e y = clash e
  one_typed (big r) o n (num c) e y = lt-ltb (be (part m o n)) (2 ^ c) (omega (arith, be_below m o n b, leb-true (256 ^ n) (2 ^ c) e))
  one_typed (big r) o n (txt c) e y = clash e
  one_typed (numeral d r) o n octet e y = clash e
  one_typed (numeral d r) o n (num c) e y = (both {a = spelt d (part m o n)} y).1
  one_typed (numeral d r) o n (txt c) e y = clash e
  one_typed (chars p) o n octet e y = clash e
  one_typed (chars p) o n (num c) e y = clash e
  one_typed (chars p) o n (txt c) e y = eq-eqb (length (part m o n)) c (part_length m o n ∙ sym (eqb-true c n e))

  pub look_typed : (es : List Item) → all_narrow es ≡ true → all_ready m es ≡ true → Typed (look es m)
  look_typed [] e y f = zero_typed (room_of f)
  look_typed (at g o n k ∷ es) e y f =
      let p = both e in
      let q = all_first (λ d. ready (form_of d) (room_of (field_of d)) (bytes_at d m)) (ready k (room_of g) (part m o n)) es y in
      go (is f g) refl (one_typed k o n (room_of g) p.0 q.0) (look_typed es p.1 q.1 f)
    where
      go : (t : Bool) → is f g ≡ t → typed (room_of g) (reads k (part m o n)) ≡ true → typed (room_of f) (look es m f) ≡ true
          → typed (room_of f) (look (at g o n k ∷ es) m f) ≡ true
      go true q x r = rw (q, same_field f g q) x
      go false q x r = rw q r

-- ---- what keeps its rule can be stored

in_bound : (r : Range) (bound x : ℕ) → bounded r bound ≡ true → inside r x ≡ true → ltb x bound ≡ true
in_bound any bound x e i = clash e
in_bound (up_to top) bound x e i = lt-ltb x bound (omega (arith, leb-true x top i, ltb-true top bound e))
in_bound (within least top) bound x e i =
    lt-ltb x bound (omega (arith, leb-true x top (both {a = leb least x} i).1, ltb-true top bound e))

one_ready : (k : Form) (n : ℕ) (z : Room) (xs : List ℕ) → narrow k n z ≡ true → spells k xs ≡ true → keeps k (reads k xs) ≡ true
    → ready k z xs ≡ true
one_ready (byte p) n z xs e s q = refl
one_ready (big r) n z xs e s q = refl
one_ready (numeral d r) n octet xs e s q = clash e
one_ready (numeral d r) n (num b) xs e s q = rw s (in_bound r (2 ^ b) (value_of d xs) e q)
one_ready (numeral d r) n (txt c) xs e s q = clash e
one_ready (chars p) n z xs e s q = refl

pub obeys_ready : (m : List ℕ) (es : List Item) → all_narrow es ≡ true
    → all_from (λ e. spells (form_of e) (bytes_at e m)) true es ≡ true → all_from (λ e. keeps (form_of e) (stands e m)) true es ≡ true
    → all_ready m es ≡ true
obeys_ready m [] e s q = refl
obeys_ready m (at g o n k ∷ es) e s q =
    let p = both e in
    let u = all_first (λ d. spells (form_of d) (bytes_at d m)) (spells k (part m o n)) es s in
    let v = all_first (λ d. keeps (form_of d) (stands d m)) (keeps k (reads k (part m o n))) es q in
    rw (one_ready k n (room_of g) (part m o n) p.0 u.0 v.0) (obeys_ready m es p.1 u.1 v.1)

-- and what can be stored is spelt
one_spelt : (k : Form) (z : Room) (xs : List ℕ) → ready k z xs ≡ true → spells k xs ≡ true
one_spelt (byte p) z xs y = refl
one_spelt (big r) z xs y = refl
one_spelt (numeral d r) octet xs y = clash y
one_spelt (numeral d r) (num b) xs y = (both {a = spelt d xs} y).0
one_spelt (numeral d r) (txt c) xs y = clash y
one_spelt (chars p) z xs y = refl

pub ready_spelt : (m : List ℕ) (es : List Item) → all_ready m es ≡ true → all_from (λ e. spells (form_of e) (bytes_at e m)) true es ≡ true
ready_spelt m [] y = refl
ready_spelt m (at g o n k ∷ es) y =
    let q = all_first (λ d. ready (form_of d) (room_of (field_of d)) (bytes_at d m)) (ready k (room_of g) (part m o n)) es y in
    rw (one_spelt k (room_of g) (part m o n) q.0) (ready_spelt m es q.1)

-- ---- and is of bytes

-- a number of one byte is below 256, and a text is of bytes
abbrev pub OfBytes : Room → Value → Type 0
OfBytes octet (number x) = x < 256
OfBytes octet (text xs) = Unit
OfBytes (num b) (number x) = Unit
OfBytes (num b) (text xs) = Unit
OfBytes (txt c) (number x) = Unit
OfBytes (txt c) (text xs) = Bytes xs

zero_bytes : (z : Room) → OfBytes z (zero_in z)
zero_bytes octet = lit< tt
zero_bytes (num b) = tt
zero_bytes (txt c) = zeros_bytes c

module _ (m : List ℕ) (b : Bytes m) where
  one_bytes : (k : Form) (o n : ℕ) (z : Room) → narrow k n z ≡ true → OfBytes z (reads k (part m o n))
  one_bytes (byte p) o n octet e = part_bytes m o n b 0
  one_bytes (byte p) o n (num c) e = tt
  one_bytes (byte p) o n (txt c) e = tt
  one_bytes (big r) o n octet e = clash e
  one_bytes (big r) o n (num c) e = tt
  one_bytes (big r) o n (txt c) e = tt
  one_bytes (numeral d r) o n octet e = clash e
  one_bytes (numeral d r) o n (num c) e = tt
  one_bytes (numeral d r) o n (txt c) e = tt
  one_bytes (chars p) o n octet e = tt
  one_bytes (chars p) o n (num c) e = tt
  one_bytes (chars p) o n (txt c) e = part_bytes m o n b

  -- by any table
  pub look_bytes : (es : List Item) → all_narrow es ≡ true → (f : Field) → OfBytes (room_of f) (look es m f)
  look_bytes [] e f = zero_bytes (room_of f)
  look_bytes (at g o n k ∷ es) e f =
      let p = both e in
      go (is f g) refl (one_bytes k o n (room_of g) p.0) (look_bytes es p.1 f)
    where
      go : (t : Bool) → is f g ≡ t → OfBytes (room_of g) (reads k (part m o n)) → OfBytes (room_of f) (look es m f)
          → OfBytes (room_of f) (look (at g o n k ∷ es) m f)
      go true q x r = rw (q, same_field f g q) x
      go false q x r = rw q r
