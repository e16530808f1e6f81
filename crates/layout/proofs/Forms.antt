-- The laws of each form: a value that fits is read as it was written, and bytes that are plain are written as they were read.
-- Assumes nothing.
use mathlib.Core.Path.{◌≡◌, refl, ap, sym, subst, ◌∙◌}
use mathlib.Core.Bool.{Bool, true, false, not, ◌&&◌, and-eq-true_iff}
use mathlib.Core.List.{List, [], ◌∷◌}
use mathlib.Core.Logic.{◌↔◌}
use Prim.Native.Nat.{ℕ, zero, suc, ◌^◌, ◌≤◌, ◌<◌}
use native.Mathlib.Nat.{pow-succ'}
use native.Mathlib.Omega.{arith}
use borrow.Author.Tests.{eqb-true, eq-eqb, leb-true, ltb-true, lt-ltb}
use lib.Dec.{eqb, leb, ltb, lit<}
use lib.ListN.{length, replicate}
use Rattle.octets.specs.Run.{tab, part, Bytes}
use Rattle.octets.proofs.Laws.{part_length}
use Rattle.numbers.specs.Number.{be, digits}
use Rattle.numbers.proofs.Laws.{digits_length, be_below}
use Rattle.numbers.proofs.Trips.{be_digits, digits_part}
use Rattle.digits.specs.Field.{spelt, value_of, shown_in, lean}
use Rattle.digits.proofs.Laws.{shown_length, digits_again, digits_canonical, lean_written}
use Rattle.layout.specs.Values.{Value, number, text, is_text, Room, octet, num, txt, typed, sized, zero_in}
use Rattle.layout.specs.Forms.{Range, any, up_to, within, inside, Form, byte, big, numeral, chars, reads, writes, keeps, spells}
use Rattle.layout.specs.Forms.{plain, fits, topped, suits, is_numeral}

pub both : {a b : Bool} → a && b ≡ true → (a ≡ true) × (b ≡ true)
both {a} {b} e = (and-eq-true_iff a b).0 e

pub clash : {A : Type 0} → false ≡ true → A
clash e = let z : ◌≡◌ {A = ℕ} 0 1 = cc in absurd (omega arith)

-- what is asked of a number in digits: at least one digit, and no more than there is room for
asked : (d n b : ℕ) (r : Range) → suits (numeral d r) n (num b) ≡ true → (1 ≤ d) × (d ≤ n) × (topped r b (10 ^ n) ≡ true)
asked d n b r s =
    let p = both {a = leb 1 d && leb d n} s in
    let q = both {a = leb 1 d} p.0 in
    (leb-true 1 d q.0, leb-true d n q.1, p.1)

-- read as it was written
spelt_back : (d n b x : ℕ) (r : Range) → suits (numeral d r) n (num b) ≡ true → ltb x (10 ^ n) ≡ true
    → (spelt d (shown_in n d x) ≡ true) × (value_of d (shown_in n d x) ≡ x)
spelt_back d n b x r s f =
    let a = asked d n b r s in
    digits_again n d x a.1 (ltb-true x (10 ^ n) f)

pub form_length : (k : Form) (n : ℕ) (v : Value) (z : Room) → suits k n z ≡ true → fits k n v ≡ true → length (writes k n v) ≡ n
form_length (byte p) n (number x) octet s f = sym (eqb-true n 1 s)
form_length (byte p) n (number x) (num b) s f = clash s
form_length (byte p) n (number x) (txt c) s f = clash s
form_length (byte p) n (text xs) z s f = clash f
form_length (big p) n (number x) z s f = digits_length n x
form_length (big p) n (text xs) z s f = clash f
form_length (numeral d r) n (number x) z s f = shown_length n d x
form_length (numeral d r) n (text xs) z s f = clash f
form_length (chars p) n (number x) z s f = clash f
form_length (chars p) n (text xs) z s f = eqb-true (length xs) n f

-- written, then read
pub form_back : (k : Form) (n : ℕ) (v : Value) (z : Room) → suits k n z ≡ true → fits k n v ≡ true → reads k (writes k n v) ≡ v
form_back (byte p) n (number x) z s f = refl
form_back (byte p) n (text xs) z s f = clash f
form_back (big p) n (number x) z s f = ap number (be_digits n x (ltb-true x (256 ^ n) f))
form_back (big p) n (text xs) z s f = clash f
form_back (numeral d r) n (number x) octet s f = clash s
form_back (numeral d r) n (number x) (num b) s f = ap number (spelt_back d n b x r s f).1
form_back (numeral d r) n (number x) (txt c) s f = clash s
form_back (numeral d r) n (text xs) z s f = clash f
form_back (chars p) n (number x) z s f = clash f
form_back (chars p) n (text xs) z s f = refl

-- digits are written as they were read exactly if they are in our form
canonical : (d n b : ℕ) (r : Range) (m : List ℕ) (o : ℕ) → suits (numeral d r) n (num b) ≡ true → spelt d (part m o n) ≡ true
    → (shown_in n d (value_of d (part m o n)) ≡ part m o n) ↔ (lean d (part m o n) ≡ true)
canonical d n b r m o s t =
    let a = asked d n b r s in
    let xs = part m o n in
    subst (λ (w : ℕ). (shown_in w d (value_of d xs) ≡ xs) ↔ (lean d xs ≡ true)) (part_length m o n) (digits_canonical d xs a.0 t)

lean_spelt : (d : ℕ) (xs : List ℕ) → lean d xs ≡ true → spelt d xs ≡ true
unfolding lean
lean_spelt d xs e = (both {a = spelt d xs} e).0

-- read, then written
pub form_again : (k : Form) (m : List ℕ) (o n : ℕ) (z : Room) → Bytes m → suits k n z ≡ true → plain k (part m o n) ≡ true
    → writes k n (reads k (part m o n)) ≡ part m o n
unfolding part tab
form_again (byte p) m o n octet b s t = rw (eqb-true n 1 s)
form_again (byte p) m o n (num c) b s t = clash s
form_again (byte p) m o n (txt c) b s t = clash s
form_again (big p) m o n z b s t = digits_part m o n b
form_again (numeral d r) m o n octet b s t = clash s
form_again (numeral d r) m o n (num c) b s t = (canonical d n c r m o s (lean_spelt d (part m o n) t)).1 t
form_again (numeral d r) m o n (txt c) b s t = clash s
form_again (chars p) m o n z b s t = refl

-- what is spelt and is written as it was read is plain
pub form_plain : (k : Form) (m : List ℕ) (o n : ℕ) (z : Room) → suits k n z ≡ true → spells k (part m o n) ≡ true
    → writes k n (reads k (part m o n)) ≡ part m o n → plain k (part m o n) ≡ true
form_plain (byte p) m o n z s t e = refl
form_plain (big p) m o n z s t e = refl
form_plain (numeral d r) m o n octet s t e = clash s
form_plain (numeral d r) m o n (num c) s t e = (canonical d n c r m o s t).0 e
form_plain (numeral d r) m o n (txt c) s t e = clash s
form_plain (chars p) m o n z s t e = refl

-- all but digits is
pub other_plain : (k : Form) (xs : List ℕ) → is_numeral k ≡ false → plain k xs ≡ true
other_plain (byte p) xs e = refl
other_plain (big p) xs e = refl
other_plain (numeral d r) xs e = clash (sym e)
other_plain (chars p) xs e = refl

-- what is read is of the field's kind
pub form_kind : (k : Form) (n : ℕ) (z : Room) (xs : List ℕ) → suits k n z ≡ true → is_text (reads k xs) ≡ is_text (zero_in z)
form_kind (byte p) n octet xs s = refl
form_kind (byte p) n (num b) xs s = clash s
form_kind (byte p) n (txt c) xs s = clash s
form_kind (big p) n octet xs s = clash s
form_kind (big p) n (num b) xs s = refl
form_kind (big p) n (txt c) xs s = clash s
form_kind (numeral d r) n octet xs s = clash s
form_kind (numeral d r) n (num b) xs s = refl
form_kind (numeral d r) n (txt c) xs s = clash s
form_kind (chars p) n octet xs s = clash s
form_kind (chars p) n (num b) xs s = clash s
form_kind (chars p) n (txt c) xs s = refl

-- a number of a range is below its bound
below : (r : Range) (b bound x : ℕ) → topped r b bound ≡ true → ltb x (2 ^ b) ≡ true → inside r x ≡ true → ltb x bound ≡ true
below any b bound x t y i =
    let h = ltb-true x (2 ^ b) y in
    let g = leb-true (2 ^ b) bound t in
    lt-ltb x bound (omega arith)
below (up_to top) b bound x t y i =
    let h = leb-true x top i in
    let g = ltb-true top bound t in
    lt-ltb x bound (omega arith)
below (within least top) b bound x t y i =
    let h = leb-true x top (both {a = leb least x} i).1 in
    let g = ltb-true top bound t in
    lt-ltb x bound (omega arith)

-- what a record has room for and keeps its rule has room in a form that suits it
pub form_fits : (k : Form) (n : ℕ) (v : Value) (z : Room) → suits k n z ≡ true → typed z v ≡ true → keeps k v ≡ true → fits k n v ≡ true
form_fits (byte p) n (number x) z s y q = refl
form_fits (byte p) n (text xs) z s y q = clash q
form_fits (big r) n (number x) octet s y q = clash s
form_fits (big r) n (number x) (num b) s y q = below r b (256 ^ n) x s y q
form_fits (big r) n (number x) (txt c) s y q = clash s
form_fits (big r) n (text xs) z s y q = clash q
form_fits (numeral d r) n (number x) octet s y q = clash s
form_fits (numeral d r) n (number x) (num b) s y q = below r b (10 ^ n) x (asked d n b r s).2 y q
form_fits (numeral d r) n (number x) (txt c) s y q = clash s
form_fits (numeral d r) n (text xs) z s y q = clash q
form_fits (chars p) n (number x) z s y q = clash q
form_fits (chars p) n (text xs) octet s y q = clash s
form_fits (chars p) n (text xs) (num b) s y q = clash s
form_fits (chars p) n (text xs) (txt c) s y q =
    let e = eqb-true (length xs) c y in
    let f = eqb-true c n s in
    eq-eqb (length xs) n (omega arith)

-- what is written is spelt
pub form_spells : (k : Form) (n : ℕ) (v : Value) (z : Room) → suits k n z ≡ true → fits k n v ≡ true → spells k (writes k n v) ≡ true
form_spells (byte p) n v z s f = refl
form_spells (big p) n v z s f = refl
form_spells (numeral d r) n (number x) octet s f = clash s
form_spells (numeral d r) n (number x) (num b) s f = (spelt_back d n b x r s f).0
form_spells (numeral d r) n (number x) (txt c) s f = clash s
form_spells (numeral d r) n (text xs) z s f = clash f
form_spells (chars p) n v z s f = refl

-- and plain
pub form_lean : (k : Form) (n : ℕ) (v : Value) (z : Room) → suits k n z ≡ true → fits k n v ≡ true → plain k (writes k n v) ≡ true
form_lean (byte p) n v z s f = refl
form_lean (big p) n v z s f = refl
form_lean (numeral d r) n (number x) octet s f = clash s
form_lean (numeral d r) n (number x) (num b) s f =
    let a = asked d n b r s in
    lean_written n d x a.0 a.1 (ltb-true x (10 ^ n) f)
form_lean (numeral d r) n (number x) (txt c) s f = clash s
form_lean (numeral d r) n (text xs) z s f = clash f
form_lean (chars p) n v z s f = refl

-- how long what is written is, whatever number it is
pub form_sized : (k : Form) (n : ℕ) (v : Value) (z : Room) → suits k n z ≡ true → sized z v ≡ true → length (writes k n v) ≡ n
form_sized (byte p) n (number x) octet s y = sym (eqb-true n 1 s)
form_sized (byte p) n (text xs) octet s y = clash y
form_sized (byte p) n v (num b) s y = clash s
form_sized (byte p) n v (txt c) s y = clash s
form_sized (big r) n v octet s y = clash s
form_sized (big r) n (number x) (num b) s y = digits_length n x
form_sized (big r) n (text xs) (num b) s y = clash y
form_sized (big r) n v (txt c) s y = clash s
form_sized (numeral d r) n v octet s y = clash s
form_sized (numeral d r) n (number x) (num b) s y = shown_length n d x
form_sized (numeral d r) n (text xs) (num b) s y = clash y
form_sized (numeral d r) n v (txt c) s y = clash s
form_sized (chars p) n v octet s y = clash s
form_sized (chars p) n v (num b) s y = clash s
form_sized (chars p) n (number x) (txt c) s y = clash y
form_sized (chars p) n (text xs) (txt c) s y = eqb-true (length xs) c y ∙ eqb-true c n s

-- what is read has its length, and so has what is of its type
pub read_sized : (k : Form) (m : List ℕ) (o n : ℕ) (z : Room) → suits k n z ≡ true → sized z (reads k (part m o n)) ≡ true
read_sized (byte p) m o n octet s = refl
read_sized (byte p) m o n (num b) s = clash s
read_sized (byte p) m o n (txt c) s = clash s
read_sized (big r) m o n octet s = clash s
read_sized (big r) m o n (num b) s = refl
read_sized (big r) m o n (txt c) s = clash s
read_sized (numeral d r) m o n octet s = clash s
read_sized (numeral d r) m o n (num b) s = refl
read_sized (numeral d r) m o n (txt c) s = clash s
read_sized (chars p) m o n octet s = clash s
read_sized (chars p) m o n (num b) s = clash s
read_sized (chars p) m o n (txt c) s = eq-eqb (length (part m o n)) c (part_length m o n ∙ sym (eqb-true c n s))

pub typed_sized : (z : Room) (v : Value) → typed z v ≡ true → sized z v ≡ true
typed_sized octet (number x) y = refl
typed_sized octet (text xs) y = y
typed_sized (num b) (number x) y = refl
typed_sized (num b) (text xs) y = y
typed_sized (txt c) (number x) y = y
typed_sized (txt c) (text xs) y = y

-- a zero is of its type
pub zero_typed : (z : Room) → typed z (zero_in z) ≡ true
zero_typed octet = refl
zero_typed (num c) = lt-ltb 0 (2 ^ c) (two_pos c)
  where
    two_pos : (c : ℕ) → 0 < 2 ^ c
    two_pos zero = lit< tt
    two_pos (suc c) = omega (arith, two_pos c, pow-succ' 2 c)
zero_typed (txt c) = eq-eqb (length (replicate c 0)) c (long c)
  where
    long : (c : ℕ) → length (replicate {A = ℕ} c 0) ≡ c
    long zero = refl
    long (suc c) = ap suc (long c)
