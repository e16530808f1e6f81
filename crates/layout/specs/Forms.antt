-- How a field is spelt in bytes, with its rule. A further form is one more constructor, with a clause in each
-- definition here, in `is_byte` (`Tables`) and in `alike` and `clear` (`Carrying`).
-- Assumes nothing.
use Rattle.std.specs.Prelude.{ℕ, ◌^◌, List, [], ◌∷◌, Bool, true, false, ◌&&◌, eqb, leb, ltb, length, get_or}
use Rattle.numbers.specs.Number.{be, digits}
use Rattle.digits.specs.Field.{spelt, value_of, shown_in, lean}
use Rattle.layout.specs.Values.{Value, number, text, Room, octet, num, txt}

-- the rule of a number
pub data Range : Type 0 where
  any : Range
  up_to : ℕ → Range
  within : ℕ → ℕ → Range

abbrev pub inside : Range → ℕ → Bool
inside any x = true
inside (up_to top) x = leb x top
inside (within least top) x = leb least x && leb x top

-- one byte, a big-endian number, a number in digits of which there are at least so many, a text; each with its rule
pub data Form : Type 0 where
  byte : (ℕ → Bool) → Form
  big : Range → Form
  numeral : ℕ → Range → Form
  chars : (List ℕ → Bool) → Form

-- ---- bytes to a value, a value to bytes

-- the value that bytes spell
abbrev pub reads : Form → List ℕ → Value
reads (byte p) xs = number (get_or xs 0 0)
reads (big p) xs = number (be xs)
reads (numeral d r) xs = number (value_of d xs)
reads (chars p) xs = text xs

-- a value, spelt in so many bytes
abbrev pub writes : Form → ℕ → Value → List ℕ
writes (byte p) n (number x) = x ∷ []
writes (byte p) n (text xs) = []
writes (big p) n (number x) = digits n x
writes (big p) n (text xs) = []
writes (numeral d r) n (number x) = shown_in n d x
writes (numeral d r) n (text xs) = []
writes (chars p) n (number x) = []
writes (chars p) n (text xs) = xs

-- the value keeps the rule
abbrev pub keeps : Form → Value → Bool
keeps (byte p) (number x) = p x
keeps (byte p) (text xs) = false
keeps (big r) (number x) = inside r x
keeps (big r) (text xs) = false
keeps (numeral d r) (number x) = inside r x
keeps (numeral d r) (text xs) = false
keeps (chars p) (number x) = false
keeps (chars p) (text xs) = p xs

-- the bytes spell a value: any bytes do, but where digits are asked
abbrev pub spells : Form → List ℕ → Bool
spells (byte p) xs = true
spells (big p) xs = true
spells (numeral d r) xs = spelt d xs
spells (chars p) xs = true

-- and in the one way in which it is written: only digits have others, with zeros before them
abbrev pub plain : Form → List ℕ → Bool
plain (byte p) xs = true
plain (big p) xs = true
plain (numeral d r) xs = lean d xs
plain (chars p) xs = true

-- ---- room

-- a value of the form's kind, with room in so many bytes; of a single byte nothing is asked, its room in a record is asked apart (`narrow`)
abbrev pub fits : Form → ℕ → Value → Bool
fits (byte p) n (number x) = true
fits (byte p) n (text xs) = false
fits (big p) n (number x) = ltb x (256 ^ n)
fits (big p) n (text xs) = false
fits (numeral d r) n (number x) = ltb x (10 ^ n)
fits (numeral d r) n (text xs) = false
fits (chars p) n (number x) = false
fits (chars p) n (text xs) = eqb (length xs) n

-- no number of a range, of so many bits, reaches a bound
abbrev pub topped : Range → ℕ → ℕ → Bool
topped any b bound = leb (2 ^ b) bound
topped (up_to top) b bound = ltb top bound
topped (within least top) b bound = ltb top bound

-- a form is well made for a width and a field's room: what keeps its rule has room in the bytes
abbrev pub suits : Form → ℕ → Room → Bool
suits (byte p) n octet = eqb n 1
suits (byte p) n (num b) = false
suits (byte p) n (txt c) = false
suits (big r) n octet = false
suits (big r) n (num b) = topped r b (256 ^ n)
suits (big r) n (txt c) = false
suits (numeral d r) n octet = false
suits (numeral d r) n (num b) = leb 1 d && leb d n && topped r b (10 ^ n)
suits (numeral d r) n (txt c) = false
suits (chars p) n octet = false
suits (chars p) n (num b) = false
suits (chars p) n (txt c) = eqb c n

-- every number of a range is below a bound
abbrev pub bounded : Range → ℕ → Bool
bounded any bound = false
bounded (up_to top) bound = ltb top bound
bounded (within least top) bound = ltb top bound

-- and the other way round: what is read from so many bytes has room in the record; digits may spell more, so of these what keeps its rule
abbrev pub narrow : Form → ℕ → Room → Bool
narrow (byte p) n octet = true
narrow (byte p) n (num b) = false
narrow (byte p) n (txt c) = false
narrow (big r) n octet = false
narrow (big r) n (num b) = leb (256 ^ n) (2 ^ b)
narrow (big r) n (txt c) = false
narrow (numeral d r) n octet = false
narrow (numeral d r) n (num b) = bounded r (2 ^ b)
narrow (numeral d r) n (txt c) = false
narrow (chars p) n octet = false
narrow (chars p) n (num b) = false
narrow (chars p) n (txt c) = eqb c n

-- bytes can be stored in a record's room: they spell a value, and it has room there, which is asked of digits alone
abbrev pub ready : Form → Room → List ℕ → Bool
ready (byte p) z xs = true
ready (big r) z xs = true
ready (numeral d r) octet xs = false
ready (numeral d r) (num b) xs = spelt d xs && ltb (value_of d xs) (2 ^ b)
ready (numeral d r) (txt c) xs = false
ready (chars p) z xs = true

-- a number in digits
abbrev pub is_numeral : Form → Bool
is_numeral (byte p) = false
is_numeral (big r) = false
is_numeral (numeral d r) = true
is_numeral (chars p) = false
