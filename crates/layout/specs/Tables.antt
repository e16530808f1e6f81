-- A layout is a table. What it says of a message's bytes and of a record's values: to read and to write by it, to obey it, to be lawful for
-- it. Nothing here knows a type or a message; what is said is said of every table.
-- Assumes nothing.
use Rattle.std.specs.Prelude.{ℕ, ◌+◌, ◌≡◌, List, [], ◌∷◌, ◌++◌, Bool, true, false, cond, not, ◌&&◌, eqb, length}
use Rattle.octets.specs.Run.{part}
use Rattle.layout.specs.Values.{Field, letter, Value, Values, room_of, zero_of, is_zero, all_fields, is}
use Rattle.layout.specs.Forms.{Form, byte, big, numeral, chars, reads, writes, keeps, spells, plain, fits, suits, narrow, ready}

-- a line of a table: field, offset, width, form with its rule
pub data Item : Type 0 where
  at : Field → ℕ → ℕ → Form → Item

-- the length of a message, the place of the letter that names its type, and the table
pub record Layout : Type 0 where
  pub size : ℕ
  pub place : ℕ
  pub entries : List Item

-- the rule of a letter's byte: it is that letter
abbrev pub the : ℕ → ℕ → Bool
the k x = eqb x k

abbrev pub field_of : Item → Field
field_of (at f o n k) = f

abbrev pub offset_of : Item → ℕ
offset_of (at f o n k) = o

abbrev pub width_of : Item → ℕ
width_of (at f o n k) = n

abbrev pub form_of : Item → Form
form_of (at f o n k) = k

-- ---- what is computed of a table

abbrev pub lacks : Field → List Item → Bool
lacks f [] = true
lacks f (e ∷ es) = not (is f (field_of e)) && lacks f es

-- no field is there twice
abbrev pub distinct : List Item → Bool
distinct [] = true
distinct (e ∷ es) = lacks (field_of e) es && distinct es

-- each entry begins where the one before it ends, and is well made
abbrev pub follows : ℕ → List Item → Bool
follows o [] = true
follows o (e ∷ es) = eqb (offset_of e) o && suits (form_of e) (width_of e) (room_of (field_of e)) && follows (o + width_of e) es

abbrev pub total : List Item → ℕ
total [] = 0
total (e ∷ es) = width_of e + total es

abbrev pub is_byte : Form → Bool
is_byte (byte p) = true
is_byte (big r) = false
is_byte (numeral d r) = false
is_byte (chars p) = false

-- the letter stands at a place
abbrev pub marks : ℕ → List Item → Bool
marks o [] = false
marks o (e ∷ es) = cond (is letter (field_of e)) (eqb (offset_of e) o && is_byte (form_of e)) (marks o es)

-- the fields tile the layout: no gap, none twice, each with room for what its rule admits, and the letter at its place
unfoldable pub tiles : Layout → Bool
tiles l = follows 0 l.entries && eqb (total l.entries) l.size && distinct l.entries && marks l.place l.entries

-- what is read by the table, and keeps its rules, has room in a record
abbrev pub all_narrow : List Item → Bool
all_narrow [] = true
all_narrow (e ∷ es) = narrow (form_of e) (width_of e) (room_of (field_of e)) && all_narrow es

-- ---- to read and to write by a layout

-- the bytes at an entry's place, and the value that they spell
abbrev pub bytes_at : Item → List ℕ → List ℕ
bytes_at e m = part m (offset_of e) (width_of e)

abbrev pub stands : Item → List ℕ → Value
stands e m = reads (form_of e) (bytes_at e m)

-- what a message says of a field
abbrev pub look : List Item → List ℕ → Field → Value
look [] m f = zero_of f
look (e ∷ es) m f = cond (is f (field_of e)) (stands e m) (look es m f)

-- the message of a record's values
abbrev pub written : List Item → Values → List ℕ
written [] v = []
written (e ∷ es) v = writes (form_of e) (width_of e) (v (field_of e)) ++ written es v

-- ---- to obey a layout, and to be lawful for it

-- P of each element
abbrev pub Each : {A : Type 0} → (A → Type 0) → List A → Type 0
Each P [] = Unit
Each P (x ∷ xs) = P x × Each P xs

-- the fields of a list that a table lacks
abbrev pub without : List Item → List Field → List Field
without es [] = []
without es (f ∷ fs) = cond (lacks f es) (f ∷ without es fs) (without es fs)

-- the fields that a layout lacks
unfoldable pub lacked : Layout → List Field
lacked l = without l.entries all_fields

-- a message obeys: it has the length, and each field spells a value that keeps its rule
pub record Obeys (l : Layout) (m : List ℕ) : Type 0 where
  pub long : length m ≡ l.size
  pub spelt : Each (λ e. spells (form_of e) (bytes_at e m) ≡ true) l.entries
  pub kept : Each (λ e. keeps (form_of e) (stands e m) ≡ true) l.entries

-- values are lawful: each field of the layout keeps its rule, and every other field is zero
pub record Lawful (l : Layout) (v : Values) : Type 0 where
  pub kept : Each (λ e. keeps (form_of e) (v (field_of e)) ≡ true) l.entries
  pub empty : Each (λ f. is_zero (v f) ≡ true) (lacked l)

-- ---- the same as tests

-- a test of each element, behind other tests
abbrev pub all_from : {A : Type 0} → (A → Bool) → Bool → List A → Bool
all_from p t [] = t
all_from p t (x ∷ xs) = all_from p (t && p x) xs

-- the rules of the fields that a layout has
unfoldable pub kept_by : Layout → Values → Bool
kept_by l v = all_from (λ e. keeps (form_of e) (v (field_of e))) true l.entries

-- and nothing in those that it lacks
unfoldable pub lawful_by : Layout → Values → Bool
lawful_by l v = all_from (λ f. is_zero (v f)) (kept_by l v) (lacked l)

-- each value has room
unfoldable pub fits_by : Layout → Values → Bool
fits_by l v = all_from (λ e. fits (form_of e) (width_of e) (v (field_of e))) true l.entries

-- each field is spelt, and plainly
unfoldable pub spelt_by : Layout → List ℕ → Bool
spelt_by l m = all_from (λ e. spells (form_of e) (bytes_at e m)) true l.entries

unfoldable pub plain_by : Layout → List ℕ → Bool
plain_by l m = all_from (λ e. plain (form_of e) (bytes_at e m)) true l.entries

-- the length, each field spelt, each rule kept
unfoldable pub obeys_by : Layout → List ℕ → Bool
obeys_by l m = eqb (length m) l.size && spelt_by l m && all_from (λ e. keeps (form_of e) (stands e m)) true l.entries

-- each field can be stored in a record
unfoldable pub ready_by : Layout → List ℕ → Bool
ready_by l m = all_from (λ e. ready (form_of e) (room_of (field_of e)) (bytes_at e m)) true l.entries
