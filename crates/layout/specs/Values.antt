-- The fields of a message by their names in document 01, the values that they have, and the room that a record has for them.
-- Assumes nothing.
use Rattle.std.specs.Prelude.{ℕ, ◌^◌, ◌≡◌, List, [], ◌∷◌, Bool, true, false, not, eqb, ltb, length, replicate}
use Rattle.octets.specs.Run.{all}

-- `letter` is the field that names the type
pub data Field : Type 0 where
  letter time event centre symbol class control price size condition : Field
  new_control new_price new_size new_condition high low close consolidated : Field

pub data Value : Type 0 where
  number : ℕ → Value
  text : List ℕ → Value

-- a value of each field, as in a record
abbrev pub Values : Type 0
Values = Field → Value

abbrev pub is_text : Value → Bool
is_text (number x) = false
is_text (text xs) = true

-- zero, or a text of zero bytes
abbrev pub is_zero : Value → Bool
is_zero (number x) = eqb x 0
is_zero (text xs) = all 0 xs

-- ---- room

-- what a record has room for in a field: one byte, a number of so many bits, or so many bytes of text
pub data Room : Type 0 where
  octet : Room
  num : ℕ → Room
  txt : ℕ → Room

unfoldable pub room_of : Field → Room
room_of letter = octet
room_of time = num 32
room_of event = octet
room_of centre = octet
room_of symbol = txt 8
room_of class = octet
room_of control = txt 10
room_of price = num 32
room_of size = num 32
room_of condition = txt 4
room_of new_control = txt 10
room_of new_price = num 32
room_of new_size = num 32
room_of new_condition = txt 4
room_of high = num 32
room_of low = num 32
room_of close = num 32
room_of consolidated = num 64

-- a value is of the room's kind and has its width; that a byte is below 256 is never needed
abbrev pub typed : Room → Value → Bool
typed octet (number x) = true
typed octet (text xs) = false
typed (num b) (number x) = ltb x (2 ^ b)
typed (num b) (text xs) = false
typed (txt c) (number x) = false
typed (txt c) (text xs) = eqb (length xs) c

-- each value is
abbrev pub Typed : Values → Type 0
Typed v = (f : Field) → typed (room_of f) (v f) ≡ true

-- a value is of the room's kind, and a text has its length: enough to know how long what is written is
abbrev pub sized : Room → Value → Bool
sized octet v = not (is_text v)
sized (num b) v = not (is_text v)
sized (txt c) (number x) = false
sized (txt c) (text xs) = eqb (length xs) c

abbrev pub Sized : Values → Type 0
Sized v = (f : Field) → sized (room_of f) (v f) ≡ true

abbrev pub zero_in : Room → Value
zero_in octet = number 0
zero_in (num b) = number 0
zero_in (txt c) = text (replicate c 0)

-- what a field holds where the layout lacks it
abbrev pub zero_of : Field → Value
zero_of f = zero_in (room_of f)

-- ---- fields told apart

-- the fields in their order
abbrev pub all_fields : List Field
all_fields =
    letter ∷ time ∷ event ∷ centre ∷ symbol ∷ class ∷ control ∷ price ∷ size ∷ condition ∷ new_control ∷ new_price ∷ new_size
    ∷ new_condition ∷ high ∷ low ∷ close ∷ consolidated ∷ []

-- a field's place in that list
abbrev pub place_of : Field → ℕ
place_of letter = 0
place_of time = 1
place_of event = 2
place_of centre = 3
place_of symbol = 4
place_of class = 5
place_of control = 6
place_of price = 7
place_of size = 8
place_of condition = 9
place_of new_control = 10
place_of new_price = 11
place_of new_size = 12
place_of new_condition = 13
place_of high = 14
place_of low = 15
place_of close = 16
place_of consolidated = 17

abbrev pub is : Field → Field → Bool
is f g = eqb (place_of f) (place_of g)
