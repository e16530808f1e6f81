-- The entries of a tape: what an entry is, and what stands at the head of a run of bytes.
-- Assumes nothing.
use Rattle.std.specs.Prelude.{ℕ, suc, ◌+◌, ◌<◌, ◌^◌, ◌≡◌, List, [], ◌∷◌, ◌++◌, map, Bool, false, cond, ◌||◌, eqb, leb, length, drop, get_or, Err, Ok, Result}
use Rattle.octets.specs.Run.{part}
use Rattle.numbers.specs.Number.{be, digits}
use Rattle.kinds.specs.declared.Kind.{Kind}
use Rattle.kinds.specs.Kinds.{letter_of, all_kinds, kind_of}
use Rattle.packing.specs.Packing.{length_of}
use Rattle.rows.specs.declared.Listing.{Listing}
use Rattle.book.specs.State.{Arrival, arrives}
use Rattle.tape.specs.declared.Stop.{Stop}
use Rattle.tape.specs.declared.Stop.TheVariants.{Ended, NoKind, CutShort}

-- ---- the numbers of an entry

-- the kind byte of a listing, L
abbrev pub listing_letter : ℕ
listing_letter = 76

-- how many bytes the kind, the symbol and the close of a listing, and the number of a message have
abbrev pub kind_bytes : ℕ
kind_bytes = 1

abbrev pub symbol_bytes : ℕ
symbol_bytes = 8

abbrev pub close_bytes : ℕ
close_bytes = 4

abbrev pub number_bytes : ℕ
number_bytes = 4

-- ---- the kinds

-- the bytes that a kind byte says are delivered; 0 if it is the letter of no type
abbrev pub message_length : ℕ → ℕ
message_length k = length_of (kind_of k)

-- L: symbol, close; S T X C J: number, and the message; 0 where the byte is no kind
unfoldable pub body_length : ℕ → ℕ
body_length k =
    cond (eqb k listing_letter) (symbol_bytes + close_bytes) (cond (eqb (message_length k) 0) 0 (number_bytes + message_length k))

-- a kind of entry: its letter, and how long such entries are
pub record EntryKind : Type 0 where
  pub letter : ℕ
  pub size : ℕ

-- kind, number, message
abbrev pub message_kind : Kind → EntryKind
message_kind k = record { letter = letter_of k; size = kind_bytes + number_bytes + length_of k }

-- the six kinds: L, then those of the types, S T X C J
abbrev pub entry_kinds : List EntryKind
entry_kinds =
    -- kind, symbol, close
    record { letter = listing_letter; size = kind_bytes + symbol_bytes + close_bytes }
    ∷ map message_kind all_kinds

-- the byte is the letter of one of these kinds
abbrev pub is_kind : ℕ → List EntryKind → Bool
is_kind k [] = false
is_kind k (r ∷ rs) = eqb k r.letter || is_kind k rs

-- ---- entries

-- a listing; or, by its kind, a message under its number
pub data Entry : Type 0 where
  Lists : Listing → Entry
  Delivers : ℕ → Arrival → Entry

-- the bytes of an entry
unfoldable pub entry_bytes : Entry → List ℕ
entry_bytes (Lists l) = listing_letter ∷ l.symbol ++ digits close_bytes l.close
entry_bytes (Delivers kind a) = kind ∷ digits number_bytes a.number ++ a.message

-- a symbol and a close of their bytes; a kind of message, a number of its bytes, and as many bytes as the kind has, whatever they are
abbrev pub EntryFits : Entry → Type 0
EntryFits (Lists l) = (length l.symbol ≡ symbol_bytes) × (l.close < 256 ^ close_bytes)
EntryFits (Delivers kind a) = (length a.message ≡ message_length kind) × (0 < message_length kind) × (a.number < 256 ^ number_bytes)

-- ---- what stands at the head

unfoldable pub head_of : List ℕ → Result ℕ Stop
head_of [] = Err Ended
head_of (k ∷ s) =
    cond (eqb (body_length k) 0) (Err NoKind) (cond (leb (body_length k) (length s)) (Ok (suc (body_length k))) (Err CutShort))

-- the entry that all of these bytes are
abbrev pub listing_in : List ℕ → Listing
listing_in b = record { symbol = part b kind_bytes symbol_bytes; close = be (part b (kind_bytes + symbol_bytes) close_bytes) }

abbrev pub arrival_in : List ℕ → Arrival
arrival_in b = arrives (be (part b kind_bytes number_bytes)) (drop (kind_bytes + number_bytes) b)

abbrev pub delivery : List ℕ → Entry
delivery b = Delivers (get_or b 0 0) (arrival_in b)

unfoldable pub entry_of : List ℕ → Entry
entry_of b = cond (eqb (get_or b 0 0) listing_letter) (Lists (listing_in b)) (delivery b)

-- ---- a tape

abbrev pub EntriesFit : List Entry → Type 0
EntriesFit [] = Unit {0}
EntriesFit (e ∷ es) = EntryFits e × EntriesFit es

-- entry after entry
abbrev pub tape_of : List Entry → List ℕ
tape_of [] = []
tape_of (e ∷ es) = entry_bytes e ++ tape_of es

-- entries and a rest: the bytes are those of the entries and then the rest's, at whose head no entry stands
pub record Tape (b : List ℕ) (es : List Entry) (rest : List ℕ) : Type 0 where
  pub bytes : b ≡ tape_of es ++ rest
  pub each : EntriesFit es
  pub ends : (e : Entry) (more : List ℕ) → EntryFits e → rest ≡ entry_bytes e ++ more → ⊥

-- why a tape ends with that rest: it is nothing; it begins with a byte that is no kind; or else the body is not whole
abbrev pub end_of : List ℕ → Stop
end_of [] = Ended
end_of (k ∷ s) = cond (eqb (body_length k) 0) NoKind CutShort
