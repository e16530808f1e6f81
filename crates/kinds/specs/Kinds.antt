-- A message's type, by the letter that names it, and the traits of each type.
-- Assumes nothing.
use Rattle.std.specs.Prelude.{ℕ, Bool, true, false, cond, ◌&&◌, List, [], ◌∷◌, eqb, get_or}
use Rattle.kinds.specs.declared.Kind.{Kind}
use Rattle.kinds.specs.declared.Traits.{Traits}
use Rattle.kinds.specs.declared.Kind.TheVariants.{Event, Trade, Cancel, Correction, Summary, Other}

-- the letters S T X C J; 0 for what is no type
abbrev pub letter_of : Kind → ℕ
letter_of Event = 83
letter_of Trade = 84
letter_of Cancel = 88
letter_of Correction = 67
letter_of Summary = 74
letter_of Other = 0

-- the five types, in the order of document 01; `Other` is none
abbrev pub all_kinds : List Kind
all_kinds = Event ∷ Trade ∷ Cancel ∷ Correction ∷ Summary ∷ []

-- the type at a place of the list; none past its end
abbrev pub kind_at : ℕ → Kind
kind_at place = get_or all_kinds place Other

-- the type of a list that a letter names
abbrev pub kind_among : List Kind → ℕ → Kind
kind_among [] letter = Other
kind_among (k ∷ ks) letter = cond (eqb letter (letter_of k)) k (kind_among ks letter)

-- the type that a letter names
unfoldable pub kind_of : ℕ → Kind
kind_of letter = kind_among all_kinds letter

-- ---- the traits of each type: all that is asked of a type but its letter and its layout

-- S is an event; X and C name an original; T and C make a new line; T, X, C and J set the reported consolidated volume of their
-- symbol's row, where the edition reports one; J is the summary
abbrev pub traits_of : Kind → Traits
traits_of Event = record { event = true; names = false; makes = false; sets = false; summary = false }
traits_of Trade = record { event = false; names = false; makes = true; sets = true; summary = false }
traits_of Cancel = record { event = false; names = true; makes = false; sets = true; summary = false }
traits_of Correction = record { event = false; names = true; makes = true; sets = true; summary = false }
traits_of Summary = record { event = false; names = false; makes = false; sets = true; summary = true }
traits_of Other = record { event = false; names = false; makes = false; sets = false; summary = false }

abbrev pub is_event : Kind → Bool
is_event k = (traits_of k).event

abbrev pub names_old : Kind → Bool
names_old k = (traits_of k).names

abbrev pub makes_new : Kind → Bool
makes_new k = (traits_of k).makes

abbrev pub sets_volume : Kind → Bool
sets_volume k = (traits_of k).sets

abbrev pub is_summary : Kind → Bool
is_summary k = (traits_of k).summary

-- a correction names an original and makes a new line
abbrev pub is_correction : Kind → Bool
is_correction k = names_old k && makes_new k
