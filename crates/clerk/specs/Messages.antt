-- What the clerk asks of a message that was read: its type, its keys, what it puts in.
-- Assumes nothing.
use Rattle.std.specs.Prelude.{ℕ, List, Bool}
use Rattle.records.specs.declared.Sale.{Sale}
use Rattle.records.specs.declared.Record.{Record}
use Rattle.kinds.specs.Kinds.{is_event, is_correction, is_summary, sets_volume, names_old, makes_new}
use Rattle.keys.specs.Keys.{kind_in, new_sale, new_key}

-- S
abbrev pub event_in : Record → Bool
event_in r = is_event (kind_in r)

-- C
abbrev pub correction_in : Record → Bool
correction_in r = is_correction (kind_in r)

-- J
abbrev pub summary_in : Record → Bool
summary_in r = is_summary (kind_in r)

-- T, X, C and J set the reported volume, where the edition reports one
abbrev pub sets_in : Record → Bool
sets_in r = sets_volume (kind_in r)

-- X and C name an original
abbrev pub names_in : Record → Bool
names_in r = names_old (kind_in r)

-- T and C make a new line
abbrev pub makes_in : Record → Bool
makes_in r = makes_new (kind_in r)

-- what they put in, and its key
abbrev pub sale_in : Record → Sale
sale_in r = new_sale (kind_in r) r

abbrev pub key_in : Record → List ℕ
key_in r = new_key (kind_in r) r
