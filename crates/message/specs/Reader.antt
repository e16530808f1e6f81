-- What reading a message by an edition says: 0 and the record that it fills if it obeys the layout of its letter, 4 if no layout of the
-- edition has its letter and its length, 5 if a field breaks its rule.
-- Assumes nothing.
use Rattle.std.specs.Prelude.{ℕ, List, Bool, false, cond, eqb, length, Result, Ok, Err}
use Rattle.std.proofs.Math.Option.{Option, none, some}
use Rattle.answers.specs.declared.Refusal.{Refusal}
use Rattle.answers.specs.Answers.{Answer, answer_of}
use Rattle.editions.specs.declared.Edition.{Edition}
use Rattle.layout.specs.Tables.{Layout, obeys_by}
use Rattle.records.specs.declared.Record.{Record}
use Rattle.records.specs.Zeros.{no_record}
use Rattle.records.specs.Held.{filled_in}
use Rattle.formats.specs.Formats.{layout_for}

-- what a reading says, with the record that it fills
pub record Reading : Type 0 where
  pub answer : Answer
  pub found : Record

-- a refused reading has a record of zeros
abbrev pub reading_of : Result Record Refusal → Reading
reading_of (Ok r) = record { answer = Ok tt; found = r }
reading_of (Err refusal) = record { answer = Err refusal; found = no_record }

-- a refusal by its number hands back a record of zeros
abbrev pub refused_of : ℕ → Reading
refused_of n = record { answer = answer_of n; found = no_record }

abbrev pub accepted_of : Record → Reading
accepted_of r = record { answer = answer_of 0; found = r }

-- the message has the length
abbrev pub shaped_in : Option Layout → List ℕ → Bool
shaped_in none m = false
shaped_in (some l) m = eqb (length m) l.size

-- and obeys
abbrev pub obeys_in : Option Layout → List ℕ → Bool
obeys_in none m = false
obeys_in (some l) m = obeys_by l m

unfoldable pub read_in : Option Layout → List ℕ → Reading
read_in o m = cond (shaped_in o m) (cond (obeys_in o m) (accepted_of (filled_in o m)) (refused_of 5)) (refused_of 4)

unfoldable pub read_of : Edition → List ℕ → Reading
read_of e m = read_in (layout_for e m) m
