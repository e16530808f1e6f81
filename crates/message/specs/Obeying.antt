-- What it means that a message obeys an edition and that a record keeps its rules: to obey, and to be lawful for, the layout of the edition
-- that its letter names. Nothing here looks at how the reader works: that it reads exactly this is a theorem.
-- Assumes nothing.
use Rattle.std.specs.Prelude.{ℕ, ◌≡◌, true, List, length}
use Rattle.std.proofs.Math.Option.{some}
use Rattle.editions.specs.declared.Edition.{Edition}
use Rattle.layout.specs.Tables as Tables
use Rattle.layout.specs.Forms.{plain}
use Rattle.layout.specs.Tables.{Layout, form_of, bytes_at, Each}
use Rattle.records.specs.declared.Record.{Record}
use Rattle.records.specs.Held.{holds}
use Rattle.formats.specs.Formats.{layout_by, layout_for}

-- the byte at the edition's letter place names a type, and the length is that type's
pub record Shaped (e : Edition) (m : List ℕ) : Type 0 where
  pub type : Layout
  pub typed : layout_for e m ≡ some type
  pub long : length m ≡ type.size

-- and each field spells a value that keeps its rule
pub record Obeys (e : Edition) (m : List ℕ) : Type 0 where
  pub type : Layout
  pub typed : layout_for e m ≡ some type
  pub obeys : Tables.Obeys type m

-- each number in digits is spelt as we write it
abbrev pub OurForm : (e : Edition) (m : List ℕ) → Obeys e m → Type 0
OurForm e m o = Each (λ x. plain (form_of x) (bytes_at x m) ≡ true) o.type.entries

-- the record's letter names a type, each field of it keeps its rule, and every other field is zero
pub record Lawful (e : Edition) (r : Record) : Type 0 where
  pub type : Layout
  pub typed : layout_by e r.letter ≡ some type
  pub lawful : Tables.Lawful type (holds r)
