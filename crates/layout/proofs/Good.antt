-- What is computed of each table of an edition, and closes by itself: its fields tile it, what is read by it has room in a record, its
-- letter stands where every layout of the edition has it, and no message of it is empty.
-- Assumes nothing.
use mathlib.Core.Path.{◌≡◌}
use mathlib.Core.Bool.{true, false}
use mathlib.Core.Option.{Option, none, some}
use mathlib.Core.List.{List}
use Prim.Native.Nat.{ℕ}
use lib.Dec.{eqb}
use Rattle.layout.specs.Tables.{Layout, tiles, all_narrow, plain_by, ready_by}

pub record Good (place : ℕ) (l : Layout) : Type 0 where
  pub tiled : tiles l ≡ true
  pub narrow : all_narrow l.entries ≡ true
  pub placed : l.place ≡ place
  pub sized : eqb l.size 0 ≡ false

-- a table without digits: any bytes can be stored, and each value is spelt in one way
pub record Sure (l : Layout) : Type 0 where
  pub ready : (m : List ℕ) → ready_by l m ≡ true
  pub plain : (m : List ℕ) → plain_by l m ≡ true

-- P of the layout, if there is one
abbrev pub All : (Layout → Type 0) → Option Layout → Type 0
All P none = Unit
All P (some l) = P l
