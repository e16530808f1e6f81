-- What the exported calls are lent and given, and what they leave, by name.
-- Assumes nothing.
use Prim.Native.Nat.{ℕ}
use mathlib.Core.List.{List}
use contract.Lifetimes.{Lfts}
use borrow.Fn.World.{ArgsD}
use borrow.Fn.Kinds.{ended_of}
use denote.Triple.Clauses.{AtExit}
use Rattle.rows.specs.declared.Listing.{Listing}
use Rattle.book.specs.State.{Arrival, arrives}
use Rattle.cabinet.specs.Crossing.{Held, holding, listing_with}
use Rattle.cabinet.specs.contracts.sorundappa_start as start
use Rattle.cabinet.proofs.sorundappa_start.Kinds as start-kinds
use Rattle.cabinet.specs.contracts.sorundappa_list as list
use Rattle.cabinet.proofs.sorundappa_list.Kinds as list-kinds
use Rattle.cabinet.specs.contracts.sorundappa_deliver as deliver
use Rattle.cabinet.proofs.sorundappa_deliver.Kinds as deliver-kinds
use Rattle.cabinet.specs.contracts.sorundappa_row as row
use Rattle.cabinet.proofs.sorundappa_row.Kinds as row-kinds
use Rattle.cabinet.specs.contracts.sorundappa_read as read
use Rattle.cabinet.proofs.sorundappa_read.Kinds as read-kinds
use Rattle.cabinet.specs.contracts.sorundappa_write as write
use Rattle.cabinet.proofs.sorundappa_write.Kinds as write-kinds

-- ---- the lifetimes of each call, its arguments, and what of them is there as it returns

abbrev pub StartLfts : Type 0
StartLfts = Lfts (start.signature).lifetimes

abbrev pub StartArgs : StartLfts → Type 0
StartArgs κs = ArgsD start.signature κs

abbrev pub StartExit : StartLfts → Type 0
StartExit κs = AtExit (ended_of (start.signature).lifetimes start-kinds.ps start-kinds.r) κs

abbrev pub ListLfts : Type 0
ListLfts = Lfts (list.signature).lifetimes

abbrev pub ListArgs : ListLfts → Type 0
ListArgs κs = ArgsD list.signature κs

abbrev pub ListExit : ListLfts → Type 0
ListExit κs = AtExit (ended_of (list.signature).lifetimes list-kinds.ps list-kinds.r) κs

abbrev pub DeliverLfts : Type 0
DeliverLfts = Lfts (deliver.signature).lifetimes

abbrev pub DeliverArgs : DeliverLfts → Type 0
DeliverArgs κs = ArgsD deliver.signature κs

abbrev pub DeliverExit : DeliverLfts → Type 0
DeliverExit κs = AtExit (ended_of (deliver.signature).lifetimes deliver-kinds.ps deliver-kinds.r) κs

abbrev pub RowLfts : Type 0
RowLfts = Lfts (row.signature).lifetimes

abbrev pub RowArgs : RowLfts → Type 0
RowArgs κs = ArgsD row.signature κs

abbrev pub RowExit : RowLfts → Type 0
RowExit κs = AtExit (ended_of (row.signature).lifetimes row-kinds.ps row-kinds.r) κs

abbrev pub ReadLfts : Type 0
ReadLfts = Lfts (read.signature).lifetimes

abbrev pub ReadArgs : ReadLfts → Type 0
ReadArgs κs = ArgsD read.signature κs

abbrev pub ReadExit : ReadLfts → Type 0
ReadExit κs = AtExit (ended_of (read.signature).lifetimes read-kinds.ps read-kinds.r) κs

abbrev pub WriteLfts : Type 0
WriteLfts = Lfts (write.signature).lifetimes

abbrev pub WriteArgs : WriteLfts → Type 0
WriteArgs κs = ArgsD write.signature κs

abbrev pub WriteExit : WriteLfts → Type 0
WriteExit κs = AtExit (ended_of (write.signature).lifetimes write-kinds.ps write-kinds.r) κs

-- ---- a start: the edition's number that it is given, and the words that it leaves

module _ (κs : StartLfts) where
  abbrev pub start_given : StartArgs κs → ℕ
  start_given a = a.1.0

  abbrev pub start_left : StartExit κs → List ℕ
  start_left x = x.0.now

-- ---- a listing

module _ (κs : ListLfts) (a : ListArgs κs) where
  -- what the call is lent, and what it is given
  abbrev pub list_from : Held
  list_from = holding a.0.now a.1.0.now a.1.1.0.now

  abbrev pub list_given : Listing
  list_given = listing_with a.1.1.1.0.now a.1.1.1.1.0

  -- what it leaves; the room for lines is lent to be read
  abbrev pub list_left : ListExit κs → Held
  list_left x = holding x.0.now x.1.0.now a.1.1.0.now

-- ---- a delivery

module _ (κs : DeliverLfts) where
  abbrev pub deliver_from : DeliverArgs κs → Held
  deliver_from a = holding a.0.now a.1.0.now a.1.1.0.now

  abbrev pub deliver_given : DeliverArgs κs → Arrival
  deliver_given a = arrives a.1.1.1.0 a.1.1.1.1.0.now

  abbrev pub deliver_left : DeliverExit κs → Held
  deliver_left x = holding x.0.now x.1.0.now x.1.1.0.now

-- ---- a row's reading: all that a caller holds is lent to be read

module _ (κs : RowLfts) where
  abbrev pub row_from : RowArgs κs → Held
  row_from a = holding a.0.now a.1.0.now a.1.1.0.now

  -- the symbol that is asked, and the words of the row
  abbrev pub row_asked : RowArgs κs → List ℕ
  row_asked a = a.1.1.1.0.now

  abbrev pub row_left : RowExit κs → List ℕ
  row_left x = x.1.1.1.1.0.now

-- ---- a message alone: the edition's number, the message, and the bytes of its record

module _ (κs : ReadLfts) where
  abbrev pub read_edition : ReadArgs κs → ℕ
  read_edition a = a.0

  abbrev pub read_message : ReadArgs κs → List ℕ
  read_message a = a.1.0.now

  abbrev pub read_left : ReadExit κs → List ℕ
  read_left x = x.1.1.0.now

-- the edition's number, the bytes of a record, and the space before the call and after it
module _ (κs : WriteLfts) where
  abbrev pub write_edition : WriteArgs κs → ℕ
  write_edition a = a.0

  abbrev pub write_given : WriteArgs κs → List ℕ
  write_given a = a.1.0.now

  abbrev pub write_from : WriteArgs κs → List ℕ
  write_from a = a.1.1.0.now

  abbrev pub write_left : WriteExit κs → List ℕ
  write_left x = x.1.1.0.now
