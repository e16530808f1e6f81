-- The tables of every edition are good.
-- Assumes nothing.
use mathlib.Core.Path.{◌≡◌, refl, subst}
use mathlib.Core.Bool.{true}
use mathlib.Core.List.{List}
use mathlib.Core.Option.{Option, none, some}
use Prim.Native.Nat.{ℕ}
use Rattle.editions.specs.declared.Edition.{Edition}
use Rattle.editions.specs.declared.Edition.TheVariants.{NlsPlus, Pls}
use Rattle.kinds.specs.declared.Kind.{Kind}
use Rattle.kinds.specs.Kinds.{kind_of}
use Rattle.layout.specs.Tables.{Layout}
use Rattle.layout.proofs.Good.{Good, Sure, All}
use Rattle.records.specs.Held.{ready_in}
use Rattle.packing.proofs.Good as Plus
use Rattle.pls.proofs.Good as Ascii
use Rattle.formats.specs.Formats.{letter_place, layout_of, layout_by}

pub good : (e : Edition) (k : Kind) → All (Good (letter_place e)) (layout_of e k)
good NlsPlus k = Plus.good k
good Pls k = Ascii.good k

-- a layout that a letter names is one of these
pub named : (e : Edition) (k : ℕ) (l : Layout) → layout_by e k ≡ some l → Good (letter_place e) l
named e k l q = subst (All (Good (letter_place e))) q (good e (kind_of k))

-- and those of NLS Plus have no digits
pub sure : (k : ℕ) (l : Layout) → layout_by NlsPlus k ≡ some l → Sure l
sure k l q = subst (All Sure) q (Plus.sure (kind_of k))

-- so that whatever the bytes are, each field can be stored
pub plus_ready : (k : Kind) (m : List ℕ) → ready_in (layout_of NlsPlus k) m ≡ true
plus_ready k m = go (layout_of NlsPlus k) (Plus.sure k)
  where
    go : (o : Option Layout) → All Sure o → ready_in o m ≡ true
    go none h = refl
    go (some l) h = h.ready m
