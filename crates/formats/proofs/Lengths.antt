-- The lengths of each edition's messages: as printed, and in no two editions the same.
-- Assumes nothing.
use mathlib.Core.Path.{◌≡◌, refl}
use mathlib.Core.Bool.{Bool, true, false, not, ◌&&◌, ◌||◌, and-eq-true_iff}
use mathlib.Core.List.{[], ◌∷◌, ◌++◌, map}
use borrow.Author.Tests.{eqb-true, eq-eqb}
use lib.Dec.{eqb}
use Rattle.editions.specs.declared.Edition.TheVariants.{NlsPlus, Pls}
use Rattle.kinds.specs.declared.Kind.{Kind}
use Rattle.kinds.specs.declared.Kind.TheVariants.{Other}
use Rattle.kinds.specs.Kinds.{all_kinds}
use Rattle.kinds.proofs.Laws.{passes, every}
use Rattle.layout.proofs.Forms.{clash}
use Rattle.packing.specs.Layouts as Plus
use Rattle.pls.specs.Layouts as Ascii
use Rattle.formats.specs.Formats.{length_of}

-- S, T, X, C, J; PLS has no J
pub record Printed : Type 0 where
  pub plus : map (length_of NlsPlus) all_kinds ≡ Plus.printed_lengths
  pub ascii : map (length_of Pls) all_kinds ≡ Ascii.printed_lengths ++ (0 ∷ [])

pub lengths_printed : Printed
unfolding Plus.layout_s Plus.layout_t Plus.layout_c Plus.layout_j Ascii.layout_s Ascii.layout_t Ascii.layout_c
lengths_printed = record { plus = refl; ascii = refl }

-- ---- no length of NLS Plus is one of PLS

-- no messages at all, or of another length
abbrev other : Kind → Kind → Bool
other j k = eqb (length_of NlsPlus j) 0 || not (eqb (length_of NlsPlus j) (length_of Pls k))

abbrev others : Kind → Bool
others j = passes (other j) all_kinds && other j Other

computed : (passes others all_kinds ≡ true) × (others Other ≡ true)
unfolding Plus.layout_s Plus.layout_t Plus.layout_c Plus.layout_j Ascii.layout_s Ascii.layout_t Ascii.layout_c
computed = (refl, refl)

-- of two types' messages of one length, there are none
pub same_none : (j k : Kind) → length_of NlsPlus j ≡ length_of Pls k → length_of NlsPlus j ≡ 0
same_none j k q =
    let h = (and-eq-true_iff (passes (other j) all_kinds) (other j Other)).0 (every others computed.0 computed.1 j) in
    go (eqb (length_of NlsPlus j) 0) refl (every (other j) h.0 h.1 k)
  where
    go : (t : Bool) → eqb (length_of NlsPlus j) 0 ≡ t → (t || not (eqb (length_of NlsPlus j) (length_of Pls k))) ≡ true
        → length_of NlsPlus j ≡ 0
    go true e h = eqb-true (length_of NlsPlus j) 0 e
    go false e h = clash (rw (eq-eqb (length_of NlsPlus j) (length_of Pls k) q) at h)
