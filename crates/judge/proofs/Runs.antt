-- Runs of a record's bytes: whether they are zero, a text, four codes; and the fields that each layout lacks, as runs.
-- Assumes nothing.
use mathlib.Core.Path.{◌≡◌, refl, ap, sym, ◌∙◌}
use mathlib.Core.Bool.{Bool, true, ◌&&◌, ◌||◌, and-true, and_assoc}
use mathlib.Core.List.{List, [], ◌∷◌, ◌++◌}
use Prim.Native.Nat.{ℕ, ◌+◌}
use native.Mathlib.Nat.{add-zero}
use lib.Dec.{eqb}
use lib.ListN.{get_or}
use Rattle.std.specs.List.{fold}
use Rattle.octets.specs.Run.{tab, part, all}
use Rattle.octets.proofs.Trips.{all_append}
use Rattle.editions.specs.declared.Edition.{Edition}
use Rattle.editions.specs.declared.Edition.TheVariants.{NlsPlus, Pls}
use Rattle.editions.specs.Editions.{reports}
use Rattle.kinds.specs.declared.Kind.{Kind}
use Rattle.kinds.specs.declared.Kind.TheVariants.{Event, Trade, Cancel, Correction, Summary}
use Rattle.layout.specs.Carrying.{runs}
use Rattle.layout.specs.Tables.{Layout, lacked}
use Rattle.records.specs.Held.{kept, lawful}
use Rattle.records.specs.Packed.{slots, record_of}
use Rattle.records.proofs.Again.{judged}
use Rattle.rules.specs.Rules as Rules
use Rattle.packing.specs.Layouts as Plus
use Rattle.pls.specs.Layouts as Ascii
use Rattle.formats.specs.Formats.{layout_of}
use Rattle.judge.specs.Judged.{kept_in, lawful_in}

-- ---- runs

-- as a walk over the bytes asks them
pub none_walked : (t : Bool) (xs : List ℕ) → fold (λ a x. a && eqb x 0) t xs ≡ t && all 0 xs
none_walked t [] = sym (and-true t)
none_walked t (x ∷ xs) = none_walked (t && eqb x 0) xs ∙ and_assoc t (eqb x 0) (all 0 xs)

-- four bytes as a run
pub four_bytes : (m : List ℕ) (at : ℕ)
    → Rules.condition (get_or m at 0 ∷ get_or m (at + 1) 0 ∷ get_or m (at + 2) 0 ∷ get_or m (at + 3) 0 ∷ []) ≡ Rules.condition (part m at 4)
unfolding part tab
four_bytes m at = rw (add-zero at)

-- ---- the fields that each layout lacks, as runs

-- two runs, and three
two : (xs ys : List ℕ) → all 0 xs && all 0 ys && true ≡ all 0 (xs ++ ys)
two xs ys = and-true (all 0 xs && all 0 ys) ∙ sym (all_append 0 xs ys)

three : (xs ys zs : List ℕ) → all 0 xs && all 0 ys && all 0 zs ≡ all 0 (xs ++ (ys ++ zs))
three xs ys zs =
    and_assoc (all 0 xs) (all 0 ys) (all 0 zs)
    ∙ ap (λ (t : Bool). all 0 xs && t) (sym (all_append 0 ys zs))
    ∙ sym (all_append 0 xs (ys ++ zs))

module _ (b : List ℕ) where
  -- a test besides the rules of a layout's fields, and what it amounts to
  besides : (l : Layout) (t : Bool) → t ≡ all 0 (runs slots b (lacked l)) → kept l (record_of b) && t ≡ lawful l (record_of b)
  besides l t e = ap (λ (x : Bool). kept l (record_of b) && x) e ∙ judged l b

  -- and the same of a type's
  abbrev Besides : Edition → Kind → Bool → Type 0
  Besides e k t = kept_in (layout_of e k) (record_of b) && t ≡ lawful_in (layout_of e k) (record_of b)

  -- a volume is asked where the edition has none
  abbrev unreported : Edition → Bool
  unreported e = reports e || all 0 (part b 72 8)

  pub s_said : (e : Edition) → Besides e Event (all 0 (part b 6 74))
  unfolding part tab slots lacked Plus.layout_s Ascii.layout_s
  s_said NlsPlus = besides Plus.layout_s _ refl
  s_said Pls = besides Ascii.layout_s _ refl

  pub t_said : (e : Edition) → Besides e Trade (all 0 (part b 5 1) && all 0 (part b 38 34) && unreported e)
  unfolding part tab slots lacked Plus.layout_t Ascii.layout_t
  t_said NlsPlus = besides (Plus.layout_t 84) _ (two (part b 5 1) (part b 38 34))
  t_said Pls = besides (Ascii.layout_t 84) _ (three (part b 5 1) (part b 38 34) (part b 72 8))

  pub x_said : (e : Edition) → Besides e Cancel (all 0 (part b 5 1) && all 0 (part b 38 34) && unreported e)
  unfolding part tab slots lacked Plus.layout_t Ascii.layout_t
  x_said NlsPlus = besides (Plus.layout_t 88) _ (two (part b 5 1) (part b 38 34))
  x_said Pls = besides (Ascii.layout_t 88) _ (three (part b 5 1) (part b 38 34) (part b 72 8))

  pub c_said : (e : Edition) → Besides e Correction (all 0 (part b 5 1) && all 0 (part b 60 12) && unreported e)
  unfolding part tab slots lacked Plus.layout_c Ascii.layout_c
  c_said NlsPlus = besides Plus.layout_c _ (two (part b 5 1) (part b 60 12))
  c_said Pls = besides Ascii.layout_c _ (three (part b 5 1) (part b 60 12) (part b 72 8))

  pub j_said : (e : Edition) → Besides e Summary (all 0 (part b 5 2) && all 0 (part b 16 44))
  unfolding part tab slots lacked Plus.layout_j
  j_said NlsPlus = besides Plus.layout_j _ (sym (all_append 0 (part b 5 2) (part b 16 44)))
  j_said Pls = refl
