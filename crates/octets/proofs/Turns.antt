-- The turns of a copy: what is copied so far is a run.
-- Assumes nothing.
use mathlib.Core.Path.{◌≡◌, refl, ap, sym, ◌∙◌}
use mathlib.Core.List.{List, [], ◌∷◌}
use Prim.Native.Nat.{ℕ, suc, ◌+◌}
use native.Mathlib.Omega.{arith}
use lib.ListN.{get_or, set}
use lib.Seq.{sets}
use Rattle.octets.specs.Run.{tab, part}
use Rattle.octets.proofs.Laws.{part_length, sets_then}
use Rattle.octets.proofs.Trips.{join, part_cons, part_nil}

alone : (m : List ℕ) (at : ℕ) → get_or m at 0 ∷ [] ≡ part m at 1
alone m at = sym (part_cons m at 0 ∙ ap (λ (xs : List ℕ). get_or m at 0 ∷ xs) (part_nil m (suc at)))

module _ (out s : List ℕ) (to from : ℕ) where
  -- nothing copied yet
  pub copy_none : out ≡ sets out to (part s from 0)
  unfolding part tab
  copy_none = refl

  -- n bytes more
  pub copy_more : (i n : ℕ) → sets (sets out to (part s from i)) (to + i) (part s (from + i) n) ≡ sets out to (part s from (i + n))
  copy_more i n =
      sets_then (part s from i) (part s (from + i) n) out to (to + i) (omega (arith, part_length s from i))
      ∙ ap (sets out to) (join s from i n (from + i) refl)

  -- one byte more
  pub copy_next : (i : ℕ) → set (sets out to (part s from i)) (to + i) (get_or s (from + i) 0) ≡ sets out to (part s from (i + 1))
  copy_next i = ap (sets (sets out to (part s from i)) (to + i)) (alone s (from + i)) ∙ copy_more i 1
