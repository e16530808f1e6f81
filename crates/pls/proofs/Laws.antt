-- What `plsread` and `plswrite` both use: how long messages are, and runs of bytes stored one behind the other.
-- Assumes nothing.
use mathlib.Core.Path.{◌≡◌, ◌∙◌}
use mathlib.Core.List.{List, ◌++◌}
use Prim.Native.Nat.{ℕ, ◌+◌, ◌≤◌}
use native.Mathlib.Omega.{arith}
use lib.ListN.{length}
use lib.Seq.{sets}
use Rattle.octets.proofs.Laws.{sets_then}
use Rattle.kinds.specs.declared.Kind.{Kind}
use Rattle.kinds.specs.declared.Kind.TheVariants.{Event, Trade, Cancel, Correction, Summary, Other}
use Rattle.pls.specs.Layouts.{layout_s, layout_t, layout_c, length_of}

pub longest : (k : Kind) → length_of k ≤ 85
unfolding layout_s layout_t layout_c
longest Event = omega arith
longest Trade = omega arith
longest Cancel = omega arith
longest Correction = omega arith
longest Summary = omega arith
longest Other = omega arith

-- four runs stored one behind the other
pub four_runs : (A B C D l : List ℕ) (at p q r : ℕ) → at + length A ≡ p → p + length B ≡ q → q + length C ≡ r
    → sets (sets (sets (sets l at A) p B) q C) r D ≡ sets l at (A ++ (B ++ (C ++ D)))
four_runs A B C D l at p q r e f g =
    sets_then C D (sets (sets l at A) p B) q r g ∙ sets_then B (C ++ D) (sets l at A) p q f ∙ sets_then A (B ++ (C ++ D)) l at p e
