-- Each public function's contract leaves one possible answer. `Learnt` is that contract as the compiler hands it to a caller:
-- of the arguments, of the result, and of the arguments again as the call returns.
-- Assumes nothing.
use Rattle.std.specs.Prelude.{Option, ℕ}
use mathlib.Core.Path.{◌≡◌, sym, ◌∙◌}
use mathlib.Core.Bool.{Bool}
use Prim.Native.Nat.{ℕ}
use Rattle.figures.proofs.higher.Reads as higher
use Rattle.figures.proofs.lowered.Reads as lowered
use Rattle.figures.proofs.latest.Reads as latest
use Rattle.figures.specs.declared.LastTrade.{LastTrade}

module _ (h e e' : Option ℕ) (marked m m' : Bool) (p q q' : ℕ) (r r' : Option ℕ) where
  pub higher_one : higher.Learnt tt (h, (marked, (p, tt))) r (e, (m, (q, tt)))
      → higher.Learnt tt (h, (marked, (p, tt))) r' (e', (m', (q', tt))) → r ≡ r'
  higher_one l l' = l ∙ sym l'

  pub lowered_one : lowered.Learnt tt (h, (marked, (p, tt))) r (e, (m, (q, tt)))
      → lowered.Learnt tt (h, (marked, (p, tt))) r' (e', (m', (q', tt))) → r ≡ r'
  lowered_one l l' = l ∙ sym l'

pub latest_one : (h e e' : Option LastTrade) (marked m m' : Bool) (v p w q w' q' : ℕ) (r r' : Option LastTrade)
    → latest.Learnt tt (h, (marked, (v, (p, tt)))) r (e, (m, (w, (q, tt))))
    → latest.Learnt tt (h, (marked, (v, (p, tt)))) r' (e', (m', (w', (q', tt)))) → r ≡ r'
latest_one h e e' marked m m' v p w q w' q' r r' l l' = l ∙ sym l'
