-- Each public function's contract leaves one possible answer and one possible content for each lent byte. `Learnt` is
-- that contract as the compiler hands it to a caller: of the arguments, of the result, and of the arguments again as
-- the call returns.
-- Assumes nothing.
use mathlib.Core.Path.{◌≡◌, sym, ◌∙◌}
use Rattle.rows.specs.declared.Row.{Row}
use Rattle.figures.specs.declared.Figures.{Figures}
use Rattle.show.specs.declared.RowShown.{RowShown}
use Rattle.show.proofs.nothing.Reads as nothing-reads
use Rattle.show.proofs.shown.Reads as shown-reads

pub nothing_one : (r r' : RowShown) → nothing-reads.Learnt tt tt r tt → nothing-reads.Learnt tt tt r' tt → r ≡ r'
nothing_one r r' h h' = h ∙ sym h'

pub shown_one : (w : Row) (f : Figures) (w₁ w₂ : Row) (f₁ f₂ : Figures) (r r' : RowShown)
    → shown-reads.Learnt tt (w, (f, tt)) r (w₁, (f₁, tt)) → shown-reads.Learnt tt (w, (f, tt)) r' (w₂, (f₂, tt)) → r ≡ r'
shown_one w f w₁ w₂ f₁ f₂ r r' h h' = h ∙ sym h'
