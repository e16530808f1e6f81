-- What a row reads, from live lines of its symbol only, worked out line by line in the order added.
-- Assumes nothing.
use Rattle.std.specs.Prelude.{ℕ, List, [], ◌∷◌, Bool, cond, ◌&&◌}
use Rattle.octets.specs.Run.{same}
use Rattle.conditions.specs.Conditions.{condition_marks}
use Rattle.lines.specs.declared.Line.{Line}
use Rattle.figures.specs.declared.Figures.{Figures}
use Rattle.figures.specs.Figures.{no_figures, sold}

-- whether a line counts for a symbol's row: it is live, and of the symbol
unfoldable pub counts : List ℕ → Line → Bool
counts symbol l = l.live && same l.symbol symbol

-- the figures with one more trade, a line's, whose marks are its condition's
abbrev pub dealt : Figures → Line → Figures
dealt t l = sold t l.price l.size l.place (condition_marks l.condition)

-- one more line, which may be dead or another symbol's
unfoldable pub tally : List ℕ → Figures → Line → Figures
tally symbol t l = cond (counts symbol l) (dealt t l) t

unfoldable pub fold : {A : Type 0} → (A → Line → A) → A → List Line → A
fold f a [] = a
fold f a (l ∷ ls) = fold f (f a l) ls

unfoldable pub figures_of : List ℕ → List Line → Figures
figures_of symbol ls = fold (tally symbol) no_figures ls
