-- One line more in a walk, and the turns of its loop.
-- Assumes nothing.
use mathlib.Core.Path.{◌≡◌, ap, ◌∙◌}
use mathlib.Core.Bool.{true, false, ◌&&◌}
use mathlib.Core.List.{List}
use Prim.Native.Nat.{ℕ, ◌+◌, ◌-◌, ◌*◌, ◌≤◌, ◌<◌}
use lib.Dec.{eqb}
use lib.ListN.{get_or}
use Rattle.octets.specs.Run.{tab, part, Bytes}
use Rattle.octets.proofs.Bytes.{part_bytes}
use Rattle.octets.proofs.Laws.{tab_step, tab_end}
use Rattle.lines.specs.Cell.{line_cell, at_symbol, at_live}
use Rattle.lines.specs.Lines.{line_from, line_at}
use Rattle.lines.specs.Alone.{line_alone}
use Rattle.lines.specs.declared.Line.{Line}
use Rattle.figures.specs.declared.Figures.{Figures}
use Rattle.eights.specs.Low.{low}
use Rattle.eights.proofs.Low.{Named, named_same}
use Rattle.walk.specs.Walking.{counts, dealt, tally, fold}

-- a line counts if it is live and its symbol's number is that of the symbol
pub counts_number : (m symbol : List ℕ) (at name : ℕ) → Bytes m → Named name symbol
    → (eqb (get_or m (at + at_live) 0) 1 && eqb (low (part m (at + at_symbol) 8)) name) ≡ counts symbol (line_from m at)
unfolding counts line_from
counts_number m symbol at name b h = rw (named_same m symbol (at + at_symbol) name b h)

-- a line's cell, cut out of the room
module _ (m cell : List ℕ) (i : ℕ) (e : cell ≡ part m (i * line_cell) line_cell) where
  pub line_here : line_from cell 0 ≡ line_at m i
  line_here = rw e (line_alone m (i * line_cell))

  pub counts_here : (symbol : List ℕ) (name : ℕ) → Bytes m → Named name symbol
      → (eqb (get_or cell at_live 0) 1 && eqb (low (part cell at_symbol 8)) name) ≡ counts symbol (line_at m i)
  counts_here symbol name b h =
      let fit : Bytes cell = rw e (part_bytes m (i * line_cell) line_cell b) in
      counts_number cell symbol 0 name fit h ∙ ap (counts symbol) line_here

module _ (symbol : List ℕ) (t : Figures) (l : Line) where
  pub tally_counted : counts symbol l ≡ true → tally symbol t l ≡ dealt t l
  unfolding tally
  tally_counted h = rw h

  pub tally_other : counts symbol l ≡ false → tally symbol t l ≡ t
  unfolding tally
  tally_other h = rw h

pub fold_step : {A : Type 0} (f : A → Line → A) (a : A) (g : ℕ → Line) (i n : ℕ) → i < n
    → fold f a (tab g i (n - i)) ≡ fold f (f a (g i)) (tab g (i + 1) (n - (i + 1)))
unfolding fold
fold_step f a g i n h = rw (tab_step g i n h)

pub fold_end : {A : Type 0} (f : A → Line → A) (a : A) (g : ℕ → Line) (i n : ℕ) → n ≤ i → fold f a (tab g i (n - i)) ≡ a
unfolding fold
fold_end f a g i n h = rw (tab_end g i n h)
