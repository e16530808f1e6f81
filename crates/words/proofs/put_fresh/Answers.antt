-- `words::put_fresh` meets its contract.
-- Assumes nothing.
use Prim.Native.Nat.{ℕ}
use mathlib.Core.Path.{ap, ◌∙◌}
use mathlib.Core.List.{List}
use lib.ListN.{set}
use Rattle.words.specs.Words.{counter_words, fresh_words, edition_at}
use Rattle.words.proofs.put_fresh.Goals as goal

pub returns : goal.returns
unfolding fresh_words
returns c = let n = c.args.edition in
    ap (λ (w : List ℕ). set w edition_at n) (c.put_counters.ensures ∙ ap counter_words c.fresh.ensures)
