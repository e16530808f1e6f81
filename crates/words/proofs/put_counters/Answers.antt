-- `words::put_counters` meets its contract.
-- Assumes nothing.
use Prim.Native.Nat.{ℕ}
use mathlib.Core.Path.{◌≡◌, ap}
use mathlib.Core.List.{[], ◌∷◌}
use Rattle.counters.specs.declared.Counters.{Counters}
use Rattle.editions.specs.Editions.{edition_number}
use Rattle.words.specs.Words.{counter_words}
use Rattle.words.proofs.put_counters.Goals as goal

-- the five counters and the edition's number are the words
are_words : (c : Counters) (n : ℕ) → n ≡ edition_number c.start.edition
    → c.wanted ∷ c.phase ∷ c.rows ∷ c.lines ∷ c.taken ∷ n ∷ [] ≡ counter_words c
unfolding counter_words
are_words c n e = ap (λ (x : ℕ). c.wanted ∷ c.phase ∷ c.rows ∷ c.lines ∷ c.taken ∷ x ∷ []) e

pub returns : goal.returns
returns c = are_words c.args.c c.from-n.result c.from-n.ensures
