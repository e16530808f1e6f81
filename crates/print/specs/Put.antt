-- What a function that stores a text at a place promises.
-- Assumes nothing.
use Rattle.std.specs.Prelude.{ℕ, ◌+◌, ◌≤◌, ◌≡◌, List, length}
use Rattle.std.proofs.lemmas.List.Edits.{sets}

-- the text stands from the place on, what comes next stands behind it, and the text is no longer than `most`
pub record Put (most : ℕ) (l : List ℕ) (at : ℕ) (text l' : List ℕ) (next : ℕ) : Type 0 where
  pub bytes : l' ≡ sets l at text
  pub behind : next ≡ at + length text
  pub near : length text ≤ most
