-- A table of answers: cases in the table's own order, of which the first that applies is given.
-- Assumes nothing.
use Rattle.std.specs.Prelude.{ℕ, List, [], ◌∷◌, Bool, true, false, cond, not}

-- a number, when it applies, and whether a message that gets it uses up its number
pub record Case : Type 0 where
  pub number : ℕ
  pub applies : Bool
  pub uses : Bool

-- a case that leaves the wanted number
abbrev pub says : ℕ → Bool → Case
says n applies = record { number = n; applies = applies; uses = false }

-- a case that uses up the number
abbrev pub spends : ℕ → Bool → Case
spends n applies = record { number = n; applies = applies; uses = true }

-- what is given where no case applies
abbrev pub done : Case
done = says 0 true

-- the first that applies
abbrev pub given : List Case → Case
given [] = done
given (c ∷ cs) = cond c.applies c (given cs)

-- 17 goes first
abbrev pub in_book : Bool → List Case → List Case
in_book sound cases = says 17 (not sound) ∷ cases
