-- The line: arrivals of numbered messages, and the largest count that arrives in order.
-- Assumes nothing.
use Rattle.std.specs.Prelude.{ℕ, zero, suc, ◌≤◌, ◌≡◌}
use mathlib.Core.List.{List, [], ◌∷◌, map, Sublistᴰ}
use Rattle.book.specs.State.{Arrival}
use Rattle.clerk.specs.Steps.{Book, wanted_done, next}

-- the n numbers from a on
unfoldable pub run : ℕ → ℕ → List ℕ
run a zero = []
run a (suc n) = a ∷ run (suc a) n

-- n is the largest count for which 1, 2, up to n occur in that order among the numbers
pub record Largest (ks : List ℕ) (n : ℕ) : Type 0 where
  pub occurs : Sublistᴰ (run 1 n) ks
  pub most : (m : ℕ) → Sublistᴰ (run 1 m) ks → m ≤ n

abbrev pub numbers : List Arrival → List ℕ
numbers l = map (λ (a : Arrival). a.number) l

-- no number is above N, and what bears a number from 1 on is a copy of the day's message of that number
abbrev pub Copies : (ℕ → List ℕ) → ℕ → List Arrival → Type 0
Copies day N [] = Unit {0}
Copies day N (a ∷ l) = ((a.number ≤ N) × (1 ≤ a.number → a.message ≡ day a.number)) × Copies day N l

-- the messages 1 to n, the newest first
unfoldable pub upto : (ℕ → List ℕ) → ℕ → List (List ℕ)
upto day zero = []
upto day (suc n) = day (suc n) ∷ upto day n

-- a book after these used messages, the newest first
unfoldable pub play : ℕ → Book → List (List ℕ) → Book
play limit b [] = b
play limit b (m ∷ ms) = wanted_done limit (play limit b ms) m

-- each arrival delivered as it comes
unfoldable pub deliver_each : ℕ → Book → List Arrival → Book
deliver_each limit b [] = b
deliver_each limit b (a ∷ l) = deliver_each limit (next limit b a) l
