-- What a row's figures mean: each is said of the live lines of its symbol as they stand together, in the order added.
-- The first mark of a condition is the one for high and low, the second the one for last.
-- Assumes nothing.
use Rattle.std.specs.Prelude.{ℕ, ◌+◌, ◌≤◌, ◌<◌, ◌≡◌, Bool, cond, length, None, Option, Some}
use mathlib.Core.List.{List, [], ◌∷◌, ◌++◌, Memᴰ}
use Rattle.conditions.specs.Conditions.{condition_marks}
use Rattle.lines.specs.declared.Line.{Line}
use Rattle.figures.specs.declared.Figures.{Figures}
use Rattle.walk.specs.Walking.{counts}
use Rattle.figures.specs.declared.LastTrade.{LastTrade}

-- ---- which lines

-- the elements that pass, in order
abbrev pub keep {ℓ} : {A : Type ℓ} → (A → Bool) → List A → List A
keep passes [] = []
keep passes (x ∷ xs) = cond (passes x) (x ∷ keep passes xs) (keep passes xs)

-- the live lines of a symbol
abbrev pub live_of : List ℕ → List Line → List Line
live_of symbol ls = keep (counts symbol) ls

abbrev pub bears_first : Line → Bool
bears_first l = (condition_marks l.condition).high_low

abbrev pub bears_second : Line → Bool
bears_second l = (condition_marks l.condition).last

abbrev pub first_mark : List Line → List Line
first_mark ls = keep bears_first ls

abbrev pub second_mark : List Line → List Line
second_mark ls = keep bears_second ls

-- ---- what is read from them

-- the sum of the sizes
abbrev pub sizes : List Line → ℕ
sizes [] = 0
sizes (l ∷ ls) = l.size + sizes ls

-- one of the lines has the price p, and p bounds the price of each of them
pub record Extreme (bounds : ℕ → ℕ → Type 0) (ls : List Line) (p : ℕ) : Type 0 where
  pub line : Line
  pub among : Memᴰ line ls
  pub price : line.price ≡ p
  pub every : (l : Line) → Memᴰ l ls → bounds p l.price

-- absent exactly where there is no line
abbrev pub IsExtreme : (ℕ → ℕ → Type 0) → List Line → Option ℕ → Type 0
IsExtreme bounds ls None = ls ≡ []
IsExtreme bounds ls (Some p) = Extreme bounds ls p

-- the highest price
abbrev pub IsHigh : List Line → Option ℕ → Type 0
IsHigh = IsExtreme (λ (high p : ℕ). p ≤ high)

-- the lowest price
abbrev pub IsLow : List Line → Option ℕ → Type 0
IsLow = IsExtreme (λ (low p : ℕ). low ≤ p)

-- one of the lines has the place v and the price p; lines before it have smaller places, lines after it no greater ones
pub record Newest (ls : List Line) (v p : ℕ) : Type 0 where
  pub before : List Line
  pub line : Line
  pub after : List Line
  pub whole : ls ≡ before ++ (line ∷ after)
  pub place : line.place ≡ v
  pub price : line.price ≡ p
  pub smaller : (l : Line) → Memᴰ l before → l.place < v
  pub no_greater : (l : Line) → Memᴰ l after → l.place ≤ v

-- the price of the line with the greatest place, of equal ones the first; none where there is no line
abbrev pub IsLast : List Line → Option LastTrade → Type 0
IsLast ls None = ls ≡ []
IsLast ls (Some last) = Newest ls last.place last.price

-- ---- the figures

-- f is what a row of the symbol reads from the lines
pub record Are (symbol : List ℕ) (ls : List Line) (f : Figures) : Type 0 where
  pub volume : f.volume ≡ sizes (live_of symbol ls)
  pub count : f.count ≡ length (live_of symbol ls)
  pub high : IsHigh (first_mark (live_of symbol ls)) f.high
  pub low : IsLow (first_mark (live_of symbol ls)) f.low
  pub last : IsLast (second_mark (live_of symbol ls)) f.last
