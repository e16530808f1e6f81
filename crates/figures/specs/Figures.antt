-- A row's figures, and what one more trade makes of them.
-- Assumes nothing.
use Rattle.std.specs.Prelude.{ℕ, ◌+◌, cond, ltb, None, Option, Some}
use Rattle.conditions.specs.declared.Marks.{Marks}
use Rattle.figures.specs.declared.Figures.{Figures}
use Rattle.figures.specs.declared.LastTrade.{LastTrade}

-- the higher of what was seen and a price
abbrev pub raise : Option ℕ → ℕ → Option ℕ
raise None p = Some p
raise (Some q) p = cond (ltb q p) (Some p) (Some q)

-- the lower of what was seen and a price
abbrev pub lower : Option ℕ → ℕ → Option ℕ
lower None p = Some p
lower (Some q) p = cond (ltb p q) (Some p) (Some q)

-- a trade that may be the last
abbrev pub last_trade : ℕ → ℕ → LastTrade
last_trade place price = record { place = place; price = price }

-- the sale with the greater place, of equal places the first
abbrev pub later : Option LastTrade → ℕ → ℕ → Option LastTrade
later None place price = Some (last_trade place price)
later (Some last) place price = cond (ltb last.place place) (Some (last_trade place price)) (Some last)

-- the figures of no trade at all
abbrev pub no_figures : Figures
no_figures = record { volume = 0; count = 0; high = None; low = None; last = None }

-- one more trade: every trade counts for volume, the first mark may set high and low, the second may be the last
unfoldable pub sold : Figures → ℕ → ℕ → ℕ → Marks → Figures
sold t price size place marks =
    record {
      volume = t.volume + size;
      count = t.count + 1;
      high = cond marks.high_low (raise t.high price) t.high;
      low = cond marks.high_low (lower t.low price) t.low;
      last = cond marks.last (later t.last place price) t.last;
    }
