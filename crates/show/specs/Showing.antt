-- What a row reads: what is kept in it, and the figures of its symbol's live lines.
-- Assumes nothing.
use Rattle.std.specs.Prelude.{ℕ, Bool, false, cond, ◌&&◌, eqb, pos, ◌-ℤ◌, replicate, None, Option, Some, ℤ}
use Rattle.rows.specs.declared.Row.{Row}
use Rattle.figures.specs.declared.Figures.{Figures}
use Rattle.show.specs.declared.RowShown.{RowShown}
use Rattle.figures.specs.declared.LastTrade.{LastTrade}
use Rattle.rows.specs.declared.HighLow.{HighLow}

-- last is the price of the newest trade that may be the last
abbrev pub last_of : Option LastTrade → Option ℕ
last_of None = None
last_of (Some last) = Some last.price

-- net change is last minus close; absent if there is no last or the close is 0
abbrev pub net_of : Option ℕ → ℕ → Option ℤ
net_of None close = None
net_of (Some last) close = cond (eqb close 0) None (Some (pos last -ℤ pos close))

-- an absent figure counts as 0
abbrev pub or_zero : Option ℕ → ℕ
or_zero None = 0
or_zero (Some p) = p

-- the row agrees if a J was taken and its high and low equal the row's
abbrev pub agrees_with : Option HighLow → Option ℕ → Option ℕ → Bool
agrees_with None high low = false
agrees_with (Some said) high low = eqb said.high (or_zero high) && eqb said.low (or_zero low)

unfoldable pub shown_of : Row → Figures → RowShown
shown_of r f =
    record {
      symbol = r.listing.symbol;
      close = r.listing.close;
      last = last_of f.last;
      high = f.high;
      low = f.low;
      net = net_of (last_of f.last) r.listing.close;
      volume = f.volume;
      count = f.count;
      agrees = agrees_with r.summary f.high f.low;
      reported = r.reported;
    }

-- a refused reading hands back zeros and absent figures
abbrev pub nothing_shown : RowShown
nothing_shown =
    record {
      symbol = replicate 8 0;
      close = 0;
      last = None;
      high = None;
      low = None;
      net = None;
      volume = 0;
      count = 0;
      agrees = false;
      reported = None;
    }
