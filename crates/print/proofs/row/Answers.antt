-- `print::row` meets its contract.
-- Assumes nothing.
use Rattle.print.proofs.Laws.{from_start, row_put}
use Rattle.print.proofs.row.Goals as goal
use Rattle.print.specs.Fits.{RowFits}
use borrow.Author.Rules.{rules}
use Rattle.print.proofs.row.Goals.{After-put_byte}

-- the row that a call brings fits its types
pub entered : (c : After-put_byte) → RowFits c.args.shown
entered c =
    let prices = c.put_prices-b.ensures.fits in
    record {
      symbol = search rules;
      last = prices.0;
      high = prices.1.0;
      low = prices.1.1;
      net = c.put_net-c.ensures.fits;
      volume = search rules;
      count = search rules;
      reported = c.put_counts-d.ensures.fits;
    }

pub returns : goal.returns
returns c =
    let told = from_start (row_put c.args.shown c.put_symbol-a.ensures c.put_prices-b.ensures.put c.put_net-c.ensures.put
    c.put_counts-d.ensures.put c.put_byte.ensures) in
    record { bytes = told.0; count = told.1 }
