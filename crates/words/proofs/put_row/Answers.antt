-- `words::put_row` meets its contract.
-- Assumes nothing.
use Prim.Native.Nat.{ℕ}
use mathlib.Core.Path.{◌≡◌}
use mathlib.Core.Bool.{cond}
use lib.ListN.{length, get_or}
use mir.Syntax.{w8}
use mir.Val.{Fits}
use borrow.Author.Rules.{rules}
use Rattle.octets.proofs.Trips.{whole}
use Rattle.words.specs.Words as W
use Rattle.words.specs.Fits.{RowFits}
use Rattle.words.proofs.put_row.Goals as goal
use Rattle.words.proofs.put_row.Goals.{After-net_word}

symbol_byte : (c : After-net_word) (i : ℕ) → Fits w8 (get_or c.args.r.symbol i 0)
symbol_byte c i = search rules

-- the row that a call brings fits its types
pub entered : (c : After-net_word) → RowFits c.args.r
entered c =
    record {
      symbol = search rules;
      bytes = λ i. (symbol_byte c i).fits;
      net = c.net_word.ensures.fits;
    }

pub returns : goal.returns
unfolding W.row_words
returns c =
    let r = c.args.r in
    let symbol-long : length r.symbol ≡ 8 = search rules in
    let close : c.from.result ≡ r.close = search rules in
    let agrees : c.from-2.result ≡ cond r.agrees 1 0 = search rules in
    simp (
      c.unwrap_or.ensures,
      c.mark-5.ensures,
      agrees,
      c.net_word.ensures.word,
      c.mark-4.ensures,
      c.price_word-3.ensures,
      c.mark-3.ensures,
      c.price_word-2.ensures,
      c.mark-2.ensures,
      c.price_word.ensures,
      c.mark.ensures,
      close,
      c.number.ensures,
      whole r.symbol 8 symbol-long,
    )
