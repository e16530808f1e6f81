-- `print::symbols::put_symbol` meets its contract.
-- Assumes nothing.
use mathlib.Core.Path.{◌≡◌, ap, ◌∙◌}
use Prim.Native.Nat.{ℕ, ◌+◌}
use native.Mathlib.Omega.{arith}
use lib.ListN.{length}
use lib.Seq.{sets}
use Rattle.print.proofs.Padding.{unpadded_front, unpadded_short}
use Rattle.print.proofs.Laws.{run}
use borrow.Author.Rules.{rules}
use Rattle.print.proofs.symbols.put_symbol.Goals as goal

pub slice_bounds-symbol-end : goal.slice_bounds-symbol-end
slice_bounds-symbol-end c = omega (arith, c.unpadded-k.ensures, unpadded_short c.args.symbol)

pub returns : goal.returns
returns c =
    let symbol-long : length c.args.symbol ≡ 8 = search rules in
    let a = c.args in
    let u = c.unpadded-k in
    run 8 (c.paste.ensures ∙ ap (sets a.out.now a.at) (unpadded_front a.symbol u.result u.ensures))
    (ap (λ (k : ℕ). a.at + k) u.ensures) (omega (arith, unpadded_short a.symbol, symbol-long))
