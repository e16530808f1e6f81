-- `print::columns::put_price` meets its contract.
-- Assumes nothing.
use Rattle.std.specs.Prelude.{Option, ℕ}
use mathlib.Core.Path.{ap, sym}
use mathlib.Core.List.{◌∷◌}
use Prim.Native.Nat.{◌+◌}
use native.Mathlib.Omega.{arith}
use Rattle.decimal.proofs.Amount.{amount_short}
use Rattle.print.specs.Texts.{price_text}
use Rattle.print.proofs.Laws.{byte, then, retold, figure}
use Rattle.print.proofs.columns.put_price.Goals as goal

pub overflow_add-result-in-Some : goal.overflow_add-result-in-Some
overflow_add-result-in-Some c = let h = amount_short c.in-Some.x (omega arith) in
    omega (arith, c.put_amount.ensures.count, c.requires)

pub returns-in-Some-clause-put : goal.returns-in-Some-clause-put
returns-in-Some-clause-put c = let h = amount_short c.in-Some.x (omega arith) in
    let f = figure 21 (c.args.at + 1) c.put_amount.result (c.put_amount.ensures.bytes, c.put_amount.ensures.count) h in
    retold 40 (omega arith) (ap (λ (p : Option ℕ). 32 ∷ price_text p) (sym c.in-Some.is)) (then (byte c.put_byte.ensures) f)
