-- `print::columns::put_net` meets its contract.
-- Assumes nothing.
use Rattle.std.specs.Prelude.{Option, ℤ}
use mathlib.Core.Path.{ap, sym}
use mathlib.Core.List.{◌∷◌}
use Prim.Native.Nat.{◌+◌}
use native.Mathlib.Omega.{arith}
use Rattle.print.specs.Texts.{net_text}
use Rattle.print.proofs.Laws.{byte, then, retold, net_figure}
use Rattle.print.proofs.columns.put_net.Goals as goal

pub overflow_add-result-in-Some : goal.overflow_add-result-in-Some
overflow_add-result-in-Some c = let p = c.put_signed in
    let f = net_figure (c.args.at + 1) p.result c.in-Some.x (omega arith) (p.ensures.bytes, p.ensures.count) in
    omega (arith, f.behind, f.near, c.requires)

pub returns-in-Some-clause-put : goal.returns-in-Some-clause-put
returns-in-Some-clause-put c = let p = c.put_signed in
    let f = net_figure (c.args.at + 1) p.result c.in-Some.x (omega arith) (p.ensures.bytes, p.ensures.count) in
    retold 40 (omega arith) (ap (λ (n : Option ℤ). 32 ∷ net_text n) (sym c.in-Some.is)) (then (byte c.put_byte.ensures) f)
