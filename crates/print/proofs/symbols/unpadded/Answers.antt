-- `print::symbols::unpadded` meets its contract. The loop: what is left when k bytes are looked at is what is left of the whole.
-- Assumes nothing.
use Prim.Native.Nat.{◌+◌, ◌-◌}
use mathlib.Core.Path.{◌≡◌, ap, sym, ◌∙◌}
use native.Mathlib.Omega.{arith}
use lib.ListN.{length}
use lib.Seq.{length-take-le}
use Rattle.print.proofs.Padding.{pad_turn, pad_stop}
use Rattle.print.proofs.symbols.unpadded.Goals as goal

pub returns-then-s-k-ne32 : goal.returns-then-s-k-ne32
returns-then-s-k-ne32 c =
    let s = c.args.s.now in
    let l = c.loop-k in
    let k = l.k in
    let h = l.auto.k in
    let n : k - 1 + 1 ≡ k = omega (arith, c.loop-k-test.true) in
    n ∙ sym (length-take-le k s h)
    ∙ ap length (sym (pad_stop s k c.loop-k-test.true h c.if-s-k-ne32.true) ∙ l.invariant)

pub loop-k-preserved : goal.loop-k-preserved
loop-k-preserved c =
    let s = c.args.s.now in
    let l = c.loop-k in
    sym (pad_turn s l.k c.loop-k-test.true l.auto.k c.if-s-k-ne32.false) ∙ l.invariant
