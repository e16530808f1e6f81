-- `plswrite::store_whole` meets its contract.
-- Assumes nothing.
use mathlib.Core.Logic.{inl, inr}
use native.Mathlib.Omega.{arith}
use Rattle.pls.specs.Layouts.{layout_s, layout_t, layout_c}
use Rattle.plswrite.proofs.Laid.{s_put, t_put, c_put}
use Rattle.plswrite.proofs.store_whole.Goals as goal

pub put_head-requires : goal.put_head-requires
unfolding layout_s
put_head-requires c = omega (arith, rw c.in-Event.is at c.requires)

pub put_trade-requires : goal.put_trade-requires
unfolding layout_t
put_trade-requires c = elim c.in-Trade.is [ inl e ↦ rw e at c.requires | inr e ↦ rw e at c.requires ]

pub put_trade-requires-in-Correction : goal.put_trade-requires-in-Correction
unfolding layout_c
put_trade-requires-in-Correction c = omega (arith, rw c.in-Correction.is at c.requires)

pub put_sale-requires : goal.put_sale-requires
unfolding layout_c
put_sale-requires c = (omega (arith, rw c.in-Correction.is at c.requires), omega arith)

pub returns-in-Event : goal.returns-in-Event
returns-in-Event c = let a = c.args in
    rw (c.copy_byte.ensures, c.put_head.ensures, c.in-Event.is) (s_put a.b.now (λ i. (c.type_inv.b i).fits) a.out.now)

pub returns-in-Trade : goal.returns-in-Trade
returns-in-Trade c = let a = c.args in
    let put = t_put a.b.now (λ i. (c.type_inv.b i).fits) a.out.now in
    rw c.put_trade.ensures (elim c.in-Trade.is [ inl e ↦ rw e (put 84) | inr e ↦ rw e (put 88) ])

pub returns-in-Correction : goal.returns-in-Correction
returns-in-Correction c = let a = c.args in
    rw (c.put_sale.ensures, c.put_trade-in-Correction.ensures, c.in-Correction.is)
    (c_put a.b.now (λ i. (c.type_inv.b i).fits) a.out.now)
