-- `packing::store` meets its contract.
-- Assumes nothing.
use mathlib.Core.Logic.{inl, inr}
use Rattle.packing.proofs.Moves.{s_put, t_put, c_put, j_put}
use Rattle.packing.proofs.store.Goals as goal

pub returns-in-Event : goal.returns-in-Event
returns-in-Event c = let a = c.args in
    rw (c.store_form.ensures, c.in-Event.is) (s_put a.b.now (λ i. (c.type_inv.b i).fits) a.out.now)

pub returns-in-Trade : goal.returns-in-Trade
returns-in-Trade c = let a = c.args in
    let put = t_put a.b.now (λ i. (c.type_inv.b i).fits) a.out.now in
    rw c.store_form-in-Trade.ensures
    (elim c.in-Trade.is [ inl e ↦ rw e (put 84) | inr e ↦ rw e (put 88) ])

pub returns-in-Correction : goal.returns-in-Correction
returns-in-Correction c = let a = c.args in
    rw (c.store_form-in-Correction.ensures, c.in-Correction.is) (c_put a.b.now (λ i. (c.type_inv.b i).fits) a.out.now)

pub returns-in-Summary : goal.returns-in-Summary
returns-in-Summary c = let a = c.args in
    rw (c.store_form-in-Summary.ensures, c.in-Summary.is) (j_put a.b.now (λ i. (c.type_inv.b i).fits) a.out.now)
