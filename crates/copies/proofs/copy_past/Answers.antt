-- `copies::copy_past` meets its contract. The loop: what is copied so far is a run.
-- Assumes nothing.
use mathlib.Core.Path.{◌≡◌, refl, ◌∙◌}
use native.Mathlib.Omega.{arith}
use lib.ListN.{length-set}
use Rattle.octets.proofs.Ends.{clipped}
use Rattle.octets.proofs.Turns.{copy_none, copy_next}
use Rattle.copies.proofs.copy_past.Goals as goal

pub loop-i-init : goal.loop-i-init
loop-i-init c = let a = c.args in
    (omega arith, refl, copy_none a.out.now a.s.now a.to a.from)

pub loop-i-preserved : goal.loop-i-preserved
loop-i-preserved c = let a = c.args in
    let l = c.loop-i in
    let e = c.put_past.ensures in
    let f = c.byte_past.ensures in (
      omega arith,
      rw e (simp length-set l.invariant.1),
      simp (e, f, l.invariant.2) (copy_next a.out.now a.s.now a.to a.from l.i),
    )

pub returns : goal.returns
returns c = let a = c.args in
    let l = c.loop-i in
    let e : l.i ≡ c.min-count.result = omega arith in
    rw e at l.invariant.2
    ∙ clipped a.out.now a.s.now a.to a.from a.n c.min-start.result c.min-count.result c.min-start.ensures c.min-count.ensures
