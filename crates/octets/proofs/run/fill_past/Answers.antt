-- `octets::run::fill_past` meets its contract. The loop: what is left of the run, stored from i on, makes the whole.
-- Assumes nothing.
use mathlib.Core.List.{List}
use mathlib.Core.Path.{refl, ap, sym, ◌∙◌}
use Prim.Native.Nat.{◌<◌, ℕ, ◌≤◌}
use native.Mathlib.Omega.{arith}
use lib.ListN.{length, length-set}
use lib.Seq.{sets}
use Rattle.octets.proofs.Laws.{part_length, part_left, fill_turn, sets_all, tab_end}
use Rattle.octets.specs.Run.{past, part}
use Rattle.octets.proofs.run.fill_past.Goals as goal

pub loop-i-init : goal.loop-i-init
loop-i-init c = let a = c.args in
    let n = length a.out.now in
    (omega arith, refl, rw part_left (sets_all a.out.now (part a.s.now a.at n) (part_length a.s.now a.at n)))

pub loop-i-preserved : goal.loop-i-preserved
loop-i-preserved c = let a = c.args in
    let l = c.loop-i in
    let h : l.i < length a.out.now = omega arith in (
      omega arith,
      simp length-set l.invariant.1,
      rw c.byte_past.ensures (sym (fill_turn l.out a.s.now a.at l.i (length a.out.now) h) ∙ l.invariant.2),
    )

pub returns : goal.returns
returns c = let a = c.args in
    let l = c.loop-i in
    let h : length a.out.now ≤ l.i = omega arith in
    ap (λ (vs : List ℕ). sets l.out l.i vs) (sym (tab_end (past a.s.now a.at) l.i (length a.out.now) h)) ∙ l.invariant.2
