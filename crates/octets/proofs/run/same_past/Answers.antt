-- `octets::run::same_past` meets its contract. The loop: what is left of the two runs decides whether the whole are the same.
-- Assumes nothing.
use mathlib.Core.Path.{sym, ◌∙◌}
use Rattle.octets.proofs.Laws.{part_left, same_more, same_stop, same_end}
use Rattle.octets.proofs.run.same_past.Goals as goal

pub loop-i-init : goal.loop-i-init
loop-i-init c = rw part_left

pub returns-then-byte_past-t : goal.returns-then-byte_past-t
returns-then-byte_past-t c = let a = c.args in
    let l = c.loop-i in
    sym (same_stop a.s.now a.t.now a.at l.i c.loop-i-test.true
    (λ e. c.if-byte_past-t.true (c.byte_past.ensures ∙ e))) ∙ l.invariant

pub loop-i-preserved : goal.loop-i-preserved
loop-i-preserved c = let a = c.args in
    let l = c.loop-i in
    sym (same_more a.s.now a.t.now a.at l.i c.loop-i-test.true
    (sym c.byte_past.ensures ∙ c.if-byte_past-t.false)) ∙ l.invariant

pub returns : goal.returns
returns c = let a = c.args in
    let l = c.loop-i in
    sym (same_end a.s.now a.t.now a.at l.i c.loop-i-test.false) ∙ l.invariant
