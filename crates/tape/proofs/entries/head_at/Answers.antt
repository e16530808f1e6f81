-- `tape::entries::head_at` meets its contract.
-- Assumes nothing.
use Rattle.tape.proofs.Heads.{head_ended, head_no_kind, head_whole, head_short}
use Rattle.tape.proofs.entries.head_at.Goals as goal

pub returns-then-part-at : goal.returns-then-part-at
returns-then-part-at c = let a = c.args in
    head_ended a.part.now a.at c.if-part-at.true

pub returns-then-n-eq0 : goal.returns-then-n-eq0
returns-then-n-eq0 c = let a = c.args in
    head_no_kind a.part.now a.at _ c.if-part-at.false c.body_length-n.ensures c.if-n-eq0.true

pub returns-then-n-part : goal.returns-then-n-part
returns-then-n-part c = let a = c.args in
    head_whole a.part.now a.at _ c.if-part-at.false c.body_length-n.ensures
    c.if-n-eq0.false c.if-n-part.true

pub returns-else-n-part : goal.returns-else-n-part
returns-else-n-part c = let a = c.args in
    head_short a.part.now a.at _ c.if-part-at.false c.body_length-n.ensures
    c.if-n-eq0.false c.if-n-part.false
