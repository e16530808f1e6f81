-- `tape::entries::body_length` meets its contract.
-- Assumes nothing.
use borrow.Author.Tests.{eq-eqb}
use Rattle.tape.specs.Entries.{body_length}
use Rattle.tape.proofs.Heads.{length_top, none_is, some_is}
use borrow.Author.Rules.{rules}
use Rattle.tape.proofs.entries.body_length.Goals as goal

pub returns-then-letter-eq-LISTING : goal.returns-then-letter-eq-LISTING
unfolding body_length
returns-then-letter-eq-LISTING c = simp (eq-eqb _ _ c.if-letter-eq-LISTING.true)

pub returns-then-n-eq0 : goal.returns-then-n-eq0
returns-then-n-eq0 c = let a = c.args in
    none_is a.letter c.if-letter-eq-LISTING.false _ c.from.ensures _
    c.length_of-n.ensures c.if-n-eq0.true

pub overflow_add-result-2 : goal.overflow_add-result-2
overflow_add-result-2 c = let h = length_top c.from.result _ c.length_of-n.ensures in
    search rules

pub returns : goal.returns
returns c = let a = c.args in
    some_is a.letter c.if-letter-eq-LISTING.false _ c.from.ensures _
    c.length_of-n.ensures c.if-n-eq0.false
