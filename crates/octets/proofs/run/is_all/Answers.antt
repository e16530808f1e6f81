-- `octets::run::is_all` meets its contract.
-- Assumes nothing.
use mathlib.Core.Path.{ap, ◌∙◌}
use lib.Dec.{eqb}
use borrow.Author.Rules.{rules}
use Rattle.std.proofs.Common.{tests}
use Rattle.std.proofs.lemmas.Iterator.{YieldsList-from_slice}
use Rattle.std.proofs.lemmas.Iterator.Search.{all_from_yields_List}
use Rattle.octets.specs.Run.{all}
use Rattle.octets.proofs.Ends.{all_std}
use Rattle.octets.proofs.Told.{told_all}
use Rattle.octets.proofs.run.is_all.Goals as goal

pub returns : goal.returns
returns c = let a = c.args in
    let first = c.in-Some.ensures.cases in
    let last = c.in-Some-last_chunk.ensures.cases.1 in
    rw (c.from_le_bytes.ensures, c.from_le_bytes-2.ensures, c.from_le_bytes-four.ensures)
    (told_all a.s.now c.rest-run.result.now _ _ a.from a.v (λ i. (c.type_inv.s i).fits) c.ranges.v.fits c.rest-run.ensures
    first.enough c.if-run-le8.true first.same last.same)

pub returns-2 : goal.returns-2
returns-2 c = let a = c.args in
    let run = c.rest-run.result.now in
    all_from_yields_List (λ x. eqb x a.v) _ _ c.all.result c.all.ensures.ran (YieldsList-from_slice run cc)
    (λ x b q k. search (rules, tests))
    ∙ all_std a.v run ∙ ap (all a.v) c.rest-run.ensures
