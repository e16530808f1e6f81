-- `octets::run::same_run` meets its contract.
-- Assumes nothing.
use borrow.Author.Rules.{rules}
use Rattle.octets.proofs.Told.{told_four, told_eight}
use Rattle.octets.proofs.run.same_run.Goals as goal

pub returns-in-Some-as_array : goal.returns-in-Some-as_array
returns-in-Some-as_array c = let a = c.args in
    let x = c.in-Some.ensures.cases in
    let y = c.in-Some-as_array.ensures.cases in
    rw (c.from_le_bytes.ensures, c.from_le_bytes-2.ensures, x.same, y.same)
    (told_eight a.s.now a.t.now x.long y.long (search rules) (search rules))

pub returns-in-Some-as_array-3 : goal.returns-in-Some-as_array-3
returns-in-Some-as_array-3 c = let a = c.args in
    let x = c.in-Some-as_array-2.ensures.cases in
    let y = c.in-Some-as_array-3.ensures.cases in
    rw (c.from_le_bytes-in_default.ensures, c.from_le_bytes-in_default-2.ensures, x.same, y.same)
    (told_four a.s.now a.t.now x.long y.long (search rules) (search rules))
