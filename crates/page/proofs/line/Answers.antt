-- `page::line` meets its contract.
-- Assumes nothing.
-- what the call is lent
use mathlib.Core.Path.{refl}
use native.Mathlib.Omega.{arith}
use Rattle.book.specs.State.{State, lent}
use Rattle.page.proofs.Laws.{as_line, header_is, row_is, closing_is, end_is, none_is}
use Rattle.page.proofs.line.Goals as goal

pub returns-then-k-eq0 : goal.returns-then-k-eq0
returns-then-k-eq0 c =
    let lent_to : State = lent c.args.c c.args.rows.now c.args.lines.now in
    let told = (as_line _ _ _ _ _ (header_is lent_to c.args.ending c.args.k c.if-k-eq0.true) (c.header.ensures.bytes, c.header.ensures.count)) in record { bytes = told.0; count = told.1 }

pub returns-then-k-n : goal.returns-then-k-n
returns-then-k-n c =
    let lent_to : State = lent c.args.c c.args.rows.now c.args.lines.now in
    let told = (as_line _ _ _ _ _
    (row_is lent_to c.args.ending c.args.k c.left.result
    c.left.ensures c.if-k-eq0.false (omega (arith, c.if-k-n.true, c.printed-n.ensures)))
    (c.row_line.ensures.bytes, c.row_line.ensures.count)) in record { bytes = told.0; count = told.1 }

pub returns-then-k-n-2 : goal.returns-then-k-n-2
returns-then-k-n-2 c =
    let lent_to : State = lent c.args.c c.args.rows.now c.args.lines.now in
    let told = (as_line _ _ _ _ _
    (closing_is lent_to c.args.ending c.args.k c.printed-n.result c.printed-n.ensures
    c.if-k-n-2.true)
    (c.closing.ensures.bytes, c.closing.ensures.count)) in record { bytes = told.0; count = told.1 }

pub returns-then-k-n-3 : goal.returns-then-k-n-3
returns-then-k-n-3 c =
    let lent_to : State = lent c.args.c c.args.rows.now c.args.lines.now in
    let told = (as_line _ _ _ _ _
    (end_is lent_to c.args.ending c.args.k c.printed-n.result c.printed-n.ensures
    c.if-k-n-3.true)
    (c.end_line.ensures.bytes, c.end_line.ensures.count)) in record { bytes = told.0; count = told.1 }

pub returns : goal.returns
returns c =
    let lent_to : State = lent c.args.c c.args.rows.now c.args.lines.now in
    let told = (as_line _ _ _ _ _
    (none_is lent_to c.args.ending c.args.k
    (omega (arith, c.if-k-n-3.false, c.if-k-n-2.false, c.if-k-n.false, c.printed-n.ensures)))
    (refl, refl)) in record { bytes = told.0; count = told.1 }
