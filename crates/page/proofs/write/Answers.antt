-- `page::write` meets its contract. After k lines these stand in `out`, as far as there is room.
-- Assumes nothing.
use Prim.Native.Nat.{◌≤◌, ◌-◌}
use mathlib.Core.Path.{◌≡◌, refl}
use native.Mathlib.Omega.{arith}
use borrow.Author.Rules.{rules}
use lib.ListN.{length}
use Rattle.book.specs.State.{State, lent}
use Rattle.page.specs.Page.{line_of}
use Rattle.page.specs.Printable.{Printable}
use Rattle.page.proofs.Fitting.{ending_good}
use Rattle.page.proofs.Laws.{rows_most, none_yet, next_turn, all_turns}
use Rattle.page.proofs.write.Goals as goal
use Rattle.page.proofs.write.Goals.{After-loop-k}

-- what a call is lent and told is what its types say
pub entered : (c : After-loop-k) → Printable (lent c.args.c c.args.rows.now c.args.lines.now) c.args.ending
entered c =
    record {
      rows = λ i. (c.type_inv.rows i).fits;
      lines = λ i. (c.type_inv.lines i).fits;
      taken = search rules;
      wanted = search rules;
      ending = ending_good c.args.ending _ c.well_formed.1.1.1.0;
    }

pub overflow_add-end : goal.overflow_add-end
overflow_add-end c =
    let few : c.printed-end.result ≤ 256 = rows_most c.args.rows.now c.args.c.rows c.printed-end.result c.printed-end.ensures in
    search (rules, few)

pub loop-k-init : goal.loop-k-init
loop-k-init c =
    let lent_to : State = lent c.args.c c.args.rows.now c.args.lines.now in
    (omega arith, none_yet lent_to c.args.ending c.args.out.now)

pub loop-k-preserved : goal.loop-k-preserved
loop-k-preserved c =
    let lent_to : State = lent c.args.c c.args.rows.now c.args.lines.now in
    let l = c.line-n in
    let long : l.result ≡ length (line_of lent_to c.args.ending c.loop-k.k) = l.ensures.count in (
      omega arith,
      next_turn lent_to c.args.ending c.args.out.now
          c.loop-k.k c.loop-k.at c.loop-k.out c.loop-k.invariant.1 _ _ _ _ refl
          (l.ensures.bytes, long) c.lesser-at.ensures,
    )

pub returns : goal.returns
returns c =
    let lent_to : State = lent c.args.c c.args.rows.now c.args.lines.now in
    let w = all_turns lent_to c.args.ending c.args.out.now
    c.loop-k.k c.loop-k.at c.loop-k.out c.printed-end.result c.printed-end.ensures (omega arith) c.loop-k.invariant.1 in record { bytes = w.0; count = w.1; types = entered c }
