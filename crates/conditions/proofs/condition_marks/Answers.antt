-- `conditions::condition_marks` is the sheet's word on four codes: the four records of `code_marks`, joined mark by mark.
use mathlib.Core.Path.{◌≡◌}
use mathlib.Core.Bool.{◌&&◌}
use mathlib.Core.List.{List}
use Prim.Native.Nat.{ℕ}
use lib.ListN.{get_or}
use Rattle.conditions.specs.declared.Marks.{Marks}
use Rattle.conditions.specs.Conditions.{marks_of, condition_marks}
use Rattle.conditions.proofs.condition_marks.Goals as goal

abbrev joined : Marks → Marks → Marks → Marks → Marks
joined p q r s =
    record {
      on_sheet = ((p.on_sheet && q.on_sheet) && r.on_sheet) && s.on_sheet;
      high_low = ((p.high_low && q.high_low) && r.high_low) && s.high_low;
      last = ((p.last && q.last) && r.last) && s.last;
    }

join : (c : List ℕ) {p q r s : Marks}
    → p ≡ marks_of 1 (get_or c 0 0)
    → q ≡ marks_of 2 (get_or c 1 0)
    → r ≡ marks_of 3 (get_or c 2 0)
    → s ≡ marks_of 4 (get_or c 3 0)
    → joined p q r s ≡ condition_marks c
unfolding marks_of condition_marks
join c ep eq er es = rw (ep, eq, er, es)

pub returns : goal.returns
returns c = join c.args.condition c.code_marks-first.ensures c.code_marks-second.ensures c.code_marks-third.ensures
    c.code_marks-fourth.ensures
