-- `conditions::bits` reads the sheet at each level by its table's rule.
use mathlib.Core.Path.{refl, ◌∙◌}
use native.Mathlib.Omega.{arith}
use borrow.Author.Tests.{ne_eqb}
use Rattle.conditions.specs.Conditions.{level_at}
use Rattle.conditions.proofs.Table.{in_table}
use Rattle.conditions.proofs.bits.Goals as goal

pub returns-in-1 : goal.returns-in-1
unfolding level_at
returns-in-1 c = simp c.in-1.is (c.entry.ensures ∙ in_table 1 c.args.code _ refl (omega arith))

pub returns-in-2 : goal.returns-in-2
unfolding level_at
returns-in-2 c = simp c.in-2.is (c.entry-in-2.ensures ∙ in_table 2 c.args.code _ refl (omega arith))

pub returns-in-3 : goal.returns-in-3
unfolding level_at
returns-in-3 c = simp c.in-3.is (c.entry-in-3.ensures ∙ in_table 3 c.args.code _ refl (omega arith))

pub returns-in-4 : goal.returns-in-4
unfolding level_at
returns-in-4 c = simp c.in-4.is (c.entry-in-4.ensures ∙ in_table 4 c.args.code _ refl (omega arith))

pub returns-in_default : goal.returns-in_default
unfolding level_at
returns-in_default c = let r = c.in_default.in_default-own.rest in
    simp (ne_eqb _ 1 r.0.0.0.1, ne_eqb _ 2 r.0.0.1, ne_eqb _ 3 r.0.1, ne_eqb _ 4 r.1) refl
