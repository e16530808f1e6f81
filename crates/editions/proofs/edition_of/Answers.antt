-- `editions::edition_of` meets its contract.
-- Assumes nothing.
use borrow.Author.Tests.{ne_eqb}
use Rattle.editions.specs.Editions.{edition_named}
use Rattle.editions.proofs.edition_of.Goals as goal

pub returns-in-0 : goal.returns-in-0
unfolding edition_named
returns-in-0 c = rw c.in-0.is

pub returns-in-1 : goal.returns-in-1
unfolding edition_named
returns-in-1 c = rw c.in-1.is

pub returns-in_default : goal.returns-in_default
unfolding edition_named
returns-in_default c = let r = c.in_default.in_default-own.rest in
    simp (ne_eqb _ _ r.0.1, ne_eqb _ _ r.1)
