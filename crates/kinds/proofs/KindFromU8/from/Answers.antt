-- `Kind::from` meets its contract.
-- Assumes nothing.
use borrow.Author.Tests.{ne_eqb}
use Rattle.kinds.specs.Kinds.{kind_of}
use Rattle.kinds.proofs.KindFromU8.from.Goals as goal

pub returns-in-83 : goal.returns-in-83
unfolding kind_of
returns-in-83 c = rw c.in-83.is

pub returns-in-84 : goal.returns-in-84
unfolding kind_of
returns-in-84 c = rw c.in-84.is

pub returns-in-88 : goal.returns-in-88
unfolding kind_of
returns-in-88 c = rw c.in-88.is

pub returns-in-67 : goal.returns-in-67
unfolding kind_of
returns-in-67 c = rw c.in-67.is

pub returns-in-74 : goal.returns-in-74
unfolding kind_of
returns-in-74 c = rw c.in-74.is

pub returns-in_default : goal.returns-in_default
unfolding kind_of
returns-in_default c = let r = c.in_default.in_default-own.rest in
    simp (ne_eqb _ _ r.0.0.0.0.1, ne_eqb _ _ r.0.0.0.1, ne_eqb _ _ r.0.0.1, ne_eqb _ _ r.0.1, ne_eqb _ _ r.1)
