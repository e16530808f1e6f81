-- `judge::is_bare` meets its contract.
-- Assumes nothing.
use mathlib.Core.Logic.{inl, inr}
use Rattle.judge.proofs.Runs.{s_said, t_said, x_said, c_said, j_said}
use Rattle.judge.proofs.is_bare.Goals as goal

pub returns-in-Event : goal.returns-in-Event
returns-in-Event c = rw (c.none.ensures, c.in-Event.is) (s_said c.args.b.now c.args.edition)

pub returns-in-Trade : goal.returns-in-Trade
returns-in-Trade c = let a = c.args in
    rw (c.volume_ok.ensures, c.none-in-Trade-2.ensures, c.none-in-Trade.ensures)
    (elim c.in-Trade.is [ inl e ↦ rw e (t_said a.b.now a.edition) | inr e ↦ rw e (x_said a.b.now a.edition) ])

pub returns-in-Correction : goal.returns-in-Correction
returns-in-Correction c = let a = c.args in
    rw (c.volume_ok-in-Correction.ensures, c.none-in-Correction-2.ensures, c.none-in-Correction.ensures, c.in-Correction.is)
    (c_said a.b.now a.edition)

pub returns-in-Summary : goal.returns-in-Summary
returns-in-Summary c = let a = c.args in
    rw (c.none-in-Summary-2.ensures, c.none-in-Summary.ensures, c.in-Summary.is) (j_said a.b.now a.edition)
