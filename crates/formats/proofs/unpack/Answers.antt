-- `formats::unpack` meets its contract.
-- Assumes nothing.
use mathlib.Core.Path.{sym}
use Rattle.formats.proofs.Good.{plus_ready}
use Rattle.formats.proofs.unpack.Goals as goal

pub returns-in-NlsPlus-clause-ready : goal.returns-in-NlsPlus-clause-ready
returns-in-NlsPlus-clause-ready c = rw c.in-NlsPlus.is (sym (plus_ready c.args.kind c.args.m.now))
