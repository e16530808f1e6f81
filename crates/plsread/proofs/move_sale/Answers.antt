-- `plsread::move_sale` meets its contract.
-- Assumes nothing.
use mathlib.Core.Path.{ap₂}
use mathlib.Core.Bool.{Bool, ◌&&◌}
use Rattle.plsread.specs.Moved.{sale_ready}
use Rattle.plsread.proofs.Laid.{sale_moved_lem}
use Rattle.plsread.proofs.move_sale.Goals as goal

pub returns : goal.returns
unfolding sale_ready
returns c = let a = c.args in record {
  bytes = rw (c.copy_four.ensures, c.move_number-size.ensures.bytes, c.move_number-price.ensures.bytes, c.copy_run.ensures)
      (sale_moved_lem a.b.now a.m.now a.to a.at);
  ready = ap₂ {C = Bool} (λ p q. a.held && p && q) c.move_number-price.ensures.ready c.move_number-size.ensures.ready;
}
