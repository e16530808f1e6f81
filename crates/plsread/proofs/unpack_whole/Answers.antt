-- `plsread::unpack_whole` meets its contract.
-- Assumes nothing.
use mathlib.Core.Path.{sym}
use mathlib.Core.Logic.{inl, inr}
use native.Mathlib.Omega.{arith}
use Rattle.pls.specs.Layouts.{layout_s, layout_t, layout_c}
use Rattle.records.proofs.Stores.{no_bytes}
use Rattle.plsread.proofs.Laid.{s_filled, t_filled, c_filled, s_ready, t_ready, c_ready}
use Rattle.plsread.proofs.unpack_whole.Goals as goal

pub returns-in-Event : goal.returns-in-Event
returns-in-Event c = let m = c.args.m.now in record {
  bytes = rw (c.move_head.ensures.bytes, c.copy_byte.ensures, c.in-Event.is) (s_filled m (λ i. (c.type_inv.m i).fits));
  ready = rw (c.move_head.ensures.ready, c.in-Event.is) (s_ready m);
}

pub returns-in-Trade : goal.returns-in-Trade
returns-in-Trade c = let m = c.args.m.now in
    let filled = t_filled m (λ i. (c.type_inv.m i).fits) in record {
      bytes = rw c.move_trade.ensures.bytes (elim c.in-Trade.is [ inl e ↦ rw e (filled 84) | inr e ↦ rw e (filled 88) ]);
      ready = rw c.move_trade.ensures.ready (elim c.in-Trade.is [ inl e ↦ rw e (t_ready m 84) | inr e ↦ rw e (t_ready m 88) ]);
    }

pub returns-in-Correction : goal.returns-in-Correction
returns-in-Correction c = let m = c.args.m.now in record {
  bytes = rw (c.move_sale.ensures.bytes, c.move_trade-old.ensures.bytes, c.in-Correction.is) (c_filled m (λ i. (c.type_inv.m i).fits));
  ready = rw (c.move_sale.ensures.ready, c.move_trade-old.ensures.ready, c.in-Correction.is) (c_ready m);
}

pub returns-in-Summary : goal.returns-in-Summary
returns-in-Summary c = record {
  bytes = elim c.in-Summary.is [ inl e ↦ rw e (sym no_bytes) | inr e ↦ rw e (sym no_bytes) ];
  ready = elim c.in-Summary.is [ inl e ↦ rw e | inr e ↦ rw e ];
}

pub move_head-requires : goal.move_head-requires
unfolding layout_s
move_head-requires c = omega (arith, rw c.in-Event.is at c.requires)

pub move_trade-requires : goal.move_trade-requires
unfolding layout_t
move_trade-requires c = elim c.in-Trade.is [ inl e ↦ rw e at c.requires | inr e ↦ rw e at c.requires ]

pub move_trade-old-requires : goal.move_trade-old-requires
unfolding layout_c
move_trade-old-requires c = omega (arith, rw c.in-Correction.is at c.requires)

pub move_sale-requires : goal.move_sale-requires
unfolding layout_c
move_sale-requires c = (omega arith, rw c.in-Correction.is at c.requires)
