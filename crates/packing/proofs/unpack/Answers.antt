-- `packing::unpack` meets its contract.
-- Assumes nothing.
use mathlib.Core.Path.{ap, sym, ◌∙◌}
use mathlib.Core.Logic.{inl, inr}
use Rattle.kinds.specs.declared.Kind.{Kind}
use Rattle.records.specs.Held.{filled_in}
use Rattle.records.specs.Packed.{record_bytes}
use Rattle.records.proofs.Stores.{no_bytes}
use Rattle.packing.specs.Layouts.{layout_of}
use Rattle.packing.proofs.Moves.{s_filled, t_filled, c_filled, j_filled}
use Rattle.packing.proofs.unpack.Goals as goal

pub returns-in-Event : goal.returns-in-Event
returns-in-Event c = rw (c.unpack_form.ensures, c.in-Event.is) (s_filled c.args.m.now (λ i. (c.type_inv.m i).fits))

pub returns-in-Trade : goal.returns-in-Trade
returns-in-Trade c = let read = t_filled c.args.m.now (λ i. (c.type_inv.m i).fits) in
    rw c.unpack_form-in-Trade.ensures
    (elim c.in-Trade.is [ inl e ↦ rw e (read 84) | inr e ↦ rw e (read 88) ])

pub returns-in-Correction : goal.returns-in-Correction
returns-in-Correction c =
    rw (c.unpack_form-in-Correction.ensures, c.in-Correction.is) (c_filled c.args.m.now (λ i. (c.type_inv.m i).fits))

pub returns-in-Summary : goal.returns-in-Summary
returns-in-Summary c =
    rw (c.unpack_form-in-Summary.ensures, c.in-Summary.is) (j_filled c.args.m.now (λ i. (c.type_inv.m i).fits))

pub returns-in-Other : goal.returns-in-Other
returns-in-Other c = sym no_bytes ∙ sym (ap (λ (k : Kind). record_bytes (filled_in (layout_of k) c.args.m.now)) c.in-Other.is)
