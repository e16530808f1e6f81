-- `plsread::unpack` meets its contract.
-- Assumes nothing.
use mathlib.Core.Path.{ap, ◌∙◌}
use mathlib.Core.List.{List}
use Prim.Native.Nat.{ℕ}
use lib.ListN.{length}
use native.Mathlib.Omega.{arith}
use Rattle.octets.proofs.Laws.{part_length}
use Rattle.records.specs.Held.{filled_in, ready_in}
use Rattle.records.specs.Packed.{record_bytes}
use Rattle.pls.specs.Layouts.{layout_of}
use Rattle.pls.proofs.Laws.{longest}
use Rattle.plsread.proofs.Laid.{short_filled, short_ready}
use Rattle.plsread.proofs.unpack.Goals as goal

pub unpack_whole-requires-2 : goal.unpack_whole-requires-2
unpack_whole-requires-2 c = let a = c.args in
    omega (arith, longest a.kind, ap length c.fill.ensures, part_length a.m.now 0 85)

pub returns : goal.returns
returns c = let a = c.args in
    let e = c.fill.ensures in record {
      bytes = c.unpack_whole-2.ensures.bytes
          ∙ ap (λ (m : List ℕ). record_bytes (filled_in (layout_of a.kind) m)) e
          ∙ ap record_bytes (short_filled a.kind a.m.now);
      ready = c.unpack_whole-2.ensures.ready
          ∙ ap (ready_in (layout_of a.kind)) e
          ∙ short_ready a.kind a.m.now;
    }
