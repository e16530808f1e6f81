-- `numbers::Unsigned::first` of u32 meets its contract.
-- Assumes nothing.
use mathlib.Core.Path.{refl, ap, ◌∙◌}
use mathlib.Core.List.{List}
use Prim.Native.Nat.{ℕ}
use native.Mathlib.Omega.{arith}
use Rattle.std.specs.Int.{w32, from_be_bytes}
use Rattle.octets.specs.Run.{part}
use Rattle.octets.proofs.Ends.{part_inside, part_part}
use Rattle.numbers.specs.Number.{be}
use Rattle.numbers.proofs.Laws.{be_four}
use Rattle.numbers.proofs.Std.{read_four}
use Rattle.numbers.proofs.U32Unsigned.first.Goals as goal

pub returns-in-Some : goal.returns-in-Some
returns-in-Some c = let s = c.args.s.now in
    let run = c.in-Some.ensures.cases in
    c.weigh.ensures.0
    ∙ be_four _ 0
    ∙ ap (λ (xs : List ℕ). be (part xs 0 4)) (run.same ∙ part_inside s s 0 4 refl run.enough)
    ∙ ap be (part_part s 0 4 4 (omega arith))

pub returns-in-None : goal.returns-in-None
returns-in-None c =
    c.from_be_bytes.ensures ∙ ap (from_be_bytes w32) c.bytes.ensures ∙ read_four c.args.s.now 0
