-- `numbers::Unsigned::first` of u64 meets its contract.
-- Assumes nothing.
use mathlib.Core.Path.{◌≡◌, refl, ap, ◌∙◌}
use mathlib.Core.List.{List}
use Prim.Native.Nat.{ℕ, ◌+◌, ◌*◌}
use native.Mathlib.Omega.{arith}
use lib.ListN.{get_or}
use Rattle.std.specs.Int.{w64, from_be_bytes}
use Rattle.octets.specs.Run.{part}
use Rattle.octets.proofs.Ends.{part_inside, part_part}
use Rattle.numbers.specs.Number.{be}
use Rattle.numbers.proofs.Laws.{be_four, be_join}
use Rattle.numbers.proofs.Std.{read_eight}
use Rattle.numbers.proofs.U64Unsigned.first.Goals as goal

-- eight bytes, four and four
halves : (m : List ℕ) (high low : ℕ)
    → high ≡ get_or m 0 0 * 16777216 + get_or m 1 0 * 65536 + get_or m 2 0 * 256 + get_or m 3 0
    → low ≡ get_or m 4 0 * 16777216 + get_or m 5 0 * 65536 + get_or m 6 0 * 256 + get_or m 7 0
    → high * 4294967296 + low ≡ be (part m 0 8)
halves m high low p q = omega (arith, p, q, be_four m 0, be_four m 4, be_join m 0 4 4)

pub returns-in-Some : goal.returns-in-Some
returns-in-Some c = let s = c.args.s.now in
    let run = c.in-Some.ensures.cases in
    halves _ _ _ c.weigh-high.ensures.0 c.weigh-low.ensures.0
    ∙ ap (λ (xs : List ℕ). be (part xs 0 8)) (run.same ∙ part_inside s s 0 8 refl run.enough)
    ∙ ap be (part_part s 0 8 8 (omega arith))

pub returns-in-None : goal.returns-in-None
returns-in-None c =
    c.from_be_bytes.ensures ∙ ap (from_be_bytes w64) c.bytes.ensures ∙ read_eight c.args.s.now 0
