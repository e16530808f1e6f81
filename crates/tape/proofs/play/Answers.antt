-- `tape::play` meets its contract. The loop: what was played so far, and then the play of what is left, is the whole play.
-- Assumes nothing.
use Rattle.std.specs.Prelude.{Ok}
use mathlib.Core.Path.{◌≡◌, sym, ◌∙◌}
use Prim.Native.Nat.{ℕ, ◌+◌, ◌-◌, ◌≤◌}
use native.Mathlib.Omega.{arith}
use lib.ListN.{length, drop}
use Rattle.tape.specs.Entries.{head_of}
use Rattle.tape.proofs.Plays.{standing_at, standing_length, play_returns, play_turn}
use borrow.Author.Rules.{rules}
use Rattle.octets.specs.Run.{Bytes}
use Rattle.tape.proofs.play.Goals as goal
use Rattle.tape.proofs.play.Goals.{After-head_at}

-- what a call lends are bytes
pub entered : (c : After-head_at) → Bytes c.args.rows.now × Bytes c.args.lines.now × Bytes c.args.part.now
entered c = (λ i. search rules, λ i. search rules, λ i. search rules)

pub returns-in-Err : goal.returns-in-Err
returns-in-Err c = play_returns _ _ _ _ c.loop-stop.invariant.1 _
    (sym c.head_at.ensures ∙ c.in-Err.is)

pub overflow_add-end : goal.overflow_add-end
overflow_add-end c =
    let size : ℕ = c.in-Ok.n in
    let found : head_of (drop c.loop-stop.at c.args.part.now) ≡ Ok size = sym c.head_at.ensures ∙ c.in-Ok.is in
    let within : (11 ≤ size) × (c.loop-stop.at + size ≤ length c.args.part.now) = standing_at _ _ _ c.loop-stop.invariant.0 found in
    search (rules, within)

pub slice_bounds-play_entry-end : goal.slice_bounds-play_entry-end
slice_bounds-play_entry-end c =
    let size : ℕ = c.in-Ok.n in
    let found : head_of (drop c.loop-stop.at c.args.part.now) ≡ Ok size = sym c.head_at.ensures ∙ c.in-Ok.is in
    let within : (11 ≤ size) × (c.loop-stop.at + size ≤ length c.args.part.now) = standing_at _ _ _ c.loop-stop.invariant.0 found in
    search (rules, within)

pub play_entry-counters-requires : goal.play_entry-counters-requires
play_entry-counters-requires c =
    let size : ℕ = c.in-Ok.n in
    let found : head_of (drop c.loop-stop.at c.args.part.now) ≡ Ok size = sym c.head_at.ensures ∙ c.in-Ok.is in
    let within : (11 ≤ size) × (c.loop-stop.at + size ≤ length c.args.part.now) = standing_at _ _ _ c.loop-stop.invariant.0 found in
    let w = within in
    let l = standing_length c.args.part.now c.loop-stop.at size w.1 in
    omega arith

pub loop-stop-smaller : goal.loop-stop-smaller
loop-stop-smaller c =
    let size : ℕ = c.in-Ok.n in
    let found : head_of (drop c.loop-stop.at c.args.part.now) ≡ Ok size = sym c.head_at.ensures ∙ c.in-Ok.is in
    let within : (11 ≤ size) × (c.loop-stop.at + size ≤ length c.args.part.now) = standing_at _ _ _ c.loop-stop.invariant.0 found in
    omega (arith, within)

pub loop-stop-preserved : goal.loop-stop-preserved
loop-stop-preserved c =
    let size : ℕ = c.in-Ok.n in
    let found : head_of (drop c.loop-stop.at c.args.part.now) ≡ Ok size = sym c.head_at.ensures ∙ c.in-Ok.is in
    let within : (11 ≤ size) × (c.loop-stop.at + size ≤ length c.args.part.now) = standing_at _ _ _ c.loop-stop.invariant.0 found in
    let l = c.loop-stop in
    let n = size in
    let w = within in
    let k : l.at + n - l.at ≡ n = omega arith in (
      w.1,
      play_turn _ _ _ _ l.invariant.1 n _ found k _ c.play_entry-counters.ensures,
      search (rules, l.invariant.2),
      search (rules, l.invariant.3),
    )
