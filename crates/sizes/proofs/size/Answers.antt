-- `sizes::size` meets its contract.
-- Assumes nothing.
use Prim.Native.Nat.{ℕ, ◌+◌, ◌≤◌}
use mathlib.Core.Path.{◌≡◌, sym, ◌∙◌}
use native.Mathlib.Omega.{arith}
use Rattle.records.specs.Packed.{packed}
use Rattle.words.specs.Words.{counter_words}
use Rattle.sizes.specs.Sizes.{size_of}
use Rattle.sizes.proofs.Sizes.{longest_is, size_type}
use Rattle.sizes.proofs.size.Goals as goal

up : (n k : ℕ) → k ≤ n → (n ≡ k → ⊥) → k + 1 ≤ n
up n k h e = omega arith

pub returns-in-0 : goal.returns-in-0
unfolding size_of
returns-in-0 c = rw c.in-0.is

pub returns-in-1 : goal.returns-in-1
unfolding size_of
returns-in-1 c = rw c.in-1.is

pub returns-in-2 : goal.returns-in-2
unfolding size_of
returns-in-2 c = rw c.in-2.is

pub returns-in-3 : goal.returns-in-3
unfolding size_of
returns-in-3 c = rw c.in-3.is

pub returns-in-4 : goal.returns-in-4
unfolding size_of
returns-in-4 c = rw c.in-4.is (sym longest_is)

pub returns-in-5 : goal.returns-in-5
unfolding size_of packed
returns-in-5 c = rw c.in-5.is

pub returns-in-6 : goal.returns-in-6
unfolding size_of counter_words
returns-in-6 c = rw c.in-6.is

pub returns-in-7 : goal.returns-in-7
unfolding size_of
returns-in-7 c = rw c.in-7.is

pub returns-in_default : goal.returns-in_default
returns-in_default c =
    let past : 8 ≤ c.args.which = let w = c.args.which in
    let r6 = c.in_default.in_default-own.rest.0 in
    let r5 = r6.0 in
    let r4 = r5.0 in
    let r3 = r4.0 in
    let r2 = r3.0 in
    let r1 = r2.0 in
    let r0 = r1.0 in
    let p0 = up w 0 (omega arith) r0.1 in
    let p1 = up w 1 p0 r1.1 in
    let p2 = up w 2 p1 r2.1 in
    let p3 = up w 3 p2 r3.1 in
    let p4 = up w 4 p3 r4.1 in
    let p5 = up w 5 p4 r5.1 in
    let p6 = up w 6 p5 r6.1 in
    up w 7 p6 c.in_default.in_default-own.rest.1 in
    c.length_at.ensures ∙ size_type c.args.which past
