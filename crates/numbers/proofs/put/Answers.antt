-- `numbers::put` meets its contract.
-- Assumes nothing.
use Prim.Native.Nat.{◌+◌, ◌-◌}
use mathlib.Core.Path.{◌≡◌, sym}
use native.Mathlib.Omega.{arith}
use lib.ListN.{length, take, drop, length-drop}
use lib.Seq.{sets, take-length, length-take-le}
use Rattle.octets.proofs.Laws.{sets_all}
use Rattle.octets.proofs.Ends.{stored}
use Rattle.numbers.specs.Number.{digits}
use Rattle.numbers.proofs.Laws.{digits_length}
use Rattle.numbers.proofs.put.Goals as goal

pub returns-then-at-left : goal.returns-then-at-left
returns-then-at-left g c = let a = c.args in
    let n = g.T.Unsigned.WIDTH in
    let xs = digits n (g.T.Unsigned.value a.x) in
    let l : length xs ≡ n = digits_length n (g.T.Unsigned.value a.x) in
    let w : a.at + c.WIDTH-then-at-left.result - a.at ≡ length xs = omega (arith, l) in
    let p = g.met.T.Unsigned.some in
    let whole : sets (take (length xs) (drop a.at a.out.now)) 0 xs ≡ xs
    = sets_all (take (length xs) (drop a.at a.out.now)) xs (sym (length-take-le _ _ (rw length-drop (omega (arith, l, p))))) in
    rw (c.write.ensures, w, whole)
    (rw take-length at (stored xs a.out.now a.at a.at (length xs) (omega (arith, p)) (omega (arith, l, p))))
