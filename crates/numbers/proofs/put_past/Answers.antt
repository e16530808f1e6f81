-- `numbers::put_past` meets its contract.
-- Assumes nothing.
use mathlib.Core.Path.{◌≡◌, refl, sym, ◌∙◌}
use Prim.Native.Nat.{◌≤◌}
use native.Mathlib.Omega.{arith}
use lib.ListN.{length}
use lib.Seq.{length-take-le, take-append_seam}
use Rattle.octets.proofs.Laws.{sets_all}
use Rattle.numbers.specs.Number.{digits}
use Rattle.numbers.proofs.Laws.{digits_length}
use Rattle.numbers.proofs.put_past.Goals as goal

pub returns : goal.returns
returns g c = let a = c.args in
    let n = g.T.Unsigned.WIDTH in
    let xs = digits n (g.T.Unsigned.value a.x) in
    let l : length xs ≡ n = digits_length n (g.T.Unsigned.value a.x) in
    let w : c.WIDTH-2.result ≡ length xs = c.WIDTH-2.ensures ∙ sym l in
    let k : c.WIDTH.result ≤ 8 = omega (arith, c.WIDTH.ensures, g.met.T.Unsigned.most) in
    let whole : c.write.new.out ≡ xs = c.write.ensures ∙ sets_all _ xs (l ∙ sym c.WIDTH.ensures ∙ sym (length-take-le _ _ k)) in
    rw (c.paste.ensures, whole, w, take-append_seam) refl
