-- `numbers::Unsigned::write` of u64 meets its contract.
-- Assumes nothing.
use mathlib.Core.Path.{◌≡◌, ap, sym, ◌∙◌}
use mathlib.Core.List.{List, ◌++◌}
use Prim.Native.Nat.{ℕ, ◌≤◌}
use native.Mathlib.Omega.{arith}
use lib.ListN.{length, drop}
use lib.Seq.{sets}
use Rattle.octets.proofs.Laws.{sets_front}
use Rattle.numbers.specs.Number.{digits}
use Rattle.numbers.proofs.Laws.{digits_length}
use Rattle.numbers.proofs.Std.{written}
use Rattle.numbers.proofs.U64Unsigned.write.Goals as goal

pub returns-in-Some : goal.returns-in-Some
returns-in-Some c = let a = c.args in
    let xs = digits 8 a.self in
    let l : length xs ≡ 8 = digits_length 8 a.self in
    let e : c.to_be_bytes.result ≡ xs = c.to_be_bytes.ensures ∙ written 8 _ ∙ ap (digits 8) (omega arith) in
    let h : length xs ≤ length a.out.now = omega (arith, l, c.in-Some.ensures.cases.enough) in
    ap (λ (ys : List ℕ). ys ++ drop 8 a.out.now) e
    ∙ ap (λ (k : ℕ). xs ++ drop k a.out.now) (sym l)
    ∙ sym (sets_front xs a.out.now h)

pub returns-in-None : goal.returns-in-None
returns-in-None c = let a = c.args in
    c.paste.ensures ∙ ap (λ (xs : List ℕ). sets a.out.now 0 xs) (c.to_be_bytes-in-None.ensures ∙ written 8 a.self)
