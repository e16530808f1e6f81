-- `lines::find` meets its contract.
-- Assumes nothing.
use mathlib.Core.Path.{◌≡◌, ap, sym, ◌∙◌}
use mathlib.Core.List.{List}
use Prim.Native.Nat.{ℕ, ◌*◌}
use native.Mathlib.Nat.{sub-zero}
use native.Mathlib.Omega.{arith}
use lib.ListN.{length}
use Rattle.octets.specs.Run.{part, same}
use Rattle.octets.proofs.Laws.{part_left, same_more, same_stop, same_end}
use Rattle.cells.proofs.Laws.{find_on, find_off, find_end}
use Rattle.lines.specs.Cell.{line_cell, key_length}
use Rattle.lines.specs.Lines.{line_from, line_at, used_lines, bears}
use borrow.Author.Rules.{rules}
use Rattle.lines.proofs.find.Goals as goal

pub lines-init : goal.lines-init
unfolding used_lines
lines-init c = (
  omega arith,
  omega (arith, c.lesser-n.ensures, c.limit.ensures),
  rw (sub-zero, c.lesser-n.ensures, c.limit.ensures),
)

pub bytes-init : goal.bytes-init
unfolding line_from
bytes-init c =
    let key-long : length c.args.key ≡ key_length = search rules in
    let here : (i : ℕ)
    → same (part c.args.lines.now (i * line_cell) (length c.args.key)) c.args.key
    ≡ bears c.args.key (line_at c.args.lines.now i) = (λ i. rw key-long) in
    let a = c.args in (
      omega arith,
      ap (λ (xs : List ℕ). same xs a.key) (part_left a.lines.now _ (length a.key))
          ∙ here _,
    )

pub bytes-preserved : goal.bytes-preserved
bytes-preserved c =
    let key-long : length c.args.key ≡ key_length = search rules in
    let a = c.args in
    let b = c.bytes in
    (omega arith, sym (same_more a.lines.now a.key _ b.j (omega (arith, key-long)) c.if-lines-i.false) ∙ b.invariant.1)

pub lines-preserved : goal.lines-preserved
lines-preserved c =
    let key-long : length c.args.key ≡ key_length = search rules in
    let a = c.args in
    let b = c.bytes in
    let l = c.lines in (
      omega arith,
      l.invariant.1,
      sym (find_off (bears a.key) (line_at a.lines.now) l.i _ c.if-n-i.false
          (sym b.invariant.1 ∙ same_stop a.lines.now a.key _ b.j (omega (arith, key-long)) c.if-lines-i.true)) ∙ l.invariant.2,
    )

pub returns-then-n-i : goal.returns-then-n-i
returns-then-n-i c = let a = c.args in
    let l = c.lines in
    sym (find_end (bears a.key) (line_at a.lines.now) l.i _ c.if-n-i.true) ∙ l.invariant.2

pub returns-then-j-eq-KEY : goal.returns-then-j-eq-KEY
returns-then-j-eq-KEY c =
    let key-long : length c.args.key ≡ key_length = search rules in
    let a = c.args in
    let b = c.bytes in
    let l = c.lines in
    sym (find_on (bears a.key) (line_at a.lines.now) l.i _ c.if-n-i.false
    (sym b.invariant.1 ∙ same_end a.lines.now a.key _ b.j (omega (arith, key-long)))) ∙ l.invariant.2
