-- `walk::walk` meets its contract. The loop: what is left of the lines, with the figures so far, makes the whole.
-- Assumes nothing.
use mathlib.Core.Path.{◌≡◌, ap, sym, ◌∙◌}
use Prim.Native.Nat.{ℕ}
use native.Mathlib.Nat.{sub-zero}
use native.Mathlib.Omega.{arith}
use lib.ListN.{length, get_or}
use mir.Syntax.{w8}
use mir.Val.{Fits}
use Rattle.figures.specs.declared.Figures.{Figures}
use Rattle.octets.specs.Run.{Bytes}
use Rattle.lines.specs.Lines.{line_at, used_lines}
use Rattle.walk.specs.Walking.{dealt, tally, figures_of}
use Rattle.walk.proofs.Laws.{fold_step, fold_end, counts_here, line_here, tally_counted, tally_other}
use borrow.Author.Rules.{rules}
use Rattle.walk.proofs.walk.Goals as goal
use Rattle.walk.proofs.walk.Goals.{then-is_counted, else-is_counted}

pub loop-i-init : goal.loop-i-init
unfolding used_lines figures_of
loop-i-init c = record {
  volume = omega arith;
  count = omega arith;
  rest = λ s h. rw (sub-zero, c.lesser-n.ensures, c.limit.ensures);
}

pub loop-i-preserved : goal.loop-i-preserved
loop-i-preserved c =
    let l = c.loop-i in
    let m = c.args.lines.now in
    let bytes : Bytes m = λ i. (c.type_inv.lines i).fits in
    let cut = c.cut-cell.ensures.inside (omega (arith, c.loop-i-test.true, c.lesser-n.ensures, c.limit.ensures)) in
    elim c.if-is_counted.branch [
      | then-is_counted w ↦
          let more = w.with_line-t.ensures.one_more in
          let volume = ap (λ (f : Figures). f.volume) w.t-is in
          let count = ap (λ (f : Figures). f.count) w.t-is in
          record {
            volume = omega (arith, volume, more);
            count = omega (arith, count, more);
            rest = λ s h.
                let counted = sym (counts_here m _ l.i cut s _ bytes h) ∙ sym c.is_counted.ensures ∙ w.if-is_counted.true in
                let read = ap (dealt l.t) (w.read.ensures ∙ line_here m _ l.i cut) in
                rw (w.t-is, w.with_line-t.ensures.value, read, ← tally_counted s l.t _ counted)
                (sym (fold_step (tally s) l.t (line_at m) l.i _ c.loop-i-test.true) ∙ l.invariant.rest s h);
          }
      | else-is_counted w ↦
          let volume = ap (λ (f : Figures). f.volume) w.t-is in
          let count = ap (λ (f : Figures). f.count) w.t-is in
          record {
            volume = omega (arith, volume);
            count = omega (arith, count);
            rest = λ s h.
                let other = sym (counts_here m _ l.i cut s _ bytes h) ∙ sym c.is_counted.ensures ∙ w.if-is_counted.false in
                rw (w.t-is, ← tally_other s l.t _ other)
                (sym (fold_step (tally s) l.t (line_at m) l.i _ c.loop-i-test.true) ∙ l.invariant.rest s h);
          }
    ]

pub returns : goal.returns
returns c =
    let symbol-long : length c.args.symbol ≡ 8 = search rules in
    let symbol-byte : (i : ℕ) → Fits w8 (get_or c.args.symbol i 0) = (λ i. search rules) in
    let l = c.loop-i in
    sym (fold_end _ _ _ _ _ (omega (arith, c.loop-i-test.false)))
    ∙ l.invariant.rest c.args.symbol (symbol-long, λ i. (symbol-byte i).fits, c.low8-name.ensures)
