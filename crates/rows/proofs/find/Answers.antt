-- `rows::find` meets its contract.
-- Assumes nothing.
use mathlib.Core.Path.{◌≡◌, ap, sym, ◌∙◌}
use mathlib.Core.List.{List}
use borrow.Author.Rules.{rules}
use borrow.Author.Tests.{eq-eqb, ne_eqb}
use lib.Dec.{eqb}
use lib.ListN.{length, get_or}
use mir.Syntax.{w8}
use mir.Val.{Fits}
use native.Mathlib.Nat.{sub-zero}
use native.Mathlib.Omega.{arith}
use Prim.Native.Nat.{ℕ, ◌*◌}
use Rattle.octets.specs.Run.{part, Bytes}
use Rattle.octets.proofs.Bytes.{part_bytes}
use Rattle.eights.specs.Low.{low}
use Rattle.eights.proofs.Low.{Named, named_same}
use Rattle.cells.proofs.Laws.{find_on, find_off, find_end, first_map}
use Rattle.rows.specs.Alone.{row_alone}
use Rattle.rows.specs.Cell.{row_cell}
use Rattle.rows.specs.declared.Row.{Row}
use Rattle.rows.specs.Rows.{is_of, listing_from, row_at, row_from, used_rows}
use Rattle.rows.proofs.find.Goals as goal
use Rattle.rows.proofs.find.Invariants.{serves}

-- the number of a cell's symbol, cut out of the room, tells whether its row serves
told : (m symbol cell : List ℕ) (name x i : ℕ) → Bytes m → Named name symbol → cell ≡ part m (i * row_cell) row_cell
    → x ≡ low (part cell 0 8) → serves symbol (row_at m i) ≡ eqb x name
unfolding row_from listing_from
told m symbol cell name x i b h e r =
    let fit : Bytes cell = rw e (part_bytes m (i * row_cell) row_cell b) in
    let here : row_from cell 0 ≡ row_at m i = rw e (row_alone m (i * row_cell)) in
    ap (serves symbol) (sym here) ∙ sym (named_same cell symbol 0 name fit h) ∙ ap (λ (k : ℕ). eqb k name) (sym r)

pub loop-i-init : goal.loop-i-init
unfolding used_rows
loop-i-init c = λ s h. rw (sub-zero, c.lesser-n.ensures, c.limit.ensures)

pub returns-then-low8-name : goal.returns-then-low8-name
returns-then-low8-name c =
    let symbol = c.args.symbol in
    let symbol-long : length c.args.symbol ≡ 8 = search rules in
    let symbol-byte : (i : ℕ) → Fits w8 (get_or c.args.symbol i 0) = (λ i. search rules) in
    let named : Named c.low8-name.result c.args.symbol = (symbol-long, λ i. (symbol-byte i).fits, c.low8-name.ensures) in
    let l = c.loop-i in
    let bytes : Bytes c.args.rows.now = λ i. (c.type_inv.rows i).fits in
    let cut = c.cut.ensures.inside (omega (arith, c.loop-i-test.true, c.lesser-n.ensures, c.limit.ensures)) in
    sym (find_on (serves symbol) (row_at c.args.rows.now) l.i _ c.loop-i-test.true
    (told c.args.rows.now symbol _ _ _ l.i bytes named cut c.low8.ensures ∙ eq-eqb _ _ c.if-low8-name.true))
    ∙ l.invariant symbol named ∙ first_map (is_of symbol) (λ (r : Row). r.listing) _ 0

pub loop-i-preserved : goal.loop-i-preserved
loop-i-preserved c = λ s h.
    let l = c.loop-i in
    let bytes : Bytes c.args.rows.now = λ i. (c.type_inv.rows i).fits in
    let cut = c.cut.ensures.inside (omega (arith, c.loop-i-test.true, c.lesser-n.ensures, c.limit.ensures)) in
    sym (find_off (serves s) (row_at c.args.rows.now) l.i _ c.loop-i-test.true
    (told c.args.rows.now s _ _ _ l.i bytes h cut c.low8.ensures ∙ ne_eqb _ _ c.if-low8-name.false))
    ∙ l.invariant s h

pub returns : goal.returns
returns c =
    let symbol = c.args.symbol in
    let symbol-long : length c.args.symbol ≡ 8 = search rules in
    let symbol-byte : (i : ℕ) → Fits w8 (get_or c.args.symbol i 0) = (λ i. search rules) in
    let l = c.loop-i in
    sym (find_end (serves symbol) (row_at c.args.rows.now) l.i _ c.loop-i-test.false)
    ∙ l.invariant symbol (symbol-long, λ i. (symbol-byte i).fits, c.low8-name.ensures)
    ∙ first_map (is_of symbol) (λ (r : Row). r.listing) _ 0
