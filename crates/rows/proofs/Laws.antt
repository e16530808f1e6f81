-- A row stored field by field: each step is what one store left.
-- Assumes nothing.
use mathlib.Core.Path.{◌≡◌, ap, sym, ◌∙◌}
use mathlib.Core.List.{List, [], ◌∷◌, ◌++◌}
use Prim.Native.Nat.{ℕ, ◌+◌, ◌-◌, ◌*◌, ◌<◌}
use native.Mathlib.Nat.{add-zero}
use native.Mathlib.Omega.{arith}
use lib.ListN.{length, set, replicate}
use lib.Seq.{sets}
use Rattle.numbers.specs.Number.{digits}
use Rattle.numbers.proofs.Laws.{digits_length}
use Rattle.rows.specs.declared.Listing.{Listing}
use Rattle.rows.specs.Cell.{row_cell, at_close, at_summary, at_high, at_low, at_reported, at_volume}
use Rattle.rows.specs.Rows.{row_limit, in_row, new_row, report_bytes, summary_bytes}
use Rattle.cells.proofs.Laws.{inside, then_stored}

-- what was stored where row i starts is stored in row i
pub in_place : (m : List ℕ) (i at from : ℕ) (xs : List ℕ) → i < row_limit (length m) → at ≡ i * row_cell
    → sets m (at + from) xs ≡ in_row m i from xs
unfolding in_row
in_place m i at from xs h e = rw e (sym (inside (sets m (i * row_cell + from) xs) m i (row_limit (length m)) h))

pub row_stored : (m a b out : List ℕ) (at : ℕ) (l : Listing) → length l.symbol ≡ 8
    → a ≡ sets m at l.symbol → b ≡ sets a (at + at_close) (digits 4 l.close)
    → out ≡ sets b (at + at_summary) (replicate (row_cell - at_summary) 0)
    → out ≡ sets m (at + 0) (new_row l)
unfolding new_row
row_stored m a b out at l h ea eb eo =
    let symbol = l.symbol in
    let close = l.close in
    let d = digits 4 close in
    let r : List ℕ = replicate (row_cell - at_summary) 0 in
    eo
    ∙ then_stored d r a b (at + at_close) (at + at_summary) eb (omega (arith, digits_length 4 close))
    ∙ then_stored symbol (d ++ r) m a at (at + at_close) ea (omega (arith, h))
    ∙ ap (λ (k : ℕ). sets m k (symbol ++ (d ++ r))) (sym (add-zero at))

pub report_stored : (m a out : List ℕ) (at v : ℕ) → a ≡ set m (at + at_reported) 1 → out ≡ sets a (at + at_volume) (digits 8 v)
    → out ≡ sets m (at + at_reported) (report_bytes v)
unfolding report_bytes
report_stored m a out at v ea eo = eo ∙ then_stored (1 ∷ []) (digits 8 v) m a (at + at_reported) (at + at_volume) ea (omega arith)

pub summary_stored : (m a b out : List ℕ) (at h l : ℕ) → a ≡ set m (at + at_summary) 1 → b ≡ sets a (at + at_high) (digits 4 h)
    → out ≡ sets b (at + at_low) (digits 4 l)
    → out ≡ sets m (at + at_summary) (summary_bytes h l)
unfolding summary_bytes
summary_stored m a b out at h l ea eb eo =
    eo
    ∙ then_stored (digits 4 h) (digits 4 l) a b (at + at_high) (at + at_low) eb (omega (arith, digits_length 4 h))
    ∙ then_stored (1 ∷ []) (digits 4 h ++ digits 4 l) m a (at + at_summary) (at + at_high) ea (omega arith)
