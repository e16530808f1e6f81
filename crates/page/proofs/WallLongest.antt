-- The longest wall that the types allow: a space that long holds any wall of so many rows.
-- Assumes nothing.
use Rattle.std.specs.Prelude.{None, Option, Some, ℕ}
use Prim.Native.Nat.{ℕ, zero, suc, ◌+◌, ◌*◌, ◌^◌, ◌≤◌, ◌<◌, min}
use mathlib.Core.Path.{◌≡◌, refl, ap, sym, subst, ◌∙◌}
use mathlib.Core.Bool.{Bool, true, false, cond}
use mathlib.Core.List.{List, [], ◌∷◌, ◌++◌, map}
use native.Mathlib.Nat.{suc-mul}
use native.Mathlib.Omega.{arith}
use lib.Dec.{eqb, ltb}
use lib.IntN.{pos, ◌-ℤ◌}
use lib.ListN.{length, get_or, length-append}
use Rattle.octets.specs.Run.{tab, part, Bytes}
use Rattle.octets.proofs.Bytes.{either_way}
use Rattle.octets.proofs.Laws.{part_length}
use Rattle.numbers.specs.Number.{be}
use Rattle.numbers.proofs.Laws.{be_below}
use Rattle.lines.specs.declared.Line.{Line}
use Rattle.lines.specs.Cell.{line_cell, at_price}
use Rattle.lines.specs.Lines.{line_from, line_at, line_limit, used_lines}
use Rattle.rows.specs.declared.Row.{Row}
use Rattle.rows.specs.Cell.{row_cell, at_close, at_reported, at_volume}
use Rattle.rows.specs.Rows.{listing_from, row_from, reported_at, row_at, row_limit, used_rows}
use Rattle.rows.proofs.Slabs.{used_rows_length}
use Rattle.conditions.specs.Conditions.{condition_marks}
use Rattle.figures.specs.Figures.{last_trade}
use Rattle.figures.specs.declared.Figures.{Figures}
use Rattle.figures.specs.Figures.{raise, lower, later, no_figures, sold}
use Rattle.walk.specs.Walking.{counts, dealt, tally, fold, figures_of}
use Rattle.walk.proofs.Meaning.{volume_fits, count_fits}
use Rattle.show.specs.Showing.{last_of, net_of, shown_of}
use Rattle.show.specs.Fits.{NetFits}
use Rattle.show.proofs.Signed.{below}
use Rattle.print.specs.Texts.{header_text, row_text, closing_text, stop_text}
use Rattle.print.specs.Fits.{PriceFits, ReportedFits, RowFits, header_longest, row_longest, closing_longest, stop_longest}
use Rattle.print.proofs.Longest.{header_longest_lem, row_longest_lem, closing_longest_lem, stop_longest_lem}
use Rattle.book.specs.State.{State, rows_in, lines_in}
use Rattle.tape.specs.Playing.{joined}
use Rattle.page.specs.Page.{shown_row, row_lines, end_lines, wall_lines, wall_of}
use Rattle.page.proofs.Laws.{joined_append}
use Rattle.page.specs.Printable.{Printable, EndingFits, wall_longest}
use Rattle.figures.specs.declared.LastTrade.{LastTrade}

-- ---- the figures of lines whose prices have 32 bits

pub record Priced (f : Figures) : Type 0 where
  pub high : PriceFits f.high
  pub low : PriceFits f.low
  pub last : PriceFits (last_of f.last)

raised : (q : Option ℕ) (p : ℕ) → PriceFits q → p < 2 ^ 32 → PriceFits (raise q p)
raised None p h k = k
raised (Some q) p h k = either_way PriceFits (ltb q p) (Some p) (Some q) k h

lowered : (q : Option ℕ) (p : ℕ) → PriceFits q → p < 2 ^ 32 → PriceFits (lower q p)
lowered None p h k = k
lowered (Some q) p h k = either_way PriceFits (ltb p q) (Some p) (Some q) k h

renewed : (q : Option LastTrade) (v p : ℕ) → PriceFits (last_of q) → p < 2 ^ 32 → PriceFits (last_of (later q v p))
renewed None v p h k = k
renewed (Some last) v p h k =
    either_way (λ (x : Option LastTrade). PriceFits (last_of x)) (ltb last.place v) (Some (last_trade v p)) (Some last) k h

one_line : (symbol : List ℕ) (f : Figures) (l : Line) → Priced f → l.price < 2 ^ 32 → Priced (tally symbol f l)
unfolding tally sold
one_line symbol f l h k =
    let m = condition_marks l.condition in
    either_way Priced (counts symbol l) (dealt f l) f
    (record {
      high =
          either_way PriceFits m.high_low (raise f.high l.price) f.high
          (raised f.high l.price h.high k) h.high;
      low =
          either_way PriceFits m.high_low (lower f.low l.price) f.low
          (lowered f.low l.price h.low k) h.low;
      last =
          either_way (λ (x : Option LastTrade). PriceFits (last_of x)) m.last (later f.last l.place l.price) f.last
          (renewed f.last l.place l.price h.last k) h.last;
    })
    h

all_lines : (symbol : List ℕ) (line : ℕ → Line) → ((k : ℕ) → (line k).price < 2 ^ 32) → (i n : ℕ) (f : Figures) → Priced f
    → Priced (fold (tally symbol) f (tab line i n))
unfolding fold tab
all_lines symbol line p i zero f h = h
all_lines symbol line p i (suc n) f h =
    all_lines symbol line p (suc i) n (tally symbol f (line i)) (one_line symbol f (line i) h (p i))

priced : (m : List ℕ) → Bytes m → (symbol : List ℕ) (used : ℕ) → Priced (figures_of symbol (used_lines m used))
unfolding figures_of used_lines line_from
priced m b symbol used =
    all_lines symbol (line_at m) (λ k. omega (arith, be_below m (k * line_cell + at_price) 4 b)) 0 (min used (line_limit (length m))) no_figures
    (record { high = tt; low = tt; last = tt })

-- ---- a row

net_small : (p : Option ℕ) (close : ℕ) → PriceFits p → close < 2 ^ 32 → NetFits (net_of p close)
net_small None close h k = tt
net_small (Some p) close h k = either_way NetFits (eqb close 0) None (Some (pos p -ℤ pos close)) tt (below p close h k)

reported_small : (m : List ℕ) (at : ℕ) → Bytes m → ReportedFits (reported_at m at)
unfolding reported_at
reported_small m at b =
    either_way ReportedFits (eqb (get_or m (at + at_reported) 0) 1) (Some (be (part m (at + at_volume) 8))) None
    (omega (arith, be_below m (at + at_volume) 8 b)) tt

module _ (s : State) (e : Option ℕ) (h : Printable s e) where
  row_fits : (i : ℕ) → RowFits (shown_row s (row_at s.rows i))
  unfolding shown_of row_from listing_from
  row_fits i =
      let symbol = part s.rows (i * row_cell) 8 in
      let p = priced s.lines h.lines symbol s.counters.lines in
      let close : be (part s.rows (i * row_cell + at_close) 4) < 2 ^ 32
      = omega (arith, be_below s.rows (i * row_cell + at_close) 4 h.rows) in
      record {
        symbol = part_length s.rows (i * row_cell) 8;
        last = p.last;
        high = p.high;
        low = p.low;
        net = net_small (last_of (figures_of symbol (lines_in s)).last) (be (part s.rows (i * row_cell + at_close) 4)) p.last close;
        volume = omega (arith, volume_fits s.lines symbol s.counters.lines h.lines);
        count = omega (arith, count_fits s.lines symbol s.counters.lines);
        reported = reported_small s.rows (i * row_cell) h.rows;
      }

  rows_longest : (i n : ℕ) → length (joined (map (λ (w : Row). row_text (shown_row s w)) (tab (row_at s.rows) i n))) ≤ n * row_longest
  unfolding tab
  rows_longest i zero = omega arith
  rows_longest i (suc n) =
      let rest = joined (map (λ (w : Row). row_text (shown_row s w)) (tab (row_at s.rows) (suc i) n)) in
      omega (
        arith,
        length-append (row_text (shown_row s (row_at s.rows i))) rest,
        row_longest_lem (shown_row s (row_at s.rows i)) (row_fits i),
        rows_longest (suc i) n,
        suc-mul n row_longest,
      )

  ends_longest : (e : Option ℕ) → EndingFits e → length (joined (end_lines e)) ≤ stop_longest
  ends_longest None f = omega arith
  ends_longest (Some n) f = omega (arith, length-append (stop_text n) [], stop_longest_lem n f)

  -- no wall is longer
  pub wall_longest_lem : length (wall_of s e) ≤ wall_longest (length (rows_in s))
  unfolding wall_of wall_lines used_rows
  wall_longest_lem =
      let n = min s.counters.rows (row_limit (length s.rows)) in
      let closed = closing_text s.counters.taken s.counters.wanted in
      omega (
        arith,
        length-append header_text (joined (row_lines s ++ (closed ∷ end_lines e))),
        header_longest_lem,
        ap length (joined_append (row_lines s) (closed ∷ end_lines e)),
        length-append (joined (row_lines s)) (joined (closed ∷ end_lines e)),
        rows_longest 0 n,
        used_rows_length s.rows s.counters.rows,
        length-append closed (joined (end_lines e)),
        closing_longest_lem s.counters.taken s.counters.wanted h.taken h.wanted,
        ends_longest e h.ending,
        ap (λ (k : ℕ). k * row_longest) (used_rows_length s.rows s.counters.rows),
      )
