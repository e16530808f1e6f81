-- Every lent byte outside the cells that a call may store in stays, and no room changes its length; no row shows a volume that does
-- not fit.
-- Assumes nothing.
use Rattle.std.specs.Prelude.{None, Option, Some, ℕ}
use Prim.Native.Nat.{ℕ, suc, ◌+◌, ◌*◌, ◌^◌, ◌≤◌, ◌<◌}
use mathlib.Core.Path.{◌≡◌, refl, ap, sym, ◌∙◌}
use mathlib.Core.Logic.{◌⊎◌, ⊎_elim}
use mathlib.Core.List.{List, [], ◌∷◌}
use mathlib.Core.Bool.{Bool, true, false, cond, not, ◌&&◌, true≢false}
use native.Mathlib.Omega.{arith}
use borrow.Author.Tests.{eqb-true}
use lib.Dec.{eqb, ltb, lit<}
use lib.ListN.{length, get_or, length-map}
use Rattle.octets.specs.Run.{Bytes}
use Rattle.numbers.proofs.Laws.{be_below}
use Rattle.answers.specs.Cases.{says, given, in_book}
use Rattle.records.specs.Fits.{RecordFits}
use Rattle.records.specs.declared.Record.{Record}
use Rattle.message.proofs.Fitting.{read_fits}
use Rattle.cells.proofs.Slabs.{found_below}
use Rattle.editions.specs.declared.Edition.{Edition}
use Rattle.editions.specs.Editions.{reports}
use Rattle.kinds.specs.declared.Kind.{Kind}
use Rattle.kinds.specs.Kinds.{is_event, is_summary, names_old, makes_new, sets_volume}
use Rattle.kinds.proofs.Laws.{sets_event, summary_sets}
use Rattle.lines.specs.Cell.{line_cell, line_cap, at_place, at_time, at_live}
use Rattle.lines.specs.declared.Line.{Line}
use Rattle.lines.specs.Lines.{line_from, line_limit, line_at, no_line, line_in, with_line, with_dead}
use Rattle.lines.specs.Changed.{LineFits}
use Rattle.lines.proofs.Slabs.{line_length, dead_length, line_touches, dead_touches}
use Rattle.rows.specs.declared.Listing.{Listing}
use Rattle.rows.specs.declared.Row.{Row}
use Rattle.rows.specs.Cell.{row_cell, at_summary, at_reported}
use Rattle.rows.specs.Rows.{new_row, report_bytes, summary_bytes, is_of, no_row, row_in, listing_of, in_row, with_row, with_summary}
use Rattle.rows.proofs.Slabs.{used_rows_length, row_in_lem, row_length, row_touches, new_row_length, report_length, summary_length}
use Rattle.figures.specs.declared.Figures.{Figures}
use Rattle.walk.specs.Walking.{figures_of}
use Rattle.walk.specs.Meaning.{Are}
use Rattle.walk.proofs.Meaning.{figures_are, volume_fits}
use Rattle.keys.specs.Keys.{kind_in}
use Rattle.table.specs.Table.{is_found, is_listed}
use Rattle.take.specs.Taking.{made_line, corrected_line, corrected, lines_by, reported, summed, reported_by, rows_by}
use Rattle.show.specs.Showing.{shown_of, nothing_shown}
use Rattle.book.specs.State.{State, Arrival, edition_of, wanted_in, rows_in, sheet_of, lines_in, sound_in}
use Rattle.book.proofs.Demand1.{answer_taken}
use Rattle.book.specs.Calls.{list_answer, with_listing, listed, reading_in, message_given, row_named, line_named, taking, spent}
use Rattle.book.specs.Calls.{delivered, row_answer, row_found, shown}

-- j is before a start, or not before an end
abbrev pub Outside : ℕ → ℕ → ℕ → Type 0
Outside start end j = (j < start) ⊎ (end ≤ j)

-- a number of a line that is kept in bytes fits, as one of no line does
kept_fits : (number : Line → ℕ) (m : List ℕ) (k : ℕ) → number (line_at m k) < 2 ^ 32 → number no_line < 2 ^ 32 → number (line_in m k) < 2 ^ 32
unfolding line_in
kept_fits number m k h z = go (ltb k (line_limit (length m)))
  where
    go : (t : Bool) → number (cond t (line_at m k) no_line) < 2 ^ 32
    go true = h
    go false = z

module _ (r : Record) (f : RecordFits r) where
  pub made_fits : (n : ℕ) → n < 2 ^ 32 → LineFits (made_line n r)
  made_fits n h =
      record {
        key = ap suc f.sale.control;
        symbol = f.symbol;
        price = f.sale.price;
        size = f.sale.size;
        condition = f.sale.condition;
        place = h;
        time = f.time;
      }

  -- the old line's place and time stand in bytes
  pub corrected_fits : (m : List ℕ) (k : ℕ) → Bytes m → LineFits (corrected_line (line_in m k) r)
  unfolding line_from
  corrected_fits m k b =
      record {
        key = ap suc f.new.control;
        symbol = f.symbol;
        price = f.new.price;
        size = f.new.size;
        condition = f.new.condition;
        place = kept_fits (λ l. l.place) m k (be_below m (k * line_cell + at_place) 4 b) (lit< tt);
        time = kept_fits (λ l. l.time) m k (be_below m (k * line_cell + at_time) 4 b) (lit< tt);
      }

-- what is stored keeps what is outside its place
line_outside : (m : List ℕ) (i : ℕ) (l : Line) (j : ℕ) → LineFits l → Outside (i * line_cell) (i * line_cell + line_cell) j
    → get_or (with_line m i l) j 0 ≡ get_or m j 0
line_outside m i l j f o = ⊎_elim (line_touches m i l j f).0 (line_touches m i l j f).1 o

row_outside : (m : List ℕ) (i from : ℕ) (bytes : List ℕ) (start end j : ℕ)
    → from + length bytes ≤ row_cell → start ≤ i * row_cell + from → i * row_cell + from + length bytes ≤ end
    → Outside start end j → get_or (in_row m i from bytes) j 0 ≡ get_or m j 0
row_outside m i from bytes start end j f a b o =
    let k = row_touches m i from bytes j f in
    ⊎_elim (λ (h : j < start). k.0 (omega arith)) (λ (h : end ≤ j). k.1 (omega arith)) o

-- ---- what a message does, test by test: f of the room stays, if it stays at each step

module _ {A : Type 0} (f : List ℕ → A) where
  by_lines : (kind : Kind) (m : List ℕ) (used n : ℕ) (r : Record) (k : ℕ)
      → (makes_new kind ≡ true → f (with_line m used (made_line n r)) ≡ f m)
      → (names_old kind ≡ true → f (with_dead m k) ≡ f m)
      → (makes_new kind ≡ true → f (corrected m used r k) ≡ f (with_dead m k))
      → f (lines_by kind m used n r k) ≡ f m
  unfolding lines_by
  by_lines kind m used n r k made dead new = go (names_old kind) refl (makes_new kind) refl
    where
      go : (o : Bool) → names_old kind ≡ o → (t : Bool) → makes_new kind ≡ t
          → f (cond (o && t) (corrected m used r k) (cond o (with_dead m k) (cond t (with_line m used (made_line n r)) m))) ≡ f m
      go true o true t = new t ∙ dead o
      go true o false t = dead o
      go false o true t = made t
      go false o false t = refl

  by_rows : (e : Edition) (kind : Kind) (m : List ℕ) (r : Record) (i : ℕ)
      → (is_summary kind ≡ true → f (with_summary m i r.high r.low) ≡ f m)
      → (is_event kind ≡ false → (w : List ℕ) → f (reported w r i) ≡ f w)
      → f (rows_by e kind m r i) ≡ f m
  unfolding rows_by reported_by
  by_rows e kind m r i summary report = go (reports e) (is_summary kind) refl (sets_volume kind) refl
    where
      go : (b j : Bool) → is_summary kind ≡ j → (t : Bool) → sets_volume kind ≡ t
          → f (cond b (cond j (summed m r i) (cond t (reported m r i) m)) m) ≡ f m
      go false k j t v = refl
      go true true j t v = report (sets_event kind (summary_sets kind j)) (with_summary m i r.high r.low) ∙ summary j
      go true false j true t = report (sets_event kind t) m
      go true false j false t = refl

abbrev byte : ℕ → List ℕ → ℕ
byte j m = get_or m j 0

-- a message that names a line may change its live mark, one that makes a line that line's cell
pub lines_by_keep : (kind : Kind) (m : List ℕ) (used n : ℕ) (r : Record) (k j : ℕ) → Bytes m → RecordFits r → n < 2 ^ 32
    → (names_old kind ≡ true → j ≡ k * line_cell + at_live → ⊥)
    → (makes_new kind ≡ true → Outside (used * line_cell) (used * line_cell + line_cell) j)
    → get_or (lines_by kind m used n r k) j 0 ≡ get_or m j 0
lines_by_keep kind m used n r k j b f h names makes =
    by_lines (byte j) kind m used n r k
    (λ e. line_outside m used (made_line n r) j (made_fits r f n h) (makes e))
    (λ e. dead_touches m k j (names e))
    (λ e. line_outside (with_dead m k) used (corrected_line (line_in m k) r) j (corrected_fits r f m k b) (makes e))

pub lines_by_length : (kind : Kind) (m : List ℕ) (used n : ℕ) (r : Record) (k : ℕ) → length (lines_by kind m used n r k) ≡ length m
lines_by_length kind m used n r k =
    by_lines length kind m used n r k
    (λ e. line_length m used (made_line n r))
    (λ e. dead_length m k)
    (λ e. line_length (with_dead m k) used (corrected_line (line_in m k) r))

-- a message that is no event may change its row's reported volume, a J also what the row keeps of a J
pub rows_by_keep : (e : Edition) (kind : Kind) (m : List ℕ) (r : Record) (i j : ℕ)
    → (is_summary kind ≡ true → Outside (i * row_cell + at_summary) (i * row_cell + at_reported) j)
    → (is_event kind ≡ false → Outside (i * row_cell + at_reported) (i * row_cell + row_cell) j)
    → get_or (rows_by e kind m r i) j 0 ≡ get_or m j 0
rows_by_keep e kind m r i j p o =
    let at = i * row_cell in
    let s : length (summary_bytes r.high r.low) ≡ 9 = summary_length r.high r.low in
    let v : length (report_bytes r.consolidated) ≡ 9 = report_length r.consolidated in
    by_rows (byte j) e kind m r i
    (λ t. row_outside m i at_summary (summary_bytes r.high r.low) (at + at_summary) (at + at_reported) j (omega arith)
    (omega arith) (omega arith) (p t))
    (λ t w. row_outside w i at_reported (report_bytes r.consolidated) (at + at_reported) (at + row_cell) j (omega arith)
    (omega arith) (omega arith) (o t))

pub rows_by_length : (e : Edition) (kind : Kind) (m : List ℕ) (r : Record) (i : ℕ) → length (rows_by e kind m r i) ≡ length m
rows_by_length e kind m r i =
    by_rows length e kind m r i
    (λ t. row_length m i at_summary (summary_bytes r.high r.low))
    (λ t w. row_length w i at_reported (report_bytes r.consolidated))

-- ---- of the calls

-- the record that a book reads an arrival as, and its type
abbrev pub arrived : State → Arrival → Record
arrived s a = (reading_in s a.message).found

abbrev pub kind_of_arrived : State → Arrival → Kind
kind_of_arrived s a = kind_in (arrived s a)

module _ (s : State) where
  -- every byte that a call keeps, and that no room changes its size
  pub record TouchesOnly : Type 0 where
    -- a listing: all but the new row's cell
    pub listing : (l : Listing) (j : ℕ) → length l.symbol ≡ 8
        → Outside (s.counters.rows * row_cell) (s.counters.rows * row_cell + row_cell) j
        → get_or (listed s l).state.rows j 0 ≡ get_or s.rows j 0
    -- a message, rows: all but the reported volume of its row and, of a J, what the row keeps of a J; an event touches none
    pub in_rows : (a : Arrival) (j : ℕ)
        →
        (is_summary (kind_of_arrived s a) ≡ true → Outside (row_named s (arrived s a) * row_cell + at_summary)
        (row_named s (arrived s a) * row_cell + at_reported) j)
        →
        (is_event (kind_of_arrived s a) ≡ false → Outside (row_named s (arrived s a) * row_cell + at_reported)
        (row_named s (arrived s a) * row_cell + row_cell) j)
        → get_or (delivered s a).state.rows j 0 ≡ get_or s.rows j 0
    -- a message, lines: all but the live mark of the line that X and C name, and the new cell of T and C
    pub in_lines : (a : Arrival) (j : ℕ) → Bytes s.lines → Bytes a.message
        → (names_old (kind_of_arrived s a) ≡ true → j ≡ line_named s (arrived s a) * line_cell + at_live → ⊥)
        → (makes_new (kind_of_arrived s a) ≡ true → Outside (s.counters.lines * line_cell) (s.counters.lines * line_cell + line_cell) j)
        → get_or (delivered s a).state.lines j 0 ≡ get_or s.lines j 0
    pub listed_lines : (l : Listing) → (listed s l).state.lines ≡ s.lines
    pub listed_length : (l : Listing) → length (listed s l).state.rows ≡ length s.rows
    pub rows_length : (a : Arrival) → length (delivered s a).state.rows ≡ length s.rows
    pub lines_length : (a : Arrival) → length (delivered s a).state.lines ≡ length s.lines

  -- what holds of the state that is left where a listing is done holds of what is left, if it holds of what was
  pub by_listing : {A : Type 0} (f : State → A) (l : Listing) → f (with_listing s l) ≡ f s → f (listed s l).state ≡ f s
  unfolding listed
  by_listing f l d = go (eqb (list_answer s l) 0)
    where
      go : (t : Bool) → f (cond t (with_listing s l) s) ≡ f s
      go true = d
      go false = refl

  -- the same of a message that is taken; where it is refused, a number may be used up
  pub by_arrival : {A : Type 0} (f : State → A) (a : Arrival) → f (spent s) ≡ f s
      → ((message_given s a).number ≡ 0 → f (taking s (arrived s a)) ≡ f s)
      → f (delivered s a).state ≡ f s
  unfolding delivered
  by_arrival f a u d = go (eqb (message_given s a).number 0) refl (message_given s a).uses
    where
      go : (t : Bool) → eqb (message_given s a).number 0 ≡ t → (v : Bool) → f (cond t (taking s (arrived s a)) (cond v (spent s) s)) ≡ f s
      go true t v = d (eqb-true (message_given s a).number 0 t)
      go false t true = u
      go false t false = refl

  listing_keeps : (l : Listing) (j : ℕ) → length l.symbol ≡ 8
      → Outside (s.counters.rows * row_cell) (s.counters.rows * row_cell + row_cell) j
      → get_or (with_row s.rows s.counters.rows l) j 0 ≡ get_or s.rows j 0
  listing_keeps l j h o =
      let i = s.counters.rows in
      let e : length (new_row l) ≡ row_cell = new_row_length l h in
      row_outside s.rows i 0 (new_row l) (i * row_cell) (i * row_cell + row_cell) j (omega arith) (omega arith) (omega arith) o

  taking_keeps : (a : Arrival) (j : ℕ) → Bytes s.lines → Bytes a.message
      → (names_old (kind_of_arrived s a) ≡ true → j ≡ line_named s (arrived s a) * line_cell + at_live → ⊥)
      → (makes_new (kind_of_arrived s a) ≡ true → Outside (s.counters.lines * line_cell) (s.counters.lines * line_cell + line_cell) j)
      → (message_given s a).number ≡ 0 → get_or (taking s (arrived s a)).lines j 0 ≡ get_or s.lines j 0
  taking_keeps a j bl bm k o z =
      let w = answer_taken s a z in
      let fits : wanted_in s < 2 ^ 32 = omega (arith, w.wanted, w.greatest) in
      lines_by_keep (kind_of_arrived s a) s.lines s.counters.lines (wanted_in s) (arrived s a) (line_named s (arrived s a)) j bl
      (read_fits (edition_of s) a.message bm) fits k o

  pub touches_only : TouchesOnly
  touches_only =
      record {
        listing = λ l j h o. by_listing (λ t. get_or t.rows j 0) l (listing_keeps l j h o);
        in_rows =
            λ a j p o. by_arrival (λ t. get_or t.rows j 0) a refl
            (λ z. rows_by_keep (edition_of s) (kind_of_arrived s a) s.rows (arrived s a) (row_named s (arrived s a)) j p o);
        in_lines = λ a j bl bm k o. by_arrival (λ t. get_or t.lines j 0) a refl (λ z. taking_keeps a j bl bm k o z);
        listed_lines = λ l. by_listing (λ t. t.lines) l refl;
        listed_length = λ l. by_listing (λ t. length t.rows) l (row_length s.rows s.counters.rows 0 (new_row l));
        rows_length =
            λ a. by_arrival (λ t. length t.rows) a refl
            (λ z. rows_by_length (edition_of s) (kind_of_arrived s a) s.rows (arrived s a) (row_named s (arrived s a)));
        lines_length =
            λ a. by_arrival (λ t. length t.lines) a refl
            (λ z. lines_by_length (kind_of_arrived s a) s.lines s.counters.lines (wanted_in s) (arrived s a)
            (line_named s (arrived s a)));
      }

  -- no row shows a volume above 65,536 times the greatest size
  pub volume_shown : (symbol : List ℕ) → Bytes s.lines → (shown s symbol).row.volume ≤ line_cap * 4294967295
  unfolding shown shown_of
  volume_shown symbol b = go (eqb (row_answer s symbol) 0)
    where
      go : (t : Bool)
          → (cond t
          (shown_of (row_in s.rows (row_found s symbol)) (figures_of symbol (lines_in s))) nothing_shown).volume ≤ line_cap * 4294967295
      go true = volume_fits s.lines symbol s.counters.lines b
      go false = omega arith

-- ---- a row as it is read

-- the first used row of the symbol, and the figures that its symbol's live lines mean
pub record RowReads (s : State) (symbol : List ℕ) : Type 0 where
  pub row : Row
  pub first : (i : ℕ) × (listing_of symbol (sheet_of s) ≡ Some i) × (row ≡ get_or (rows_in s) i no_row)
  pub figures : Figures
  pub mean : Are symbol (lines_in s) figures
  pub reads : (shown s symbol).row ≡ shown_of row figures

pub row_reads : (s : State) (symbol : List ℕ) → row_answer s symbol ≡ 0 → RowReads s symbol
unfolding shown row_answer
row_reads s symbol z = go (listing_of symbol (sheet_of s)) refl (listed_there (sound_in s) (is_listed symbol (sheet_of s)) z)
  where
    listed_there : (b l : Bool) → (given (in_book b (says 7 (not l) ∷ []))).number ≡ 0 → l ≡ true
    listed_there true true e = refl
    listed_there true false e = absurd (omega arith)
    listed_there false l e = absurd (omega arith)

    go : (f : Option ℕ) → listing_of symbol (sheet_of s) ≡ f → is_listed symbol (sheet_of s) ≡ true → RowReads s symbol
    go None e l = absurd (true≢false (sym l ∙ ap is_found e))
    go (Some i) e l =
        let b : i < length (sheet_of s) = found_below (is_of symbol) (sheet_of s) i e in
        let n : length (sheet_of s) ≡ length (rows_in s) = length-map (rows_in s) (λ (r : Row). r.listing) in
        let k : get_or (rows_in s) i no_row ≡ row_in s.rows i
        = row_in_lem s.rows s.counters.rows i (omega (arith, used_rows_length s.rows s.counters.rows)) in
        record {
          row = get_or (rows_in s) i no_row;
          first = (i, e, refl);
          figures = figures_of symbol (lines_in s);
          mean = figures_are symbol (lines_in s);
          reads = rw (z, e) (ap (λ (w : Row). shown_of w (figures_of symbol (lines_in s))) (sym k));
        }
