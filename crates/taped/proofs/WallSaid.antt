-- The printed wall is the one said: a row for each listing taken, in listing order, each as `row` shows it.
-- Assumes nothing.
use Rattle.std.specs.Prelude.{None, Option, Some, ℕ}
use Prim.Native.Nat.{ℕ, zero, suc, ◌+◌, ◌<◌, min}
use mathlib.Core.Path.{◌≡◌, refl, ap, ap₂, sym, subst, ◌∙◌}
use mathlib.Core.Bool.{Bool, true, false, cond, not}
use mathlib.Core.List.{List, [], ◌∷◌, ◌++◌, map, map-append, append-nil, append_assoc}
use native.Mathlib.Omega.{arith}
use borrow.Author.Tests.{eqb-true}
use lib.Dec.{eqb}
use lib.ListN.{length, get_or}
use lib.Seq.{map-set_same}
use Rattle.octets.specs.Run.{Bytes, tab, same}
use Rattle.answers.specs.Cases.{says, given, in_book}
use Rattle.editions.specs.declared.Edition.{Edition}
use Rattle.editions.specs.Editions.{reports}
use Rattle.message.specs.Reader.{read_of}
use Rattle.records.specs.declared.Record.{Record}
use Rattle.kinds.specs.declared.Kind.{Kind}
use Rattle.kinds.specs.Kinds.{is_summary, sets_volume}
use Rattle.rows.specs.declared.Listing.{Listing}
use Rattle.rows.specs.declared.Row.{Row}
use Rattle.rows.specs.Rows.{row_limit, used_rows, sheet_in, no_row, is_of, listing_of, row_in}
use Rattle.rows.specs.Changed.{listed_row, ListingFits}
use Rattle.rows.proofs.Slabs.{used_rows_length, row_in_lem}
use Rattle.lines.specs.Lines.{line_limit}
use Rattle.editions.specs.declared.Edition.TheVariants.{NlsPlus}
use Rattle.counters.specs.Counting.{fresh_counters}
use Rattle.walk.specs.Walking.{figures_of}
use Rattle.show.specs.declared.RowShown.{RowShown}
use Rattle.show.specs.Showing.{shown_of, nothing_shown}
use Rattle.print.specs.Texts.{header_text, row_text, closing_text}
use Rattle.keys.specs.Keys.{kind_in}
use Rattle.take.specs.Taking.{index_of}
use Rattle.table.specs.Table.{is_found, number_table}
use Rattle.book.specs.State.{State, with_counters, Arrival, edition_of, wanted_in, rows_in, lines_in, sheet_of, sound_in}
use Rattle.book.specs.Calls.{list_table, list_answer, listed, delivered, row_table, row_answer, shown}
use Rattle.upheld.proofs.Touches.{touches_only}
use Rattle.clerk.specs.Steps.{Book, book_of, keeping, summing, change_found, in_its_row, rows_for, taken_into, using_up, content, wanted_done}
use Rattle.clerk.specs.Steps.{next, list_answer_by, listing}
use Rattle.clerk.specs.Clerk.{is_in, symbols_in, sheet_from}
use Rattle.clerk.specs.Claims.{NoRepeat}
use Rattle.clerk.proofs.Steps.{deliver_step, list_step, deliver_sound, list_sound, fresh_sound}
use Rattle.clerk.proofs.Passing.{listable}
use Rattle.clerk.proofs.Lent.{deliver_bytes}
use Rattle.clerk.proofs.Sim.{sheet_once}
use Rattle.clerk.proofs.Lines.{or_false_left, or_false_right, first_hit, first_miss, up, same_refl, same_comm}
use Rattle.tape.specs.Entries.{Entry, Lists, Delivers, EntriesFit, tape_of, Tape, end_of}
use Rattle.tape.specs.Playing.{acted, acted_all, Play, played, joined}
use Rattle.tape.proofs.Tapes.{play_split, bytes_behind}
use Rattle.page.specs.Page.{shown_row, row_lines, end_lines, ending_at, wall_lines, wall_of, wall_after, wall_text}
use Rattle.clerk.specs.States.{AskedFit}
use Rattle.taped.specs.ClerksWall.{asked_in}
use Rattle.taped.proofs.TapeDay.{asked_fits, bytes_before, map_map}
use Rattle.taped.specs.Said.{taken_here, listings_taken, wall_said}

-- ---- what an entry does to the sheet

-- a message changes the listing of no row
rows_kept : (change : Row → Row) → ((w : Row) → (change w).listing ≡ w.listing) → (rs : List Row) (f : Option ℕ)
    → sheet_in (change_found change rs f) ≡ sheet_in rs
rows_kept change h rs None = refl
rows_kept change h rs (Some i) = map-set_same (λ (w : Row). w.listing) rs i (change (get_or rs i no_row)) no_row (h (get_or rs i no_row))

for_kept : (ed : Edition) (kind : Kind) (r : Record) (rs : List Row) → sheet_in (rows_for ed kind r rs) ≡ sheet_in rs
unfolding rows_for
for_kept ed kind r rs = go (reports ed) (is_summary kind) (sets_volume kind)
  where
    go : (p a b : Bool) → sheet_in (cond p (cond a (in_its_row (summing r) r rs) (cond b (in_its_row (keeping r) r rs) rs)) rs) ≡ sheet_in rs
    go false a b = refl
    go true true b = rows_kept (summing r) (λ w. refl) rs (listing_of r.symbol (sheet_in rs))
    go true false true = rows_kept (keeping r) (λ w. refl) rs (listing_of r.symbol (sheet_in rs))
    go true false false = refl

next_kept : (limit : ℕ) (b : Book) (a : Arrival) → sheet_in (next limit b a).rows ≡ sheet_in b.rows
unfolding next wanted_done taken_into using_up
next_kept limit b a =
    go (eqb (given (number_table b.wanted a.number)).number 0) (eqb (content limit b a.message) 0)
  where
    r : Record
    r = (read_of b.edition a.message).found

    go : (t u : Bool) → sheet_in (cond t (cond u (taken_into r b) (using_up b)) b).rows ≡ sheet_in b.rows
    go true true = for_kept b.edition (kind_in r) r b.rows
    go true false = refl
    go false u = refl

message_kept : (s : State) → sound_in s ≡ true → (a : Arrival) → Bytes s.lines → Bytes a.message
    → sheet_of (delivered s a).state ≡ sheet_of s
unfolding book_of
message_kept s safe a bl bm =
    ap (λ (b : Book). sheet_in b.rows) (deliver_step s safe a bl bm) ∙ next_kept (line_limit (length s.lines)) (book_of s) a

answer_by : (s : State) → sound_in s ≡ true → (l : Listing) → (listed s l).answer ≡ list_answer_by (row_limit (length s.rows)) (book_of s) l
unfolding listed list_answer book_of
answer_by s safe l = ap (λ (t : Bool). (given (in_book t (list_table (wanted_in s) (sheet_of s) (row_limit (length s.rows)) l))).number) safe

-- a listing that is taken goes to the end of the sheet
listing_added : (s : State) → sound_in s ≡ true → (l : Listing) → ListingFits l
    → sheet_of (listed s l).state ≡ sheet_of s ++ taken_here s (Lists l)
unfolding book_of listing
listing_added s safe l f =
    ap (λ (b : Book). sheet_in b.rows) (list_step s safe l f)
    ∙ go (eqb (list_answer_by (row_limit (length s.rows)) (book_of s) l) 0)
    ∙ ap (λ (n : ℕ). sheet_of s ++ cond (eqb n 0) (l ∷ []) []) (sym (answer_by s safe l))
  where
    more : Book
    more =
        record {
          edition = edition_of s;
          wanted = wanted_in s;
          phase = s.counters.phase;
          rows = rows_in s ++ (listed_row l ∷ []);
          lines = lines_in s;
          listed = s.counters.rows + 1;
          used = s.counters.lines;
          taken = s.counters.taken;
        }

    go : (t : Bool) → sheet_in (cond t more (book_of s)).rows ≡ sheet_of s ++ cond t (l ∷ []) []
    go true = map-append (λ (w : Row). w.listing) (rows_in s) (listed_row l ∷ [])
    go false = sym (append-nil (sheet_of s))

-- the sheet after a listing that the table gives 0
taken_then : (limit : ℕ) (sheet : List Listing) (l : Listing) → (given (list_table 1 sheet limit l)).number ≡ 0
    → sheet_from limit sheet (l ∷ []) ≡ sheet ++ (l ∷ [])
unfolding sheet_from
taken_then limit sheet l e = rw e

-- and its symbol was not on it
still_once : (s : State) → sound_in s ≡ true → (l : Listing) → NoRepeat (symbols_in (sheet_of s))
    → NoRepeat (symbols_in (sheet_of s ++ taken_here s (Lists l)))
unfolding book_of
still_once s safe l once = go (eqb (listed s l).answer 0) refl
  where
    limit : ℕ
    limit = row_limit (length s.rows)

    go : (t : Bool) → eqb (listed s l).answer 0 ≡ t → NoRepeat (symbols_in (sheet_of s ++ cond t (l ∷ []) []))
    go true e =
        let z : (given (list_table (wanted_in s) (sheet_of s) limit l)).number ≡ 0 = sym (answer_by s safe l) ∙ eqb-true _ 0 e in
        let first : wanted_in s ≡ 1 = (listable (wanted_in s) (sheet_of s) limit l z).early in
        let y : (given (list_table 1 (sheet_of s) limit l)).number ≡ 0
        = subst (λ (n : ℕ). (given (list_table n (sheet_of s) limit l)).number ≡ 0) first z in
        subst (λ (x : List Listing). NoRepeat (symbols_in x)) (taken_then limit (sheet_of s) l y) (sheet_once limit (sheet_of s) (l ∷ []) once)
    go false e = subst (λ (x : List Listing). NoRepeat (symbols_in x)) (sym (append-nil (sheet_of s))) once

-- ---- a whole tape

-- what holds of the state before each entry
pub record Steady (s : State) : Type 0 where
  pub safe : sound_in s ≡ true
  pub once : NoRepeat (symbols_in (sheet_of s))
  pub bytes : Bytes s.lines

fresh_sheet : (rooms : State) → sheet_of (with_counters (fresh_counters NlsPlus) rooms) ≡ []
unfolding used_rows tab
fresh_sheet rooms =
    let e : min 0 (row_limit (length rooms.rows)) ≡ 0 = omega arith in
    rw e

pub fresh_steady : (rooms : State) → Bytes rooms.lines → Steady (with_counters (fresh_counters NlsPlus) rooms)
fresh_steady rooms bl =
    record {
      safe = fresh_sound NlsPlus (length rooms.rows) (length rooms.lines);
      once = subst (λ (x : List Listing). NoRepeat (symbols_in x)) (sym (fresh_sheet rooms)) tt;
      bytes = bl;
    }

-- the listings taken are the sheet, in their order, behind what was on it
pub sheet_taken : (s : State) (es : List Entry) → AskedFit (asked_in es) → Steady s
    → (sheet_of (acted_all s es) ≡ sheet_of s ++ listings_taken s es) × Steady (acted_all s es)
unfolding acted_all listings_taken acted
sheet_taken s [] f h = (sym (append-nil (sheet_of s)), h)
sheet_taken s (Lists l ∷ es) f h =
    let e = listing_added s h.safe l f.0 in
    let t = (listed s l).state in
    let r = sheet_taken t es f.1
    (record {
      safe = list_sound s h.safe l;
      once = subst (λ (x : List Listing). NoRepeat (symbols_in x)) (sym e) (still_once s h.safe l h.once);
      bytes = subst Bytes (sym ((touches_only s).listed_lines l)) h.bytes;
    }) in (
      r.0
          ∙ ap (λ (x : List Listing). x ++ listings_taken t es) e
          ∙ append_assoc (sheet_of s) (taken_here s (Lists l)) (listings_taken t es),
      r.1,
    )
sheet_taken s (Delivers k a ∷ es) f h =
    let e = message_kept s h.safe a h.bytes f.0 in
    let t = (delivered s a).state in
    let r = sheet_taken t es f.1
    (record {
      safe = deliver_sound s h.safe a;
      once = subst (λ (x : List Listing). NoRepeat (symbols_in x)) (sym e) h.once;
      bytes = deliver_bytes s a h.bytes f.0;
    }) in
    (r.0 ∙ ap (λ (x : List Listing). x ++ listings_taken t es) e, r.1)

-- ---- a row by its place is the row of its symbol

other_row : (x : List ℕ) (ws : List Row) → is_in x (symbols_in (sheet_in ws)) ≡ false → (j : ℕ) → j < length ws
    → same (get_or ws j no_row).listing.symbol x ≡ false
other_row x [] h j l = absurd (omega arith)
other_row x (w ∷ ws) h zero l = or_false_left (same w.listing.symbol x) _ h
other_row x (w ∷ ws) h (suc j) l = other_row x ws (or_false_right (same w.listing.symbol x) _ h) j (omega arith)

own_row : (ws : List Row) → NoRepeat (symbols_in (sheet_in ws)) → (i : ℕ) → i < length ws
    → listing_of (get_or ws i no_row).listing.symbol (sheet_in ws) ≡ Some i
own_row [] d i l = absurd (omega arith)
own_row (w ∷ ws) d zero l = first_hit (is_of w.listing.symbol) w.listing (sheet_in ws) (same_refl w.listing.symbol)
own_row (w ∷ ws) d (suc i) l =
    let k = (get_or ws i no_row).listing.symbol in
    let m : same w.listing.symbol k ≡ false
    = same_comm w.listing.symbol k ∙ other_row w.listing.symbol ws d.0 i (omega arith) in
    first_miss (is_of k) w.listing (sheet_in ws) m ∙ ap up (own_row ws d.1 i (omega arith))

same_at : (f g : Row → List ℕ) (ws : List Row) → ((i : ℕ) → i < length ws → f (get_or ws i no_row) ≡ g (get_or ws i no_row)) → map f ws ≡ map g ws
same_at f g [] h = refl
same_at f g (w ∷ ws) h = ap₂ {C = List (List ℕ)} (λ x xs. x ∷ xs) (h 0 (omega arith)) (same_at f g ws (λ i l. h (suc i) (omega arith)))

module _ (s : State) (h : Steady s) where
  row_answered : (symbol : List ℕ) (i : ℕ) → listing_of symbol (sheet_of s) ≡ Some i → row_answer s symbol ≡ 0
  unfolding row_answer
  row_answered symbol i found =
      ap (λ (t : Bool). (given (in_book t (row_table (sheet_of s) symbol))).number) h.safe
      ∙ ap (λ (f : Option ℕ). (given (says 7 (not (is_found f)) ∷ [])).number) found

  shown_at : (i : ℕ) → i < length (rows_in s)
      → (shown s (get_or (rows_in s) i no_row).listing.symbol).row ≡ shown_row s (get_or (rows_in s) i no_row)
  unfolding shown
  shown_at i l =
      let w = get_or (rows_in s) i no_row in
      let symbol = w.listing.symbol in
      let found : listing_of symbol (sheet_of s) ≡ Some i = own_row (rows_in s) h.once i l in
      let m : i < min s.counters.rows (row_limit (length s.rows)) = omega (arith, used_rows_length s.rows s.counters.rows) in
      let row : Option ℕ → RowShown = λ f. shown_of (row_in s.rows (index_of f)) (figures_of symbol (lines_in s)) in
      ap (λ (n : ℕ). cond (eqb n 0) (row (listing_of symbol (sheet_of s))) nothing_shown) (row_answered symbol i found)
      ∙ ap row found
      ∙ ap (λ (x : Row). shown_of x (figures_of symbol (lines_in s))) (sym (row_in_lem s.rows s.counters.rows i m))

  rows_by_symbol : row_lines s ≡ map (λ (l : Listing). row_text (shown s l.symbol).row) (sheet_of s)
  rows_by_symbol =
      same_at (λ (w : Row). row_text (shown_row s w)) (λ (w : Row). row_text (shown s w.listing.symbol).row) (rows_in s)
      (λ i l. sym (ap row_text (shown_at i l)))
      ∙ sym (map_map (λ (w : Row). w.listing) (λ (l : Listing). row_text (shown s l.symbol).row) (rows_in s))

-- ---- the wall

-- of any tape of bytes: these entries, and then a rest at whose head none stands
pub wall_said_lem : (rooms : State) → Bytes rooms.lines → (b : List ℕ) → Bytes b → (es : List Entry) (rest : List ℕ) → Tape b es rest
    → wall_text rooms b ≡ wall_said (with_counters (fresh_counters NlsPlus) rooms) es (ending_at (end_of rest) (length (tape_of es)))
unfolding wall_text wall_said wall_of wall_lines
wall_said_lem rooms bl b bytes es rest t =
    let fresh = with_counters (fresh_counters NlsPlus) rooms in
    let whole : Bytes (tape_of es ++ rest) = subst Bytes t.bytes bytes in
    let fit = asked_fits es t.each (bytes_before (tape_of es) rest whole) in
    let end = acted_all fresh es in
    let ending = ending_at (end_of rest) (length (tape_of es)) in
    let taken = sheet_taken fresh es fit (fresh_steady rooms bl) in
    let rows : row_lines end ≡ map (λ (l : Listing). row_text (shown end l.symbol).row) (listings_taken fresh es)
    = rows_by_symbol end taken.1
    ∙ ap (map (λ (l : Listing). row_text (shown end l.symbol).row))
    (taken.0 ∙ ap (λ (x : List Listing). x ++ listings_taken fresh es) (fresh_sheet rooms)) in
    ap wall_after (play_split fresh b es rest bytes t)
    ∙ ap (λ (rs : List (List ℕ)).
    joined (header_text ∷ (rs ++ (closing_text end.counters.taken end.counters.wanted ∷ end_lines ending)))) rows
