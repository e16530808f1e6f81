-- What a row's reading tells, of a book that is the clerk's: what he shows of a listed symbol, and 7 of any other.
-- Assumes nothing.
use Rattle.std.specs.Prelude.{None, Option, Some, ℕ}
use Prim.Native.Nat.{ℕ}
use mathlib.Core.Path.{◌≡◌, refl, sym, ap, subst, ◌∙◌}
use mathlib.Core.Logic.{⊎_elim}
use mathlib.Core.Bool.{Bool, true, false, cond, not, true≢false}
use mathlib.Core.List.Memᴰ
use mathlib.Core.List.{List, [], ◌∷◌, map, Memᴰ}
use native.Mathlib.Omega.{arith}
use lib.ListN.{get_or}
use Rattle.octets.specs.Run.{same}
use Rattle.answers.specs.Answers.{Answer, number_of, answer_of}
use Rattle.answers.specs.Cases.{says, done, given, in_book}
use Rattle.editions.specs.declared.Edition.{Edition}
use Rattle.lines.specs.declared.Line.{Line}
use Rattle.rows.specs.declared.Listing.{Listing}
use Rattle.rows.specs.declared.Row.{Row}
use Rattle.rows.specs.Rows.{sheet_in, is_of, listing_of, no_row}
use Rattle.walk.specs.Meaning.{Are}
use Rattle.show.specs.declared.RowShown.{RowShown}
use Rattle.show.specs.Showing.{shown_of, nothing_shown}
use Rattle.table.specs.Table.{is_listed}
use Rattle.book.specs.State.{State, rows_in, sheet_of, lines_in, sound_in}
use Rattle.book.specs.Calls.{Shown, row_table, row_answer, shown}
use Rattle.book.proofs.Demand1.{refused_keeps, row_told}
use Rattle.upheld.proofs.Touches.{RowReads, row_reads}
use Rattle.clerk.specs.Clerk.{is_in, symbols_in, Taken, trades_of, row_of, shown_by}
use Rattle.clerk.specs.Claims.{NoRepeat}
use Rattle.clerk.proofs.Lines.{or_false_left, or_false_right, same_refl, same_comm, up, first_hit, first_miss, listed_is_in}
use Rattle.clerk.proofs.Sim.{sheet_is}
use Rattle.clerk.proofs.Once.{clerk_figures_one}

-- the row that was found
abbrev found_row : List Row → Option ℕ → Row
found_row ws None = no_row
found_row ws (Some i) = get_or ws i no_row

found_up : (w : Row) (ws : List Row) (f : Option ℕ) → found_row (w ∷ ws) (up f) ≡ found_row ws f
found_up w ws None = refl
found_up w ws (Some i) = refl

-- ---- a listed symbol

-- a symbol that differs from each of a sheet's differs from that of each listing on it
other_symbol : (k : List ℕ) (sheet : List Listing) (l : Listing) → is_in k (symbols_in sheet) ≡ false → Memᴰ l sheet
    → same l.symbol k ≡ false
other_symbol k [] l h m = absurd (Memᴰ.not-nil m)
other_symbol k (x ∷ sheet) l h m =
    ⊎_elim (λ (q : l ≡ x). ap (λ (y : Listing). same y.symbol k) q ∙ or_false_left (same x.symbol k) _ h)
    (λ (t : Memᴰ l sheet). other_symbol k sheet l (or_false_right (same x.symbol k) _ h) t)
    (Memᴰ.cases_cons m)

pub on_sheet_lem : (sheet : List Listing) (l : Listing) → Memᴰ l sheet → is_in l.symbol (symbols_in sheet) ≡ true
on_sheet_lem sheet l m = go (is_in l.symbol (symbols_in sheet)) refl
  where
    go : (t : Bool) → is_in l.symbol (symbols_in sheet) ≡ t → is_in l.symbol (symbols_in sheet) ≡ true
    go true t = t
    go false t = absurd (true≢false (sym (same_refl l.symbol) ∙ other_symbol l.symbol sheet l t m))

-- the first row of a listed symbol is its own
found_row_lem : (ed : Edition) (es : List Taken) (sheet : List Listing) (l : Listing) → NoRepeat (symbols_in sheet) → Memᴰ l sheet
    → found_row (map (row_of ed es) sheet) (listing_of l.symbol sheet) ≡ row_of ed es l
found_row_lem ed es [] l d m = absurd (Memᴰ.not-nil m)
found_row_lem ed es (x ∷ sheet) l d m =
    ⊎_elim (λ (q : l ≡ x). here q)
    (λ (t : Memᴰ l sheet). there t (found_row_lem ed es sheet l d.1 t))
    (Memᴰ.cases_cons m)
  where
    ws : List Row
    ws = map (row_of ed es) sheet

    here : l ≡ x → found_row (row_of ed es x ∷ ws) (listing_of l.symbol (x ∷ sheet)) ≡ row_of ed es l
    here q =
        let e : same x.symbol l.symbol ≡ true = ap (λ (y : Listing). same y.symbol l.symbol) (sym q) ∙ same_refl l.symbol in
        ap (found_row (row_of ed es x ∷ ws)) (first_hit (is_of l.symbol) x sheet e) ∙ ap (row_of ed es) (sym q)

    there : Memᴰ l sheet → found_row ws (listing_of l.symbol sheet) ≡ row_of ed es l
        → found_row (row_of ed es x ∷ ws) (listing_of l.symbol (x ∷ sheet)) ≡ row_of ed es l
    there t i =
        let e : same x.symbol l.symbol ≡ false = same_comm x.symbol l.symbol ∙ other_symbol x.symbol sheet l d.0 t in
        ap (found_row (row_of ed es x ∷ ws)) (first_miss (is_of l.symbol) x sheet e)
        ∙ found_up (row_of ed es x) ws (listing_of l.symbol sheet) ∙ i

-- ---- what is told

shown_is : (s : Shown) (a : Answer) (w : RowShown) → s.answer ≡ a → s.row ≡ w → s ≡ record { answer = a; row = w }
shown_is s a w e f = sym (rw (← e, ← f))

module _ (s : State) (safe : sound_in s ≡ true) (ed : Edition) (sheet : List Listing) (es : List Taken)
    (theRows : rows_in s ≡ map (row_of ed es) sheet) (theLines : lines_in s ≡ trades_of es) where
  the_sheet : sheet_of s ≡ sheet
  the_sheet = ap sheet_in theRows ∙ sheet_is ed es sheet

  answer_is : (symbol : List ℕ) (t : Bool) → is_in symbol (symbols_in sheet) ≡ t → row_answer s symbol ≡ cond t 0 7
  unfolding row_answer
  answer_is symbol t e =
      let q : is_listed symbol (sheet_of s) ≡ t = ap (is_listed symbol) the_sheet ∙ listed_is_in symbol sheet ∙ e in
      ap (λ (b : Bool). (given (in_book b (row_table (sheet_of s) symbol))).number) safe ∙ go (is_listed symbol (sheet_of s)) t q
    where
      go : (u t : Bool) → u ≡ t → (cond (not u) (says 7 (not u)) done).number ≡ cond t 0 7
      go true true q = refl
      go true false q = absurd (true≢false q)
      go false true q = absurd (true≢false (sym q))
      go false false q = refl

  pub row_shown : NoRepeat (symbols_in sheet) → (l : Listing) → Memᴰ l sheet
      → shown s l.symbol ≡ record { answer = answer_of 0; row = shown_by ed es l }
  unfolding shown
  row_shown d l m =
      let z : row_answer s l.symbol ≡ 0 = answer_is l.symbol true (on_sheet_lem sheet l m) in
      let q = row_reads s l.symbol z in
      shown_is (shown s l.symbol) (answer_of 0) (shown_by ed es l) (ap answer_of z) (q.reads ∙ same_row q)
    where
      same_row : (q : RowReads s l.symbol) → shown_of q.row q.figures ≡ shown_by ed es l
      same_row q =
          let w : q.row ≡ row_of ed es l
          = q.first.2
          ∙ ap (found_row (rows_in s)) (sym q.first.1)
          ∙ ap (λ (x : List Listing). found_row (rows_in s) (listing_of l.symbol x)) the_sheet
          ∙ ap (λ (x : List Row). found_row x (listing_of l.symbol sheet)) theRows
          ∙ found_row_lem ed es sheet l d m in
          let a : Are l.symbol (trades_of es) q.figures
          = subst (λ (x : List Line). Are l.symbol x q.figures) theLines q.mean in
          ap (λ (x : Row). shown_of x q.figures) w ∙ sym (clerk_figures_one ed es l q.figures a)

  pub row_missing : (symbol : List ℕ) → is_in symbol (symbols_in sheet) ≡ false
      → shown s symbol ≡ record { answer = answer_of 7; row = nothing_shown }
  unfolding shown
  row_missing symbol h =
      let z : row_answer s symbol ≡ 7 = answer_is symbol false h in
      let k : number_of (shown s symbol).answer ≡ 7 = row_told s symbol ∙ z in
      shown_is (shown s symbol) (answer_of 7) nothing_shown (ap answer_of z) ((refused_keeps s).row symbol (λ e. omega (arith, e, k)))
