-- From what each call works out, branch by branch, to what it promises.
-- Assumes nothing.
use Rattle.std.specs.Prelude.{Option, None, Some, is_some}
use Rattle.std.specs.Option.{ok_or}
use mathlib.Core.Path.{◌≡◌, refl, ap, sym, ◌∙◌}
use mathlib.Core.Bool.{Bool, true, false, cond, not, ◌&&◌, ◌||◌, true≢false}
use mathlib.Core.List.{List}
use Prim.Native.Nat.{ℕ, ◌≤◌}
use native.Mathlib.Omega.{arith}
use borrow.Author.Tests.{eq-eqb, ne_eqb, leb-true, leb-false, lt-ltb, le-ltb}
use lib.Dec.{ltb, leb}
use lib.ListN.{length}
use Rattle.texts.specs.Text.{text}
use Rattle.answers.specs.Answers.{Answer, number_of, answer_of}
use Rattle.answers.specs.declared.Refusal.TheVariants.{NotListed}
use Rattle.answers.specs.Cases.{Case, given}
use Rattle.answers.proofs.Cases.{picked, picked_is}
use Rattle.message.specs.Reader.{Reading}
use Rattle.records.specs.declared.Record.{Record}
use Rattle.editions.specs.declared.Edition.{Edition}
use Rattle.kinds.specs.declared.Kind.{Kind}
use Rattle.kinds.specs.Kinds.{is_event, names_old}
use Rattle.kinds.proofs.Laws.{event_summary, event_sets}
use Rattle.rows.specs.declared.Listing.{Listing}
use Rattle.rows.specs.declared.Row.{Row}
use Rattle.rows.specs.Rows.{row_limit, listing_of, row_in, with_row}
use Rattle.figures.specs.declared.Figures.{Figures}
use Rattle.walk.specs.Walking.{figures_of}
use Rattle.counters.specs.declared.Counters.{Counters}
use Rattle.counters.specs.Counting.{used_up, one_row_more, taken_by}
use Rattle.sound.proofs.Sound.{sound_gives}
use Rattle.keys.specs.Keys.{kind_in}
use Rattle.table.specs.Table.{is_found, is_listed}
use Rattle.table.specs.declared.Verdict.{Verdict}
use Rattle.table.specs.Working.{judged_by}
use Rattle.table.proofs.Tables.{rows_full, judged_is, judged_row, judged_line, read_plain, Wanted, number_wanted}
use Rattle.take.specs.Taking.{lines_by, reported_by, rows_by, index_of}
use Rattle.show.specs.declared.RowShown.{RowShown}
use Rattle.show.specs.Showing.{shown_of, nothing_shown}
use Rattle.book.specs.State.{State, with_counters, with_rows, with_lines, Outcome, Arrival, arrives, edition_of, wanted_in, sheet_of}
use Rattle.book.specs.State.{lines_in, basis_of, sound_in}
use Rattle.book.specs.Calls.{Located, Shown, close_top, list_table, list_cases, list_answer, listed, number_cases, reading_in, message_given}
use Rattle.book.specs.Calls.{place_told, row_named, line_named, taking, delivered, row_cases, row_answer, row_found, located, shown}
use Rattle.book.proofs.Demand1.{list_told, message_told, number_told, row_told, answer_content, answer_number, refused_keeps}

-- ---- a record is its parts

outcome_is : (o : Outcome) (n : ℕ) (t : State) → n ≡ o.answer → t ≡ o.state → record { answer = n; state = t } ≡ o
outcome_is o n t e f = rw (e, f)

shown_is : (s : Shown) (a : Answer) (x : RowShown) → a ≡ s.answer → x ≡ s.row → record { answer = a; row = x } ≡ s
shown_is s a x e f = rw (e, f)

-- above is not at most
above_is : (x y : ℕ) → ltb y x ≡ not (leb x y)
above_is x y = go (leb x y) refl
  where
    go : (t : Bool) → leb x y ≡ t → ltb y x ≡ not t
    go true t = le-ltb y x (leb-true x y t)
    go false t = lt-ltb y x (leb-false x y t)

-- a rule is broken exactly where not both are kept
broken_is : (b : Bool) (x y : ℕ) (t : Bool) → (b && leb x y) ≡ t → (not b || ltb y x) ≡ not t
broken_is true x y t e = above_is x y ∙ ap not e
broken_is false x y t e = ap not e

-- ---- a listing judged

module _ (s : State) (l : Listing) where
  abbrev keeps : Bool
  keeps = text l.symbol && leb l.close close_top

  told : (n : ℕ) → picked (list_cases s l) ≡ n → answer_of n ≡ answer_of (list_answer s l)
  unfolding list_answer
  told n e = ap answer_of (sym (picked_is (list_cases s l) ∙ e))

  pub list_unsound : sound_in s ≡ false → answer_of 17 ≡ answer_of (list_answer s l)
  unfolding list_table
  list_unsound h = told 17 (rw h)

  module _ (h : sound_in s ≡ true) where
    pub list_broken : keeps ≡ false → answer_of 13 ≡ answer_of (list_answer s l)
    unfolding list_table
    list_broken e = told 13 (rw (h, broken_is (text l.symbol) l.close close_top false e))

    module _ (k : keeps ≡ true) where
      pub list_late : (wanted_in s ≡ 1 → ⊥) → answer_of 14 ≡ answer_of (list_answer s l)
      unfolding list_table
      list_late e = told 14 (rw (h, broken_is (text l.symbol) l.close close_top true k, ne_eqb (wanted_in s) 1 e))

      module _ (w : wanted_in s ≡ 1) where
        pub list_there : (o : Option ℕ) → listing_of l.symbol (sheet_of s) ≡ o → is_some o ≡ true
            → answer_of 15 ≡ answer_of (list_answer s l)
        unfolding list_table
        list_there None e t = absurd (true≢false (sym t))
        list_there (Some i) e t =
            let f : is_listed l.symbol (sheet_of s) ≡ true = ap is_found e in
            told 15 (rw (h, broken_is (text l.symbol) l.close close_top true k, eq-eqb (wanted_in s) 1 w, f))

        pub list_new : listing_of l.symbol (sheet_of s) ≡ None → (b : Bool) → leb (row_limit (length s.rows)) s.counters.rows ≡ b
            → answer_of (cond b 16 0) ≡ answer_of (list_answer s l)
        unfolding list_table
        list_new e b g =
            let f : is_listed l.symbol (sheet_of s) ≡ false = ap is_found e in
            told (cond b 16 0) (rw (
              h,
              broken_is (text l.symbol) l.close close_top true k,
              eq-eqb (wanted_in s) 1 w,
              f,
              rows_full s.rows s.counters.rows,
              g,
            ))

  -- ---- a listing done

  module _ (a : Answer) (e : a ≡ answer_of (list_answer s l)) where
    answer_told : number_of a ≡ list_answer s l
    answer_told = ap number_of e ∙ list_told s l

    pub list_refused : (number_of a ≡ 0 → ⊥) → record { answer = number_of a; state = s } ≡ listed s l
    unfolding listed
    list_refused z = outcome_is (listed s l) (number_of a) s answer_told (sym ((refused_keeps s).list l (λ q. z (answer_told ∙ q))))

    pub list_done : number_of a ≡ 0 → (c : Counters) (rows : List ℕ) → c ≡ one_row_more s.counters
        → rows ≡ with_row s.rows s.counters.rows l
        → record { answer = number_of a; state = with_counters c (with_rows rows s) } ≡ listed s l
    unfolding listed
    list_done z c rows f g =
        let t : list_answer s l ≡ 0 = sym answer_told ∙ z in
        rw (z, t, f, g)

-- ---- where no row and no line is asked for, none is acted on

event_idle : (ed : Edition) (k : Kind) (m : List ℕ) (r : Record) (i j : ℕ) → is_event k ≡ true → rows_by ed k m r i ≡ rows_by ed k m r j
unfolding rows_by reported_by
event_idle ed k m r i j e = rw (event_summary k e, event_sets k e)

unnamed_idle : (k : Kind) (m : List ℕ) (used n : ℕ) (r : Record) (i j : ℕ) → names_old k ≡ false
    → lines_by k m used n r i ≡ lines_by k m used n r j
unfolding lines_by
unnamed_idle k m used n r i j e = rw e

-- ---- a message judged, under the wanted number

module _ (s : State) (m : List ℕ) (w : Wanted (sound_in s) (wanted_in s) (wanted_in s)) (q : Reading) (f : q ≡ reading_in s m)
    (kind : Kind) (h : kind ≡ kind_in q.found) (v : Verdict) (g : v ≡ judged_by (basis_of s) kind q) where
  abbrev here : Arrival
  here = arrives (wanted_in s) m

  abbrev r : Record
  r = (reading_in s m).found

  abbrev it : Verdict
  it = judged_by (basis_of s) (kind_in r) (reading_in s m)

  kind_is : kind ≡ kind_in r
  kind_is = h ∙ ap (λ (x : Reading). kind_in x.found) f

  judged : v ≡ it
  judged = g ∙ ap (λ (x : Kind). judged_by (basis_of s) x q) kind_is ∙ ap (judged_by (basis_of s) (kind_in r)) f

  verdict_is : v.answer ≡ answer_of (message_given s here).number
  verdict_is =
      ap (λ (x : Verdict). x.answer) judged
      ∙ judged_is (basis_of s) (reading_in s m) (read_plain (edition_of s) m)
      ∙ ap (λ (x : Case). answer_of x.number) (sym (answer_content s here w))

  verdict_number : number_of v.answer ≡ (message_given s here).number
  verdict_number = ap number_of verdict_is ∙ message_told s here

  pub refused_here : (number_of v.answer ≡ 0 → ⊥) → (c : Counters) → c ≡ used_up s.counters
      → record { answer = number_of v.answer; state = with_counters c s } ≡ delivered s here
  unfolding delivered
  refused_here z c e =
      let u = (refused_keeps s).used here w.sound refl w.greatest (λ p. z (verdict_number ∙ p)) in
      outcome_is (delivered s here) (number_of v.answer) (with_counters c s) verdict_number
      (ap (λ (x : Counters). with_counters x s) e ∙ sym u)

  module _ (z : number_of v.answer ≡ 0) where
    given_none : (message_given s here).number ≡ 0
    given_none = sym verdict_number ∙ z

    z_it : number_of it.answer ≡ 0
    z_it = ap (λ (x : Verdict). number_of x.answer) (sym judged) ∙ z

    -- the row acted on is the first of the symbol
    row_is : rows_by (edition_of s) (kind_in r) s.rows r it.row ≡ (taking s r).rows
    row_is = go (is_event (kind_in r)) refl
      where
        at : is_event (kind_in r) ≡ false → it.row ≡ row_named s r
        at e = sym (ap index_of (judged_row (basis_of s) (reading_in s m) z_it e))

        go : (t : Bool) → is_event (kind_in r) ≡ t → rows_by (edition_of s) (kind_in r) s.rows r it.row ≡ (taking s r).rows
        go true t = event_idle (edition_of s) (kind_in r) s.rows r it.row (row_named s r) t
        go false t = ap (rows_by (edition_of s) (kind_in r) s.rows r) (at t)

    -- the line acted on is the first that bears the named key; where none is named, none is asked for
    line_is : lines_by (kind_in r) s.lines s.counters.lines (wanted_in s) r it.line ≡ (taking s r).lines
    line_is = go (names_old (kind_in r)) refl
      where
        at : names_old (kind_in r) ≡ true → it.line ≡ line_named s r
        at e = sym (ap index_of (judged_line (basis_of s) (reading_in s m) z_it e))

        go : (t : Bool) → names_old (kind_in r) ≡ t
            → lines_by (kind_in r) s.lines s.counters.lines (wanted_in s) r it.line ≡ (taking s r).lines
        go true t = ap (lines_by (kind_in r) s.lines s.counters.lines (wanted_in s) r) (at t)
        go false t = unnamed_idle (kind_in r) s.lines s.counters.lines (wanted_in s) r it.line (line_named s r) t

    pub taken_here_lem : (c : Counters) (rows lines : List ℕ)
        → c ≡ taken_by kind q.found.event s.counters
        → rows ≡ rows_by (edition_of s) kind s.rows q.found v.row
        → lines ≡ lines_by kind s.lines s.counters.lines (wanted_in s) q.found v.line
        → record { answer = 0; state = with_counters c (with_rows rows (with_lines lines s)) } ≡ delivered s here
    unfolding delivered
    taken_here_lem c rows lines ec er el =
        let fc
        = ec ∙ ap (λ (x : Kind). taken_by x q.found.event s.counters) kind_is
        ∙ ap (λ (x : Reading). taken_by (kind_in r) x.found.event s.counters) f in
        let fr =
        er
        ∙ ap (λ (x : Kind). rows_by (edition_of s) x s.rows q.found v.row) kind_is
        ∙ ap (λ (x : Reading). rows_by (edition_of s) (kind_in r) s.rows x.found v.row) f
        ∙ ap (λ (x : Verdict). rows_by (edition_of s) (kind_in r) s.rows r x.row) judged
        ∙ row_is in
        let fl =
        el
        ∙ ap (λ (x : Kind). lines_by x s.lines s.counters.lines (wanted_in s) q.found v.line) kind_is
        ∙ ap (λ (x : Reading). lines_by (kind_in r) s.lines s.counters.lines (wanted_in s) x.found v.line) f
        ∙ ap (λ (x : Verdict). lines_by (kind_in r) s.lines s.counters.lines (wanted_in s) r x.line) judged
        ∙ line_is in
        rw (given_none, fc, fr, fl)

-- ---- a message under any number

module _ (s : State) (n : ℕ) (m : List ℕ) (a : Answer) (e : a ≡ answer_of (given (number_cases s n)).number) where
  early_number : number_of a ≡ (given (number_cases s n)).number
  early_number = ap number_of e ∙ number_told s n

  pub wanted_is : number_of a ≡ 0 → Wanted (sound_in s) (wanted_in s) n
  wanted_is z = (number_wanted (sound_in s) (wanted_in s) n).0 (sym early_number ∙ z)

  -- so the call that uses the number up may be made, and what it promises is the whole call's
  pub wanted_number : number_of a ≡ 0 → (given (number_cases s (wanted_in s))).number ≡ 0
  wanted_number z = ap (λ (k : ℕ). (given (number_cases s k)).number) (sym (wanted_is z).wanted) ∙ sym early_number ∙ z

  pub wanted_left : number_of a ≡ 0 → (o : Outcome) → o ≡ delivered s (arrives (wanted_in s) m) → o ≡ delivered s (arrives n m)
  wanted_left z o h = h ∙ ap (λ (k : ℕ). delivered s (arrives k m)) (sym (wanted_is z).wanted)

  pub early_left : (number_of a ≡ 0 → ⊥) → record { answer = number_of a; state = s } ≡ delivered s (arrives n m)
  unfolding delivered
  early_left z =
      let u : Wanted (sound_in s) (wanted_in s) n → ⊥ = λ w. z (early_number ∙ (number_wanted (sound_in s) (wanted_in s) n).1 w) in
      let k = (refused_keeps s).unused (arrives n m) (λ h x g. u (record { sound = h; wanted = x; least = least_of h x; greatest = g })) in
      outcome_is (delivered s (arrives n m)) (number_of a) s
      (early_number ∙ ap (λ (x : Case). x.number) (sym (answer_number s (arrives n m) u))) (sym k.1)
    where
      least_of : sound_in s ≡ true → n ≡ wanted_in s → 1 ≤ n
      least_of h x = omega (arith, (sound_gives s.counters (length s.rows) (length s.lines) h).least)

-- ---- a row found

module _ (s : State) (symbol : List ℕ) where
  row_picked : row_answer s symbol ≡ picked (row_cases s symbol)
  unfolding row_answer
  row_picked = picked_is (row_cases s symbol)

  pub locate_unsound : sound_in s ≡ false → record { answer = answer_of 17; row = 0 } ≡ located s symbol
  unfolding located
  locate_unsound h = rw (row_picked, h)

  pub locate_none : sound_in s ≡ true → listing_of symbol (sheet_of s) ≡ None → record { answer = answer_of 7; row = 0 } ≡ located s symbol
  unfolding located
  locate_none h f = rw (row_picked, h, f)

  pub locate_there : (i : ℕ) → sound_in s ≡ true → listing_of symbol (sheet_of s) ≡ Some i
      → record { answer = answer_of 0; row = i } ≡ located s symbol
  unfolding located
  locate_there i h f = rw (row_picked, h, f)

  -- what the search for a symbol says, with 7 for a symbol that it does not find
  pub locate_by : sound_in s ≡ true → (f : Option ℕ) → listing_of symbol (sheet_of s) ≡ f → place_told (ok_or f NotListed) ≡ located s symbol
  locate_by h None e = locate_none h e
  locate_by h (Some i) e = locate_there i h e

  -- ---- a row read

  module _ (p : Located) (e : p ≡ located s symbol) where
    row_number : number_of p.answer ≡ row_answer s symbol
    unfolding located
    row_number = ap (λ (x : Located). number_of x.answer) e ∙ row_told s symbol

    located_row : row_answer s symbol ≡ 0 → (located s symbol).row ≡ row_found s symbol
    unfolding located
    located_row n = rw n

    pub row_refused : (number_of p.answer ≡ 0 → ⊥) → (x : RowShown) → x ≡ nothing_shown
        → record { answer = p.answer; row = x } ≡ shown s symbol
    unfolding located shown
    row_refused z x f =
        let k : number_of (shown s symbol).answer ≡ 0 → ⊥ = λ q. z (row_number ∙ sym (row_told s symbol) ∙ q) in
        shown_is (shown s symbol) p.answer x (ap (λ (y : Located). y.answer) e) (f ∙ sym ((refused_keeps s).row symbol k))

    pub row_there : number_of p.answer ≡ 0 → (x : RowShown) (kept : Row) (figures : Figures)
        → kept ≡ row_in s.rows p.row → figures ≡ figures_of symbol (lines_in s) → x ≡ shown_of kept figures
        → record { answer = answer_of 0; row = x } ≡ shown s symbol
    unfolding shown
    row_there z x kept figures k g f =
        let n : row_answer s symbol ≡ 0 = sym row_number ∙ z in
        let i : p.row ≡ row_found s symbol = ap (λ (y : Located). y.row) e ∙ located_row n in
        rw n (
        ap (λ (y : RowShown). record { answer = answer_of 0; row = y }) (
        f
        ∙ ap (λ (y : Row). shown_of y figures) (k ∙ ap (row_in s.rows) i)
        ∙ ap (shown_of (row_in s.rows (row_found s symbol))) g))
