-- One true day of real calls: a fresh book of any edition, any listings, then any deliveries of copies of the day's messages. What is left
-- is the clerk's book after the messages 1 to n, n the largest count that arrives in order, and a row's reading tells what he shows.
-- Assumes nothing.
use Prim.Native.Nat.{ℕ, suc, ◌+◌, ◌≤◌}
use mathlib.Core.Path.{◌≡◌, refl, sym, ap, ap₂, subst, ◌∙◌}
use mathlib.Core.Logic.{◌↔◌}
use mathlib.Core.Bool.{Bool, true, false, cond}
use mathlib.Core.List.{List, [], ◌∷◌, ◌++◌, reverse, reverse_aux, reverse_aux-append, Memᴰ}
use native.Mathlib.Omega.{arith}
use borrow.Author.Tests.{eqb-true, eqb-false, eq-eqb, ne_eqb}
use lib.Dec.{eqb}
use lib.ListN.{length}
use Rattle.octets.specs.Run.{Bytes}
use Rattle.std.specs.Prelude.{Result}
use Rattle.answers.specs.declared.Refusal.{Refusal}
use Rattle.show.specs.declared.RowShown.{RowShown}
use Rattle.answers.specs.Answers.{Answer, number_of, answer_of}
use Rattle.answers.specs.Cases.{given}
use Rattle.answers.proofs.Promise.{one_number_each}
use Rattle.editions.specs.declared.Edition.{Edition}
use Rattle.lines.specs.declared.Line.{Line}
use Rattle.lines.specs.Lines.{line_limit}
use Rattle.rows.specs.declared.Listing.{Listing}
use Rattle.rows.specs.Rows.{row_limit}
use Rattle.rows.specs.Changed.{ListingFits}
use Rattle.counters.specs.declared.Counters.{Counters}
use Rattle.counters.specs.Counting.{last_number}
use Rattle.table.proofs.Tables.{Wanted}
use Rattle.show.specs.Showing.{nothing_shown}
use Rattle.book.specs.declared.Said.{Said}
use Rattle.book.specs.State.{State, with_counters, Outcome, Arrival, edition_of, wanted_in, lines_in}
use Rattle.book.specs.Calls.{Shown, row_told, listed, delivered, shown}
use Rattle.book.proofs.Demand1.{message_told, answer_taken, refused_keeps}
use Rattle.book.proofs.Promise.{ListLfts, ListArgs, ListExit, DeliverLfts, DeliverArgs, DeliverExit, RowLfts, RowArgs, RowExit}
use Rattle.book.proofs.Promise.{list_from, list_given, list_left, deliver_from, deliver_given, deliver_left, read_from, read_given}
use Rattle.book.proofs.fresh.Reads as fresh-reads
use Rattle.book.proofs.list.Reads as list-reads
use Rattle.book.proofs.deliver.Reads as deliver-reads
use Rattle.book.proofs.row.Reads as row_reads
use Rattle.clerk.specs.Steps.{Book, book_of, content, next, listing}
use Rattle.clerk.specs.Clerk.{is_in, symbols_in, sheet_from, clerk_sheet, Taken, trades_of, answer_to, taken_of, shown_by, book_by, clerk_book}
use Rattle.clerk.specs.Arrivals.{Largest, numbers, Copies, upto, deliver_each}
use Rattle.clerk.specs.Claims.{NoRepeat, keys_of, named_in, names_done, MadeLive, Used, used_after}
use Rattle.clerk.proofs.Steps.{answer_is}
use Rattle.clerk.proofs.States.{Stands, fresh_stands, plus, upto_length, late, listed_stands, delivered_stands, wants, reads_by}
use Rattle.clerk.proofs.States.{clerks, clerks_wanted, clerks_at, clerks_other, the_lines, shown_listed, shown_missing}
use Rattle.clerk.proofs.InOrder.{got, got_at, got_other, got_none, largest_got, largest_one, used_exactly, largest_below}
use Rattle.clerk.proofs.Lines.{no_repeat_turned}
use Rattle.clerk.proofs.Sim.{one_trade_per_key, content_is, listed_book, listed_is, book_is_clerks, sheet_once}
use Rattle.clerk.proofs.Once.{at_most_once, named_more, live_exactly}

-- ---- runs of calls, each one as its contract tells; each gets the state that the call before left

-- any listings; the last state is the one that they leave
pub data Lists : State → List Listing → State → Type 1 where
  no_listing : {s : State} → Lists s [] s
  -- a symbol is eight bytes and a close fits four by their types: `entered` in crates/book/proofs/list/Answers.antt proves it of every call
  a_listing : (κs : ListLfts) (a : ListArgs κs) (r : Said)
      (x : ListExit κs) {ls : List Listing} {end : State}
      → ListingFits (list_given κs a) → list-reads.Learnt κs a r x → Lists (list_left κs a r x).state ls end
      → Lists (list_from κs a) (list_given κs a ∷ ls) end

-- any deliveries
pub data Delivers : State → List Arrival → State → Type 1 where
  no_message : {s : State} → Delivers s [] s
  -- lent lines and a message are bytes by their types: `entered` in crates/book/proofs/deliver/Answers.antt proves it of every call
  a_message : (κs : DeliverLfts) (a : DeliverArgs κs) (r : Said)
      (x : DeliverExit κs) {l : List Arrival} {end : State}
      → Bytes (deliver_from κs a).lines → Bytes (deliver_given κs a).message → deliver-reads.Learnt κs a r x
      → Delivers (deliver_left κs a r x).state l end
      → Delivers (deliver_from κs a) (deliver_given κs a ∷ l) end

-- a message with its number, and what was said back
abbrev pub answered : Arrival → Answer → Used
answered a b = record { number = a.number; message = a.message; answer = b }

-- the calls of a run that used up a number: the wanted number is another after it
unfoldable pub used_in : {s : State} {l : List Arrival} {end : State} → Delivers s l end → List Used
used_in no_message = []
used_in (a_message κs a r x bl bm q t) =
    cond (eqb r.counters.wanted (wanted_in (deliver_from κs a))) (used_in t) (answered (deliver_given κs a) r.answer ∷ used_in t)

-- the keys that the calls of a run named, in the order of the calls, each as its book read it: of those that brought an X or a C and
-- were answered 0
unfoldable pub named_by : {s : State} {l : List Arrival} {end : State} → Delivers s l end → List (List ℕ)
named_by no_message = []
named_by (a_message κs a r x bl bm q t) =
    names_done (edition_of (deliver_from κs a)) (deliver_given κs a).message (number_of r.answer) ++ named_by t

-- a whole day in the rooms of a state, of any bytes: a fresh book of an edition, listings, deliveries
pub record Day (ed : Edition) (rooms : State) (ls : List Listing) (l : List Arrival) (end : State) : Type 1 where
  pub start : Counters
  pub started : fresh-reads.Learnt tt (ed, tt) start (ed, tt)
  pub ready : State
  pub lists : Lists (with_counters start rooms) ls ready
  pub delivers : Delivers ready l end

-- what a call leaves is the state that its outcome has
left_state : (o p : Outcome) → o ≡ p → p.state ≡ o.state
left_state o p e = sym (ap (λ (x : Outcome). x.state) e)

-- the answer that was told is the one of the number that was given
answer_said : (s : State) (a : Arrival) (r : Answer) (n : ℕ) → number_of r ≡ (delivered s a).answer → (delivered s a).answer ≡ n
    → r ≡ answer_of n
unfolding delivered
answer_said s a r n e f = one_number_each r (answer_of n) (e ∙ sym (message_told s a) ∙ ap (λ (k : ℕ). number_of (answer_of k)) f)

module _ (R L : ℕ) where
  -- what holds of the promised state holds of the state that is left
  stands_left : {b : Book} {s t : State} → s ≡ t → Stands R L b s → Stands R L b t
  stands_left {b} e h = subst (Stands R L b) e h

  lists_are : {s end : State} {ls : List Listing} (ed : Edition) (sheet : List Listing)
      → Lists s ls end → Stands R L (listed_book ed sheet) s → Stands R L (listed_book ed (sheet_from (row_limit R) sheet ls)) end
  unfolding sheet_from
  lists_are ed sheet no_listing h = h
  lists_are ed sheet (a_listing κs a r x {ls} {end} f q t) h =
      let s = list_from κs a in
      let l = list_given κs a in
      lists_are ed (plus (row_limit R) sheet l) t
      (stands_left (left_state (list_left κs a r x) (listed s l) q) (listed_stands R L ed s l f sheet h))

  -- ---- the arrivals

  -- what is said back to the wanted message
  says : (s : State) (a : Arrival) (b : Book) (h : Stands R L b s) → 1 ≤ a.number → a.number ≤ last_number → a.number ≡ b.wanted
      → (delivered s a).answer ≡ content (line_limit L) b a.message
  unfolding delivered
  says s a b h least greatest e =
      let w : Wanted true (wanted_in s) a.number
      = record { sound = refl; wanted = e ∙ sym (wants R L s b h); least = least; greatest = greatest } in
      answer_is s a h.safe w
      ∙ ap (λ (x : Book). content (line_limit (length s.lines)) x a.message) h.reads
      ∙ ap (λ (x : ℕ). content (line_limit x) b a.message) h.line_room

  pub delivers_are : {s end : State} {l : List Arrival} (b : Book) → Delivers s l end → Stands R L b s
      → Stands R L (deliver_each (line_limit L) b l) end
  unfolding deliver_each
  delivers_are b no_message h = h
  delivers_are b (a_message κs a r x bl bm q t) h =
      let s = deliver_from κs a in
      let given = deliver_given κs a in
      delivers_are (next (line_limit L) b given) t
      (stands_left (left_state (deliver_left κs a r x) (delivered s given) q) (delivered_stands R L s given bl bm b h))

  -- ---- which calls use up a number

  module _ (ed : Edition) (day : ℕ → List ℕ) (N : ℕ) (fits : N ≤ last_number) (sheet : List Listing)
      (once : NoRepeat (symbols_in sheet)) where
    -- the clerk's book after the first j
    abbrev book : ℕ → Book
    book j = clerks R L ed day N fits sheet j

    -- it is of the edition that the day began with
    book_edition : (j : ℕ) (s : State) → Stands R L (book j) s → edition_of s ≡ ed
    unfolding clerk_book book_by
    book_edition j s h = reads_by R L s (book j) h

    -- what the clerk answers to the message after those
    abbrev clerks_answer : ℕ → ℕ
    clerks_answer j = answer_to ed sheet (line_limit L) (taken_of ed sheet (line_limit L) (upto day j)) (day (suc j))

    abbrev taken : ℕ → List Taken
    taken j = taken_of ed sheet (line_limit L) (upto day j)

    -- what the message after those names, if it is taken
    taken_named : (j : ℕ) → named_in (taken (suc j)) ≡ reverse_aux (names_done ed (day (suc j)) (clerks_answer j)) (named_in (taken j))
    unfolding upto
    taken_named j = named_more ed sheet (line_limit L) (upto day j) (day (suc j))

    clerks_says : (j : ℕ) → content (line_limit L) (book j) (day (suc j)) ≡ clerks_answer j
    unfolding clerk_book
    clerks_says j = content_is ed sheet (line_limit L) (taken_of ed sheet (line_limit L) (upto day j)) (length (upto day j)) (day (suc j))

    -- one message on a book that has used the first j
    module _ (j : ℕ) (s : State) (a : Arrival) (bl : Bytes s.lines) (bm : Bytes a.message) (h : Stands R L (book j) s)
        (c : (a.number ≤ N) × (1 ≤ a.number → a.message ≡ day a.number)) where
      -- the next of the day is used, and answered as the clerk answers it
      record Next : Type 0 where
        pub copy : a.message ≡ day (suc j)
        pub answer : (delivered s a).answer ≡ clerks_answer j
        pub leaves : Stands R L (book (suc j)) (delivered s a).state

      is_next : a.number ≡ suc j → Next
      is_next i =
          let low : 1 ≤ a.number = omega arith in
          let copy : a.message ≡ day (suc j) = c.1 low ∙ ap day i in
          record {
            copy = copy;
            answer =
                says s a (book j) h low (omega (arith, c.0)) (i ∙ sym (clerks_wanted R L ed day N fits sheet j))
                ∙ ap (content (line_limit L) (book j)) copy ∙ clerks_says j;
            leaves =
                subst (λ (b : Book). Stands R L b (delivered s a).state) (clerks_at R L ed day N fits sheet once j a i c.0 c.1)
                (delivered_stands R L s a bl bm (book j) h);
          }

      -- any other is refused, and leaves the book
      record NotNext : Type 0 where
        pub refused : (delivered s a).answer ≡ 0 → ⊥
        pub leaves : Stands R L (book j) (delivered s a).state

      not_next : eqb a.number (suc j) ≡ false → NotNext
      unfolding delivered
      not_next w =
          record {
            refused =
                λ z.
                eqb-false a.number (suc j) w
                ((answer_taken s a z).wanted ∙ wants R L s (book j) h ∙ clerks_wanted R L ed day N fits sheet j);
            leaves =
                subst (λ (b : Book). Stands R L b (delivered s a).state) (clerks_other R L ed day N fits sheet j a w)
                (delivered_stands R L s a bl bm (book j) h);
          }

    used_from : {s end : State} {l : List Arrival} (j : ℕ) (h : Delivers s l end)
        → Stands R L (book j) s → Copies day N l → used_in h ≡ used_after ed day sheet (line_limit L) j (got (suc j) (numbers l))
    unfolding got used_after used_in
    used_from j no_message h e = refl
    used_from j (a_message κs c r x {l} {end} bl bm q t) h e =
        go (eqb k (suc j)) refl (λ y. used_from (suc j) t y e.1) (λ y. used_from j t y e.1)
      where
        s : State
        s = deliver_from κs c

        a : Arrival
        a = deliver_given κs c

        k : ℕ
        k = a.number

        left : State
        left = (deliver_left κs c r x).state

        told : (delivered s a).state ≡ left
        told = left_state (deliver_left κs c r x) (delivered s a) q

        all : List Used
        all = cond (eqb r.counters.wanted (wanted_in s)) (used_in t) (answered a r.answer ∷ used_in t)

        wanted_then : (i : ℕ) → Stands R L (book i) left → r.counters.wanted ≡ suc i
        wanted_then i g = wants R L left (book i) g ∙ clerks_wanted R L ed day N fits sheet i

        go : (b : Bool) → eqb k (suc j) ≡ b
            → (Stands R L (book (suc j)) left → used_in t ≡ used_after ed day sheet (line_limit L) (suc j) (got (suc (suc j)) (numbers l)))
            → (Stands R L (book j) left → used_in t ≡ used_after ed day sheet (line_limit L) j (got (suc j) (numbers l)))
            → all ≡ used_after ed day sheet (line_limit L) j (got (suc j) (k ∷ numbers l))
        go true w more same =
            let i : k ≡ suc j = eqb-true k (suc j) w in
            let n = is_next j s a bl bm h e.0 i in
            let g = stands_left told n.leaves in
            let before = wants R L s (book j) h ∙ clerks_wanted R L ed day N fits sheet j in
            let later = wanted_then (suc j) g in
            let moved : eqb r.counters.wanted (wanted_in s) ≡ false
            = ne_eqb r.counters.wanted (wanted_in s) (λ y. omega (arith, y, before, later)) in
            let said : r.answer ≡ answer_of (clerks_answer j)
            = answer_said s a r.answer (clerks_answer j) (ap (λ (o : Outcome). o.answer) q) n.answer in
            rw (moved, got_at (suc j) k (numbers l) w, i, n.copy, said, more g)
        go false w more same =
            let g = stands_left told (not_next j s a bl bm h e.0 w).leaves in
            let still : eqb r.counters.wanted (wanted_in s) ≡ true
            = eq-eqb r.counters.wanted (wanted_in s)
            (wanted_then j g ∙ sym (wants R L s (book j) h ∙ clerks_wanted R L ed day N fits sheet j)) in
            rw (still, got_other (suc j) k (numbers l) w) (same g)

    -- what the calls of the run named is what the clerk's taken messages name, who has the newest first
    named_from : {s end : State} {l : List Arrival} (j : ℕ) (h : Delivers s l end) → Stands R L (book j) s → Copies day N l
        → named_in (taken (got (suc j) (numbers l) + j)) ≡ reverse_aux (named_by h) (named_in (taken j))
    unfolding named_by
    named_from j no_message h e = ap (λ (k : ℕ). named_in (taken k)) (got_none j)
    named_from j (a_message κs c r x {l} {end} bl bm q t) h e =
        go (eqb k (suc j)) refl (λ y. named_from (suc j) t y e.1) (λ y. named_from j t y e.1)
      where
        s : State
        s = deliver_from κs c

        a : Arrival
        a = deliver_given κs c

        k : ℕ
        k = a.number

        left : State
        left = (deliver_left κs c r x).state

        told : (delivered s a).state ≡ left
        told = left_state (deliver_left κs c r x) (delivered s a) q

        said : number_of r.answer ≡ (delivered s a).answer
        said = ap (λ (o : Outcome). o.answer) q

        ks : List ℕ
        ks = numbers l

        go : (b : Bool) → eqb k (suc j) ≡ b
            → (Stands R L (book (suc j)) left
            → named_in (taken (got (suc (suc j)) ks + suc j)) ≡ reverse_aux (named_by t) (named_in (taken (suc j))))
            → (Stands R L (book j) left → named_in (taken (got (suc j) ks + j)) ≡ reverse_aux (named_by t) (named_in (taken j)))
            → named_in (taken (got (suc j) (k ∷ ks) + j))
            ≡ reverse_aux (names_done (edition_of s) a.message (number_of r.answer) ++ named_by t) (named_in (taken j))
        go true w more same =
            let n = is_next j s a bl bm h e.0 (eqb-true k (suc j) w) in
            let g : got (suc j) (k ∷ ks) + j ≡ got (suc (suc j)) ks + suc j = omega (arith, got_at (suc j) k ks w) in
            ap (λ (i : ℕ). named_in (taken i)) g
            ∙ more (stands_left told n.leaves)
            ∙ ap (reverse_aux (named_by t)) (taken_named j)
            ∙ ap₂ (λ (m : List ℕ) (i : ℕ). reverse_aux (named_by t) (reverse_aux (names_done ed m i) (named_in (taken j)))) (sym n.copy)
            (sym (said ∙ n.answer))
            ∙ ap (λ (x : Edition). reverse_aux (named_by t) (reverse_aux (names_done x a.message (number_of r.answer))
            (named_in (taken j)))) (sym (book_edition j s h))
            ∙ sym (reverse_aux-append (names_done (edition_of s) a.message (number_of r.answer)) (named_by t) (named_in (taken j)))
        go false w more same =
            let n = not_next j s a bl bm h e.0 w in
            let z : eqb (number_of r.answer) 0 ≡ false = ne_eqb (number_of r.answer) 0 (λ y. n.refused (sym said ∙ y)) in
            rw (z, got_other (suc j) k ks w) (same (stands_left told n.leaves))

-- ---- the day

-- the reading of a row
pub data Reads : State → List ℕ → Shown → Type 1 where
  a_reading : (κs : RowLfts) (a : RowArgs κs) (r : Result RowShown Refusal) (x : RowExit κs)
      → row_reads.Learnt κs a r x → Reads (read_from κs a) (read_given κs a) (row_told r)

reads_are : {s : State} {symbol : List ℕ} {r : Shown} → Reads s symbol r → r ≡ shown s symbol
reads_are (a_reading κs a r x h) = h

-- the book on which the sheet is finished
pub sheet_stands : {ed : Edition} {rooms : State} {ls : List Listing} {l : List Arrival} {end : State} (h : Day ed rooms ls l end)
    → Stands (length rooms.rows) (length rooms.lines) (listed_book ed (clerk_sheet (row_limit (length rooms.rows)) ls)) h.ready
sheet_stands {ed} {rooms} h =
    lists_are (length rooms.rows) (length rooms.lines) ed [] h.lists (rw h.started (fresh_stands ed rooms))

-- a book of any edition; a day's messages, of which there are N, and a line that brings copies of them, 1 to n at most in order
module _ (ed : Edition) (day : ℕ → List ℕ) (N n : ℕ) (fits : N ≤ last_number) (l : List Arrival) (copies : Copies day N l)
    (largest : Largest (numbers l) n) {rooms : State} {ls : List Listing} {end : State} (h : Day ed rooms ls l end) where
  -- what the rooms held before
  abbrev rows : List ℕ
  rows = rooms.rows

  abbrev lines : List ℕ
  lines = rooms.lines

  abbrev sheet : List Listing
  sheet = clerk_sheet (row_limit (length rows)) ls

  -- how many lines the room has
  abbrev room : ℕ
  room = line_limit (length lines)

  once : NoRepeat (symbols_in sheet)
  once = sheet_once (row_limit (length rows)) [] ls tt

  stands : Stands (length rows) (length lines) (clerk_book ed sheet room (upto day n)) end
  stands =
      let e = delivers_are (length rows) (length lines) (listed_book ed sheet) h.delivers (sheet_stands h) in
      let q = used_exactly room day N fits (listed_book ed sheet) refl l n copies largest ∙ book_is_clerks ed sheet room once (upto day n) in
      record { reads = e.reads ∙ q; safe = e.safe; row_room = e.row_room; line_room = e.line_room }

  -- the calls that used up a number: those of 1 to n, each once and in this order, with the day's message, answered as the clerk answers
  pub used_calls : used_in h.delivers ≡ used_after ed day sheet room 0 n
  unfolding upto
  used_calls =
      let k = subst (λ (b : Book). Stands (length rows) (length lines) b h.ready) (listed_is ed sheet room) (sheet_stands h) in
      used_from (length rows) (length lines) ed day N fits sheet once 0 h.delivers k copies
      ∙ ap (used_after ed day sheet room 0) (largest_one (numbers l) (got 1 (numbers l)) n (largest_got (numbers l)) largest)

  -- the book is the clerk's, of the messages 1 to n
  pub one_true_day : (n ≤ N) × (book_of end ≡ clerk_book ed sheet room (upto day n))
  one_true_day = (largest_below day N n l copies largest, stands.reads)

  -- n numbers are used up
  pub wants_next : wanted_in end ≡ suc n
  unfolding book_of clerk_book book_by
  wants_next = ap (λ (b : Book). b.wanted) stands.reads ∙ ap suc (upto_length day n)

  -- a row's reading then tells what the clerk shows of a listed symbol
  pub listed_row_lem : {symbol : List ℕ} {r : Shown} → Reads end symbol r → (x : Listing) → Memᴰ x sheet → symbol ≡ x.symbol
      → r ≡ record { answer = answer_of 0; row = shown_by ed (taken_of ed sheet room (upto day n)) x }
  listed_row_lem c x m e =
      reads_are c
      ∙ ap (shown end) e
      ∙ shown_listed (length rows) (length lines) ed sheet room (upto day n) end stands once x m

  -- and 7 of any other
  pub unlisted_row : {symbol : List ℕ} {r : Shown} → Reads end symbol r → is_in symbol (symbols_in sheet) ≡ false
      → r ≡ record { answer = answer_of 7; row = nothing_shown }
  unlisted_row {symbol} c e =
      reads_are c
      ∙ shown_missing (length rows) (length lines) ed sheet room (upto day n) end stands symbol e

  lines_are : lines_in end ≡ trades_of (taken_of ed sheet room (upto day n))
  lines_are = the_lines (length rows) (length lines) ed sheet room (upto day n) end stands

  -- the live ones of its used lines are exactly those that some taken message made and none named since
  pub book_live : (x : Line) → (Memᴰ x (lines_in end) × (x.live ≡ true)) ↔ MadeLive (taken_of ed sheet room (upto day n)) x
  unfolding clerk_book book_by
  book_live x = rw lines_are (live_exactly ed sheet room (upto day n) x)

  -- no two of its used lines bear one key
  pub lines_once : NoRepeat (keys_of (lines_in end))
  lines_once = rw lines_are (one_trade_per_key ed sheet room (upto day n))

  -- the keys that its calls named are those that the clerk's taken messages name, who has the newest first
  pub named_calls : named_in (taken_of ed sheet room (upto day n)) ≡ reverse (named_by h.delivers)
  unfolding upto taken_of named_in
  named_calls =
      let k = subst (λ (b : Book). Stands (length rows) (length lines) b h.ready) (listed_is ed sheet room) (sheet_stands h) in
      let g : n ≡ got 1 (numbers l) + 0
      = omega (arith, largest_one (numbers l) (got 1 (numbers l)) n (largest_got (numbers l)) largest) in
      ap (λ (i : ℕ). named_in (taken_of ed sheet room (upto day i))) g
      ∙ named_from (length rows) (length lines) ed day N fits sheet once 0 h.delivers k copies

  -- of its deliveries that were X or C and were answered 0, no two named one key
  pub named_once : NoRepeat (named_by h.delivers)
  named_once = no_repeat_turned (named_by h.delivers) (subst NoRepeat named_calls (at_most_once ed sheet room (upto day n)))

-- two runs of one day in books of one edition, with one sheet, one size of room for lines and one n, end in the clerk's book, both, and so
-- in equal books, whatever the rooms held before
pub equal_books : (ed : Edition) (day : ℕ → List ℕ) (N n : ℕ) → N ≤ last_number
    → {rooms : State} {ls : List Listing} {l : List Arrival} {end : State}
    → {rooms' : State} {ls' : List Listing} {l' : List Arrival} {end' : State}
    → length rooms.lines ≡ length rooms'.lines
    → clerk_sheet (row_limit (length rooms.rows)) ls ≡ clerk_sheet (row_limit (length rooms'.rows)) ls'
    → Copies day N l → Copies day N l' → Largest (numbers l) n → Largest (numbers l') n → Day ed rooms ls l end
    → Day ed rooms' ls' l' end'
    → let clerks = clerk_book ed (clerk_sheet (row_limit (length rooms.rows)) ls) (line_limit (length rooms.lines)) (upto day n) in
    (book_of end ≡ clerks) × (book_of end' ≡ clerks) × (book_of end ≡ book_of end')
equal_books ed day N n fits {rooms} {ls} {l} {end} {rooms'} {ls'} {l'} {end'} el es c c' g g' h h' =
    (one, other, one ∙ sym other)
  where
    clerks : Book
    clerks = clerk_book ed (clerk_sheet (row_limit (length rooms.rows)) ls) (line_limit (length rooms.lines)) (upto day n)

    one : book_of end ≡ clerks
    one = (one_true_day ed day N n fits l c g h).1

    other : book_of end' ≡ clerks
    other =
        (one_true_day ed day N n fits l' c' g' h').1
        ∙ sym (
        ap (λ (s : List Listing). clerk_book ed s (line_limit (length rooms.lines)) (upto day n)) es
        ∙ ap (λ (k : ℕ). clerk_book ed (clerk_sheet (row_limit (length rooms'.rows)) ls') (line_limit k) (upto day n)) el
        )

-- once the book wants another number than 1, a listing leaves the state as it was
pub listings_first : (κs : ListLfts) (a : ListArgs κs) (r : Said) (x : ListExit κs)
    → list-reads.Learnt κs a r x → (wanted_in (list_from κs a) ≡ 1 → ⊥) → (list_left κs a r x).state ≡ list_from κs a
listings_first κs a r x h w =
    let s = list_from κs a in
    let l = list_given κs a in
    ap (λ (o : Outcome). o.state) h ∙ (refused_keeps s).list l (late s l w)
