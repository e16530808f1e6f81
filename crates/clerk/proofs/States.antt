-- A run of plain states: after a fresh book was asked anything in any order, with messages that are copies of a day's, its book is the
-- clerk's, of the listings that came in time and of the messages 1 to n, n the largest count that arrives in order. Runs of calls and a
-- tape's entries stand on it.
-- Assumes nothing.
use Prim.Native.Nat.{ℕ, zero, suc, ◌+◌, ◌≤◌, min}
use mathlib.Core.Path.{◌≡◌, refl, sym, ap, subst, ◌∙◌}
use mathlib.Core.Bool.{Bool, true, false, cond}
use mathlib.Core.List.{List, [], ◌∷◌, ◌++◌, map, map-append, Memᴰ}
use native.Mathlib.Omega.{arith}
use borrow.Author.Tests.{eqb-true, eqb-false}
use lib.Dec.{eqb}
use lib.ListN.{length, length-append}
use Rattle.octets.specs.Run.{Bytes, tab}
use Rattle.answers.specs.Answers.{answer_of}
use Rattle.answers.specs.Cases.{Case, given, in_book}
use Rattle.editions.specs.declared.Edition.{Edition}
use Rattle.lines.specs.Lines.{line_limit, used_lines}
use Rattle.rows.specs.declared.Listing.{Listing}
use Rattle.rows.specs.Rows.{row_limit, used_rows, sheet_in}
use Rattle.rows.specs.Changed.{listed_row, ListingFits}
use Rattle.counters.specs.Counting.{last_number, fresh_counters}
use Rattle.show.specs.Showing.{nothing_shown}
use Rattle.book.specs.State.{State, with_counters, Arrival, edition_of, wanted_in, rows_in, lines_in, sheet_of, sound_in}
use Rattle.book.specs.Calls.{list_table, list_answer, listed, delivered, shown}
use Rattle.book.proofs.Demand1.{refused_keeps}
use Rattle.upheld.proofs.Touches.{touches_only}
use Rattle.clerk.specs.Steps.{Book, book_of, wanted_done, next, listing}
use Rattle.clerk.specs.Clerk.{is_in, symbols_in, sheet_from, clerk_sheet, Taken, trades_of, taken_of, row_of, shown_by, book_by, clerk_book}
use Rattle.clerk.specs.Arrivals.{Largest, numbers, Copies, upto}
use Rattle.clerk.specs.Claims.{NoRepeat}
use Rattle.clerk.specs.States.{Asked, to_list, to_deliver, asked_all, arrivals_in, listings_in, AskedFit, AskedIn}
use Rattle.clerk.proofs.Steps.{deliver_step, list_step, deliver_sound, list_sound, fresh_sound}
use Rattle.clerk.proofs.Passing.{listable}
use Rattle.clerk.proofs.Lent.{deliver_bytes}
use Rattle.clerk.proofs.InOrder.{got, got_at, got_other, got_none, largest_got, largest_one, next_at, next_other}
use Rattle.clerk.proofs.Sim.{clerk_after, listed_book, listed_is, sheet_once}
use Rattle.clerk.proofs.Wall.{row_shown, row_missing}

-- this state comes to the book b and is sound, and the rooms are R and L bytes long
pub record Stands (R L : ℕ) (b : Book) (s : State) : Type 0 where
  pub reads : book_of s ≡ b
  pub safe : sound_in s ≡ true
  pub row_room : length s.rows ≡ R
  pub line_room : length s.lines ≡ L

-- ---- a fresh book

pub fresh_stands : (ed : Edition) (s : State)
    → Stands (length s.rows) (length s.lines) (listed_book ed []) (with_counters (fresh_counters ed) s)
unfolding book_of used_rows used_lines tab
fresh_stands ed s =
    record {
      reads = rw (none_used (row_limit (length s.rows)), none_used (line_limit (length s.lines)));
      safe = fresh_sound ed (length s.rows) (length s.lines);
      row_room = refl;
      line_room = refl;
    }
  where
    none_used : (n : ℕ) → min 0 n ≡ 0
    none_used n = omega arith

-- ---- a listing

sheet_listed : (sheet : List Listing) → sheet_in (map listed_row sheet) ≡ sheet
sheet_listed [] = refl
sheet_listed (l ∷ sheet) = ap {B = List Listing} (λ x. l ∷ x) (sheet_listed sheet)

-- the sheet after one more listing
abbrev pub plus : ℕ → List Listing → Listing → List Listing
plus limit sheet l = cond (eqb (given (list_table 1 sheet limit l)).number 0) (sheet ++ (l ∷ [])) sheet

listing_is : (ed : Edition) (limit : ℕ) (sheet : List Listing) (l : Listing)
    → listing limit (listed_book ed sheet) l ≡ listed_book ed (plus limit sheet l)
unfolding listing
listing_is ed limit sheet l =
    ap (λ (x : List Listing). cond (eqb (given (list_table 1 x limit l)).number 0) more (listed_book ed sheet)) (sheet_listed sheet)
    ∙ go (eqb (given (list_table 1 sheet limit l)).number 0)
  where
    more : Book
    more =
        record {
          edition = ed;
          wanted = 1;
          phase = 0;
          rows = map listed_row sheet ++ (listed_row l ∷ []);
          lines = [];
          listed = length sheet + 1;
          used = 0;
          taken = 0;
        }

    go : (t : Bool) → cond t more (listed_book ed sheet) ≡ listed_book ed (cond t (sheet ++ (l ∷ [])) sheet)
    go true = rw (map-append listed_row sheet (l ∷ []), length-append sheet (l ∷ []))
    go false = refl

pub upto_length : (day : ℕ → List ℕ) (n : ℕ) → length (upto day n) ≡ n
unfolding upto
upto_length day zero = refl
upto_length day (suc n) = ap suc (upto_length day n)

-- a book that wants another number than 1 refuses every listing
pub late : (s : State) (l : Listing) → (wanted_in s ≡ 1 → ⊥) → (listed s l).answer ≡ 0 → ⊥
unfolding listed list_answer
late s l w e = go (sound_in s) e
  where
    cases : List Case
    cases = list_table (wanted_in s) (sheet_of s) (row_limit (length s.rows)) l

    go : (b : Bool) → (given (in_book b cases)).number ≡ 0 → ⊥
    go true e = w (listable (wanted_in s) _ _ l e).early
    go false e = omega arith

module _ (R L : ℕ) where
  -- what one listing leaves of a book that is only listed in
  pub listed_stands : (ed : Edition) (s : State) (l : Listing) → ListingFits l → (sheet : List Listing) → Stands R L (listed_book ed sheet) s
      → Stands R L (listed_book ed (plus (row_limit R) sheet l)) (listed s l).state
  listed_stands ed s l f sheet h =
      record {
        reads =
            list_step s h.safe l f
            ∙ ap (λ (b : Book). listing (row_limit (length s.rows)) b l) h.reads
            ∙ ap (λ (n : ℕ). listing (row_limit n) (listed_book ed sheet) l) h.row_room
            ∙ listing_is ed (row_limit R) sheet l;
        safe = list_sound s h.safe l;
        row_room = (touches_only s).listed_length l ∙ h.row_room;
        line_room = ap length ((touches_only s).listed_lines l) ∙ h.line_room;
      }

  -- ---- a message

  pub delivered_stands : (s : State) (a : Arrival) → Bytes s.lines → Bytes a.message → (b : Book) → Stands R L b s
      → Stands R L (next (line_limit L) b a) (delivered s a).state
  delivered_stands s a bl bm b h =
      record {
        reads =
            deliver_step s h.safe a bl bm
            ∙ ap (λ (x : Book). next (line_limit (length s.lines)) x a) h.reads
            ∙ ap (λ (x : ℕ). next (line_limit x) b a) h.line_room;
        safe = deliver_sound s h.safe a;
        row_room = (touches_only s).rows_length a ∙ h.row_room;
        line_room = (touches_only s).lines_length a ∙ h.line_room;
      }

  pub wants : (s : State) (b : Book) → Stands R L b s → wanted_in s ≡ b.wanted
  unfolding book_of
  wants s b h = ap (λ (x : Book). x.wanted) h.reads

  pub reads_by : (s : State) (b : Book) → Stands R L b s → edition_of s ≡ b.edition
  unfolding book_of
  reads_by s b h = ap (λ (x : Book). x.edition) h.reads

  -- ---- a day's messages

  module _ (ed : Edition) (day : ℕ → List ℕ) (N : ℕ) (fits : N ≤ last_number) where
    -- the clerk's book after the first j
    abbrev pub clerks : List Listing → ℕ → Book
    clerks sheet j = clerk_book ed sheet (line_limit L) (upto day j)

    pub clerks_wanted : (sheet : List Listing) (j : ℕ) → (clerks sheet j).wanted ≡ suc j
    unfolding clerk_book book_by
    clerks_wanted sheet j = ap suc (upto_length day j)

    -- a copy of the message after those is used, and no other is
    pub clerks_at : (sheet : List Listing) → NoRepeat (symbols_in sheet) → (j : ℕ) (a : Arrival) → a.number ≡ suc j → a.number ≤ N
        → (1 ≤ a.number → a.message ≡ day a.number) → next (line_limit L) (clerks sheet j) a ≡ clerks sheet (suc j)
    unfolding upto
    clerks_at sheet once j a i k c =
        next_at (line_limit L) (clerks sheet j) a (omega arith) (omega arith) (i ∙ sym (clerks_wanted sheet j))
        ∙ ap (wanted_done (line_limit L) (clerks sheet j)) (c (omega arith) ∙ ap day i)
        ∙ clerk_after ed sheet (line_limit L) once (upto day j) (day (suc j))

    pub clerks_other : (sheet : List Listing) (j : ℕ) (a : Arrival) → eqb a.number (suc j) ≡ false
        → next (line_limit L) (clerks sheet j) a ≡ clerks sheet j
    clerks_other sheet j a e =
        next_other (line_limit L) (clerks sheet j) a (λ q. eqb-false a.number (suc j) e (q ∙ clerks_wanted sheet j))

    -- from the book after the first j on, at least one: as many more are used as come in order, and listings come too late
    used_up_lem : (sheet : List Listing) → NoRepeat (symbols_in sheet) → (j : ℕ) (s : State) (qs : List Asked) → AskedIn s qs
        → Copies day N (arrivals_in qs) → Stands R L (clerks sheet (suc j)) s
        → Stands R L (clerks sheet (got (suc (suc j)) (numbers (arrivals_in qs)) + suc j)) (asked_all s qs)
    unfolding asked_all
    used_up_lem sheet once j s [] f c h = subst (λ (k : ℕ). Stands R L (clerks sheet k) s) (sym (got_none (suc j))) h
    used_up_lem sheet once j s (to_list l ∷ qs) f c h =
        let w : wanted_in s ≡ suc (suc j) = wants s _ h ∙ clerks_wanted sheet (suc j) in
        let e = (refused_keeps s).list l (late s l (λ z. omega arith)) in
        used_up_lem sheet once j (listed s l).state qs f.1 c
        (subst (Stands R L (clerks sheet (suc j))) (sym e) h)
    used_up_lem sheet once j s (to_deliver a ∷ qs) f c h =
        let t = (delivered s a).state in
        go (eqb a.number (suc (suc j))) refl (used_up_lem sheet once (suc j) t qs f.1 c.1) (used_up_lem sheet once j t qs f.1 c.1)
      where
        ks : List ℕ
        ks = numbers (arrivals_in qs)

        left : State
        left = (delivered s a).state

        then : Stands R L (next (line_limit L) (clerks sheet (suc j)) a) left
        then = delivered_stands s a f.0.0 f.0.1 (clerks sheet (suc j)) h

        go : (t : Bool) → eqb a.number (suc (suc j)) ≡ t
            → (Stands R L (clerks sheet (suc (suc j))) left
            → Stands R L (clerks sheet (got (suc (suc (suc j))) ks + suc (suc j))) (asked_all left qs))
            → (Stands R L (clerks sheet (suc j)) left → Stands R L (clerks sheet (got (suc (suc j)) ks + suc j)) (asked_all left qs))
            → Stands R L (clerks sheet (got (suc (suc j)) (a.number ∷ ks) + suc j)) (asked_all left qs)
        go true e more same =
            let i : a.number ≡ suc (suc j) = eqb-true a.number (suc (suc j)) e in
            let step = clerks_at sheet once (suc j) a i c.0.0 c.0.1 in
            let g : got (suc (suc (suc j))) ks + suc (suc j) ≡ got (suc (suc j)) (a.number ∷ ks) + suc j
            = omega (arith, got_at (suc (suc j)) a.number ks e) in
            subst (λ (k : ℕ). Stands R L (clerks sheet k) (asked_all left qs)) g
            (more (subst (λ (b : Book). Stands R L b left) step then))
        go false e more same =
            rw (got_other (suc (suc j)) a.number ks e)
            (same (subst (λ (b : Book). Stands R L b left) (clerks_other sheet (suc j) a e) then))

    -- from a book that is only listed in: the listings in time are on the sheet, and as many messages are used as come in order from 1
    from_listed : (sheet : List Listing) → NoRepeat (symbols_in sheet) → (s : State) (qs : List Asked) → AskedIn s qs
        → Copies day N (arrivals_in qs) → Stands R L (listed_book ed sheet) s
        → Stands R L (clerks (sheet_from (row_limit R) sheet (listings_in qs)) (got 1 (numbers (arrivals_in qs)))) (asked_all s qs)
    unfolding asked_all sheet_from got upto
    from_listed sheet once s [] f c h = subst (λ (b : Book). Stands R L b s) (listed_is ed sheet (line_limit L)) h
    from_listed sheet once s (to_list l ∷ qs) f c h =
        from_listed (plus (row_limit R) sheet l) (sheet_once (row_limit R) sheet (l ∷ []) once) (listed s l).state qs f.1 c
        (listed_stands ed s l f.0 sheet h)
    from_listed sheet once s (to_deliver a ∷ qs) f c h =
        go (eqb a.number 1) refl (from_listed sheet once (delivered s a).state qs f.1 c.1)
      where
        ks : List ℕ
        ks = numbers (arrivals_in qs)

        left : State
        left = (delivered s a).state

        then : Stands R L (next (line_limit L) (clerks sheet 0) a) left
        then =
            delivered_stands s a f.0.0 f.0.1 (clerks sheet 0)
            (subst (λ (b : Book). Stands R L b s) (listed_is ed sheet (line_limit L)) h)

        go : (t : Bool) → eqb a.number 1 ≡ t
            → (Stands R L (listed_book ed sheet) left
            → Stands R L (clerks (sheet_from (row_limit R) sheet (listings_in qs)) (got 1 ks)) (asked_all left qs))
            → let final = sheet_from (row_limit R) sheet (cond t [] (listings_in qs)) in
            Stands R L (clerks final (cond t (suc (got 2 ks)) (got 1 ks))) (asked_all left qs)
        go true e same =
            let i : a.number ≡ 1 = eqb-true a.number 1 e in
            let step = clerks_at sheet once 0 a i c.0.0 c.0.1 in
            let g : got 2 ks + 1 ≡ suc (got 2 ks) = omega arith in
            subst (λ (k : ℕ). Stands R L (clerks sheet k) (asked_all left qs)) g
            (used_up_lem sheet once 0 left qs f.1 c.1 (subst (λ (b : Book). Stands R L b left) step then))
        go false e same =
            same (subst (λ (b : Book). Stands R L b left) (clerks_other sheet 0 a e ∙ sym (listed_is ed sheet (line_limit L))) then)

-- a room for lines that is of bytes stays so: what fits its types fits them as it comes
asked_in_lem : (s : State) → Bytes s.lines → (qs : List Asked) → AskedFit qs → AskedIn s qs
asked_in_lem s bl [] f = tt
asked_in_lem s bl (to_list l ∷ qs) f = (f.0, asked_in_lem (listed s l).state (subst Bytes (sym ((touches_only s).listed_lines l)) bl) qs f.1)
asked_in_lem s bl (to_deliver a ∷ qs) f = ((bl, f.0), asked_in_lem (delivered s a).state (deliver_bytes s a bl f.0) qs f.1)

-- the law: a fresh book in rooms of any contents, asked anything in any order, of copies of the day's messages, 1 to n at most in order
pub steps_from : (ed : Edition) (day : ℕ → List ℕ) (N n : ℕ) → N ≤ last_number → (rooms : State) (qs : List Asked)
    → AskedIn (with_counters (fresh_counters ed) rooms) qs → Copies day N (arrivals_in qs) → Largest (numbers (arrivals_in qs)) n
    → let R = length rooms.rows in
    let L = length rooms.lines in
    let book = clerk_book ed (clerk_sheet (row_limit R) (listings_in qs)) (line_limit L) (upto day n) in
    Stands R L book (asked_all (with_counters (fresh_counters ed) rooms) qs)
steps_from ed day N n fits rooms qs f c h =
    let R = length rooms.rows in
    let L = length rooms.lines in
    let ks = numbers (arrivals_in qs) in
    let s = with_counters (fresh_counters ed) rooms in
    subst (λ (k : ℕ). Stands R L (clerk_book ed (clerk_sheet (row_limit R) (listings_in qs)) (line_limit L) (upto day k)) (asked_all s qs))
    (largest_one ks (got 1 ks) n (largest_got ks) h)
    (from_listed R L ed day N fits [] tt s qs f c (fresh_stands ed rooms))

-- and of rooms of bytes
pub steps_are : (ed : Edition) (day : ℕ → List ℕ) (N n : ℕ) → N ≤ last_number → (rooms : State) → Bytes rooms.lines
    → (qs : List Asked) → AskedFit qs
    → Copies day N (arrivals_in qs) → Largest (numbers (arrivals_in qs)) n
    → let R = length rooms.rows in
    let L = length rooms.lines in
    let book = clerk_book ed (clerk_sheet (row_limit R) (listings_in qs)) (line_limit L) (upto day n) in
    Stands R L book (asked_all (with_counters (fresh_counters ed) rooms) qs)
steps_are ed day N n fits rooms bl qs f c h =
    steps_from ed day N n fits rooms qs (asked_in_lem (with_counters (fresh_counters ed) rooms) bl qs f) c h

-- ---- what a row's reading tells then

module _ (R L : ℕ) (ed : Edition) (sheet : List Listing) (room : ℕ) (ms : List (List ℕ)) (s : State)
    (h : Stands R L (clerk_book ed sheet room ms) s) where
  abbrev taken : List Taken
  taken = taken_of ed sheet room ms

  pub the_rows : rows_in s ≡ map (row_of ed taken) sheet
  unfolding book_of clerk_book book_by
  the_rows = ap (λ (b : Book). b.rows) h.reads

  pub the_lines : lines_in s ≡ trades_of taken
  unfolding book_of clerk_book book_by
  the_lines = ap (λ (b : Book). b.lines) h.reads

  -- of a listed symbol what the clerk shows
  pub shown_listed : NoRepeat (symbols_in sheet) → (x : Listing) → Memᴰ x sheet
      → shown s x.symbol ≡ record { answer = answer_of 0; row = shown_by ed taken x }
  shown_listed once x m = row_shown s h.safe ed sheet taken the_rows the_lines once x m

  -- and 7 of any other
  pub shown_missing : (symbol : List ℕ) → is_in symbol (symbols_in sheet) ≡ false
      → shown s symbol ≡ record { answer = answer_of 7; row = nothing_shown }
  shown_missing symbol e = row_missing s h.safe ed sheet taken the_rows the_lines symbol e
