-- The way the program works the answer table gives what the table gives; the number before the content.
-- Assumes nothing.
use Rattle.std.specs.Prelude.{None, Option, Some, ℕ}
use Prim.Native.Nat.{ℕ, ◌≤◌, min}
use mathlib.Core.Path.{◌≡◌, refl, ap, sym, ◌∙◌}
use mathlib.Core.Logic.{◌↔◌, ◌⊎◌, inl, inr, ⊎_elim}
use mathlib.Core.List.{List, [], ◌∷◌, ◌++◌}
use mathlib.Core.Bool.{Bool, true, false, cond, not, ◌&&◌, ◌||◌, true≢false}
use native.Mathlib.Omega.{arith}
use borrow.Author.Tests.{eqb-true, eqb-false, ne_eqb, ltb-false, le-ltb, leb-true, leb-false, le-leb, lt-leb}
use lib.Dec.{eqb, ltb, leb, lit<}
use lib.ListN.{length, get_or, length-map}
use Rattle.answers.specs.Answers.{number_of, answer_of}
use Rattle.answers.specs.Cases.{Case, says, spends, given, in_book}
use Rattle.answers.proofs.Cases.{Rising}
use Rattle.answers.proofs.Promise.{one_number_each}
use Rattle.editions.specs.declared.Edition.{Edition}
use Rattle.message.specs.Reader.{Reading, read_of}
use Rattle.records.specs.declared.Record.{Record}
use Rattle.message.proofs.Said.{Said, unshaped, unkept, obeyed, said}
use Rattle.kinds.specs.declared.Kind.{Kind}
use Rattle.kinds.specs.Kinds.{is_event, names_old, makes_new}
use Rattle.kinds.proofs.Laws.{event_names, event_makes, names_event}
use Rattle.rows.specs.declared.Listing.{Listing}
use Rattle.rows.specs.declared.Row.{Row}
use Rattle.lines.specs.Lines.{line_limit, used_lines, no_line}
use Rattle.rows.specs.Rows.{row_limit, used_rows, used_sheet, listing_of}
use Rattle.lines.proofs.Slabs.{used_lines_length}
use Rattle.rows.proofs.Slabs.{used_rows_length}
use Rattle.phases.specs.Phases.{due}
use Rattle.counters.specs.Counting.{last_number}
use Rattle.keys.specs.Keys.{kind_in, old_key, new_key, matches}
use Rattle.table.specs.declared.Verdict.{Verdict}
use Rattle.table.specs.Table.{Ledger, Basis, is_found, dead_at, differs_at, is_listed, number_table, content_table}
use Rattle.table.specs.Working.{plainly, naming, named_at, named_by, made_at, made_by, then_made, trade_by, on_row, listed_at, listed_by}
use Rattle.table.specs.Working.{due_by, judged_by}

-- ---- today's table: 17, and then numbers that rise

pub message_rising : (w n : ℕ) (b : Basis) (q : Reading) → Rising (number_table w n ++ content_table b q)
unfolding number_table content_table
message_rising w n b q =
    (lit< tt, (lit< tt, (lit< tt, (lit< tt, (lit< tt, (lit< tt, (lit< tt, (lit< tt, (lit< tt, (lit< tt, (lit< tt, (lit< tt, tt))))))))))))

-- ---- a room is full exactly where the count has reached its limit

full_is : (limit used : ℕ) → leb limit (min used limit) ≡ leb limit used
full_is limit used = go (leb limit used) refl
  where
    go : (t : Bool) → leb limit used ≡ t → leb limit (min used limit) ≡ t
    go true t = let h = leb-true limit used t in le-leb limit (min used limit) (omega arith)
    go false t = let h = leb-false limit used t in lt-leb limit (min used limit) (omega arith)

module _ (m : List ℕ) (used : ℕ) where
  pub lines_full : leb (line_limit (length m)) (length (used_lines m used)) ≡ leb (line_limit (length m)) used
  lines_full = ap (leb (line_limit (length m))) (used_lines_length m used) ∙ full_is (line_limit (length m)) used

  pub rows_full : leb (row_limit (length m)) (length (used_sheet m used)) ≡ leb (row_limit (length m)) used
  rows_full =
      ap (leb (row_limit (length m))) (length-map (used_rows m used) (λ (r : Row). r.listing) ∙ used_rows_length m used)
      ∙ full_is (row_limit (length m)) used

-- ---- the branches and the table

-- what a message is read as: 0, 4 or 5
abbrev pub Plain : Reading → Type 0
Plain q = (number_of q.answer ≡ 0) ⊎ ((number_of q.answer ≡ 4) ⊎ (number_of q.answer ≡ 5))

pub read_plain : (e : Edition) (m : List ℕ) → Plain (read_of e m)
read_plain e m = go (said e m)
  where
    number : Reading → ℕ
    number q = number_of q.answer

    go : Said e m → Plain (read_of e m)
    go (unshaped s q) = inr (inl (ap number q))
    go (unkept s o q) = inr (inr (ap number q))
    go (obeyed s o q) = inl (ap number q)

-- 11 and 12
made_table : Ledger → Kind → Record → List Case
made_table l kind r =
    spends 11 (makes_new kind && is_found (l.search (new_key kind r))) ∷ spends 12 (makes_new kind && leb l.limit (length l.lines)) ∷ []

-- 8 to 12
trade_table : Ledger → Kind → Record → List Case
trade_table l kind r =
    spends 8 (names_old kind && not (is_found (l.search (old_key r))))
    ∷ spends 9 (names_old kind && dead_at l.lines (l.search (old_key r)))
    ∷ spends 10 (names_old kind && differs_at r l.lines (l.search (old_key r)))
    ∷ made_table l kind r

module _ (l : Ledger) (kind : Kind) (r : Record) where
  made_is : made_by l kind r ≡ (given (made_table l kind r)).number
  unfolding made_by made_table
  made_is = go (makes_new kind) (leb l.limit (length l.lines)) (l.search (new_key kind r))
    where
      go : (t full : Bool) (f : Option ℕ) → cond t (made_at full f) 0 ≡ (given (spends 11 (t && is_found f) ∷ spends 12 (t && full) ∷ [])).number
      go false full None = refl
      go false full (Some i) = refl
      go true true None = refl
      go true false None = refl
      go true full (Some i) = refl

  trade_is : (trade_by l kind r).answer ≡ answer_of (given (trade_table l kind r)).number
  unfolding trade_by named_by trade_table
  trade_is = go (names_old kind) (l.search (old_key r))
    where
      made : answer_of (made_by l kind r) ≡ answer_of (given (made_table l kind r)).number
      made = ap answer_of made_is

      go : (t : Bool) (f : Option ℕ)
          → (cond t (then_made l kind r (named_at r l.lines f)) (plainly (answer_of (made_by l kind r)))).answer
          ≡ answer_of (given (spends 8 (t && not (is_found f)) ∷ spends 9 (t && dead_at l.lines f) ∷ spends 10
          (t && differs_at r l.lines f) ∷ made_table l kind r)).number
      go false None = made
      go false (Some i) = made
      go true None = refl
      go true (Some i) = at (get_or l.lines i no_line).live (matches r (get_or l.lines i no_line))
        where
          at : (live agrees : Bool)
              → (then_made l kind r (cond live (cond agrees (naming i) (plainly (answer_of 10))) (plainly (answer_of 9)))).answer
              ≡ answer_of (given (spends 9 (not live) ∷ spends 10 (not agrees) ∷ made_table l kind r)).number
          at true true = made
          at true false = refl
          at false true = refl
          at false false = refl

  -- not refused, and naming a line: it was found
  named_at_lem : number_of (trade_by l kind r).answer ≡ 0 → names_old kind ≡ true → l.search (old_key r) ≡ Some (trade_by l kind r).line
  unfolding trade_by named_by
  named_at_lem z n = rw n (go (l.search (old_key r)) refl (rw n at z))
    where
      go : (f : Option ℕ) → l.search (old_key r) ≡ f → number_of (then_made l kind r (named_at r l.lines f)).answer ≡ 0
          → l.search (old_key r) ≡ Some (then_made l kind r (named_at r l.lines f)).line
      go None f z = absurd (omega arith)
      go (Some i) f z = at (get_or l.lines i no_line).live (matches r (get_or l.lines i no_line)) z
        where
          named : Bool → Bool → Verdict
          named live agrees = then_made l kind r (cond live (cond agrees (naming i) (plainly (answer_of 10))) (plainly (answer_of 9)))

          at : (live agrees : Bool) → number_of (named live agrees).answer ≡ 0 → l.search (old_key r) ≡ Some (named live agrees).line
          at true true z = f
          at true false z = absurd (omega arith)
          at false agrees z = absurd (omega arith)

-- 6 to 12
due_table : Basis → Kind → Record → List Case
due_table b kind r =
    spends 6 (not (due b.phase kind r.event))
    ∷ spends 7 (not (is_event kind) && not (is_listed r.symbol b.sheet))
    ∷ trade_table b.ledger kind r

-- nothing of 8 to 12 applies to an event
event_quiet : (l : Ledger) (kind : Kind) (r : Record) → is_event kind ≡ true → (given (trade_table l kind r)).number ≡ 0
unfolding trade_table made_table
event_quiet l kind r e = rw (event_names kind e, event_makes kind e)

module _ (b : Basis) (kind : Kind) (r : Record) where
  due_is : (due_by b kind r).answer ≡ answer_of (given (due_table b kind r)).number
  unfolding due_by listed_by due_table
  due_is = go (due b.phase kind r.event) (is_event kind) refl (listing_of r.symbol b.sheet)
    where
      go : (d e : Bool) → is_event kind ≡ e → (f : Option ℕ)
          → (cond d (cond e (plainly (answer_of 0)) (listed_at b.ledger kind r f)) (plainly (answer_of 6))).answer
          ≡ answer_of (given (spends 6 (not d) ∷ spends 7 (not e && not (is_found f)) ∷ trade_table b.ledger kind r)).number
      go true true q f = ap answer_of (sym (event_quiet b.ledger kind r q))
      go true false q None = refl
      go true false q (Some i) = trade_is b.ledger kind r
      go false e q f = refl

  -- not refused, and no event: the symbol has a row, and the rest was judged there
  due_at : number_of (due_by b kind r).answer ≡ 0 → is_event kind ≡ false
      → (i : ℕ) × (listing_of r.symbol b.sheet ≡ Some i) × (due_by b kind r ≡ on_row i (trade_by b.ledger kind r))
  unfolding due_by listed_by
  due_at z e = go (due b.phase kind r.event) (is_event kind) e (listing_of r.symbol b.sheet) refl z
    where
      picked : Bool → Bool → Option ℕ → Verdict
      picked d u f = cond d (cond u (plainly (answer_of 0)) (listed_at b.ledger kind r f)) (plainly (answer_of 6))

      go : (d u : Bool) → u ≡ false → (f : Option ℕ) → listing_of r.symbol b.sheet ≡ f → number_of (picked d u f).answer ≡ 0
          → (i : ℕ) × (listing_of r.symbol b.sheet ≡ Some i) × (picked d u f ≡ on_row i (trade_by b.ledger kind r))
      go true true e f g z = absurd (true≢false e)
      go true false e None g z = absurd (omega arith)
      go true false e (Some i) g z = (i, g, refl)
      go false u e f g z = absurd (omega arith)

module _ (b : Basis) (q : Reading) where
  abbrev kind : Kind
  kind = kind_in q.found

  abbrev it : Verdict
  it = judged_by b kind q

  -- the branches give what the table gives, of a reading that answers 0, 4 or 5, as every reading of bytes does
  pub judged_is : Plain q → it.answer ≡ answer_of (given (content_table b q)).number
  unfolding judged_by content_table due_table trade_table made_table
  judged_is p =
      ⊎_elim (λ (e : number_of q.answer ≡ 0). rw e (due_is b kind q.found))
      (⊎_elim (λ (e : number_of q.answer ≡ 4). rw e (one_number_each q.answer (answer_of 4) e))
      (λ (e : number_of q.answer ≡ 5). rw e (one_number_each q.answer (answer_of 5) e)))
      p

  -- not refused: the message was read, and the rest was judged
  judged_at : number_of it.answer ≡ 0 → it ≡ due_by b kind q.found
  unfolding judged_by
  judged_at z = go (eqb (number_of q.answer) 0) refl z
    where
      picked : Bool → Verdict
      picked t = cond t (due_by b kind q.found) (plainly q.answer)

      go : (t : Bool) → eqb (number_of q.answer) 0 ≡ t → number_of (picked t).answer ≡ 0 → picked t ≡ due_by b kind q.found
      go true t z = refl
      go false t z = absurd (eqb-false (number_of q.answer) 0 t z)

  judged_on : number_of it.answer ≡ 0 → is_event kind ≡ false
      → (i : ℕ) × (listing_of q.found.symbol b.sheet ≡ Some i) × (it ≡ on_row i (trade_by b.ledger kind q.found))
  judged_on z e =
      let j = judged_at z in
      let d = due_at b kind q.found (rw j at z) e in
      (d.0, d.1, j ∙ d.2)

  -- the row that a taken message goes to, if it is no event, is the first of its symbol
  pub judged_row : number_of it.answer ≡ 0 → is_event kind ≡ false → listing_of q.found.symbol b.sheet ≡ Some it.row
  judged_row z e =
      let d = judged_on z e in
      d.1 ∙ ap (λ (v : Verdict). Some v.row) (sym d.2)

  -- the line that a taken message names is the one that the search for its key finds
  pub judged_line : number_of it.answer ≡ 0 → names_old kind ≡ true → b.ledger.search (old_key q.found) ≡ Some it.line
  judged_line z n =
      let d = judged_on z (names_event kind n) in
      let t : number_of (trade_by b.ledger kind q.found).answer ≡ 0 = rw d.2 at z in
      named_at_lem b.ledger kind q.found t n ∙ ap (λ (v : Verdict). Some v.line) (sym d.2)

-- ---- the number before the content

-- the table of a number, by its three tests
abbrev numbered : Bool → Bool → Bool → List Case
numbered outside below above = says 1 outside ∷ says 2 below ∷ says 3 above ∷ []

-- a message's number is judged first; where nothing is wrong with it, its content decides
pub number_then : (b : Bool) (w n : ℕ) (cases : List Case)
    → given (in_book b (number_table w n ++ cases))
    ≡ cond (eqb (given (in_book b (number_table w n))).number 0) (given cases) (given (in_book b (number_table w n)))
unfolding number_table
number_then b w n cases = go b (eqb n 0 || ltb last_number n) (ltb n w) (ltb w n)
  where
    go : (b x y z : Bool)
        → given (in_book b (numbered x y z ++ cases))
        ≡ cond (eqb (given (in_book b (numbered x y z))).number 0) (given cases) (given (in_book b (numbered x y z)))
    go false x y z = refl
    go true true y z = refl
    go true false true z = refl
    go true false false true = refl
    go true false false false = refl

-- a number that a message may bear, and that is wanted, where the book is sound
pub record Wanted (b : Bool) (w n : ℕ) : Type 0 where
  pub sound : b ≡ true
  pub wanted : n ≡ w
  pub least : 1 ≤ n
  pub greatest : n ≤ last_number

-- neither of two tests passes where either-of-them does not
pub neither : (a b : Bool) → (a || b) ≡ false → (a ≡ false) × (b ≡ false)
neither false b e = (refl, e)
neither true b e = absurd (true≢false e)

-- the number is not refused exactly where the book is sound, and it is the wanted one and at most 4,294,967,295
pub number_wanted : (b : Bool) (w n : ℕ) → ((given (in_book b (number_table w n))).number ≡ 0) ↔ Wanted b w n
unfolding number_table
number_wanted b w n = (go b refl (eqb n 0 || ltb last_number n) refl (ltb n w) refl (ltb w n) refl, back)
  where
    go : (t : Bool) → b ≡ t → (x : Bool) → (eqb n 0 || ltb last_number n) ≡ x → (y : Bool) → ltb n w ≡ y → (z : Bool) → ltb w n ≡ z
        → (given (in_book t (numbered x y z))).number ≡ 0 → Wanted b w n
    go false s x ex y ey z ez e = absurd (omega arith)
    go true s true ex y ey z ez e = absurd (omega arith)
    go true s false ex true ey z ez e = absurd (omega arith)
    go true s false ex false ey true ez e = absurd (omega arith)
    go true s false ex false ey false ez e =
        let p = neither (eqb n 0) (ltb last_number n) ex in
        let some : n ≡ 0 → ⊥ = eqb-false n 0 p.0 in
        let fits = ltb-false last_number n p.1 in
        let a = ltb-false n w ey in
        let b = ltb-false w n ez in
        record { sound = s; wanted = omega arith; least = omega arith; greatest = fits }

    back : Wanted b w n → (given (in_book b (number_table w n))).number ≡ 0
    back h =
        let x = ne_eqb n 0 (λ e. omega (arith, h.least)) in
        let y = le-ltb last_number n h.greatest in
        let u = le-ltb n w (omega (arith, h.wanted)) in
        let v = le-ltb w n (omega (arith, h.wanted)) in
        rw (h.sound, x, y, u, v)

module _ (b : Bool) (w n : ℕ) (cases : List Case) where
  -- the wanted number: the content decides
  pub number_content : Wanted b w n → given (in_book b (number_table w n ++ cases)) ≡ given cases
  number_content h = number_then b w n cases ∙ rw ((number_wanted b w n).1 h)

  -- any other number: the content is not looked at
  pub number_refused : (Wanted b w n → ⊥) → given (in_book b (number_table w n ++ cases)) ≡ given (in_book b (number_table w n))
  number_refused h =
      number_then b w n cases ∙ rw (ne_eqb (given (in_book b (number_table w n))).number 0 (λ e. h ((number_wanted b w n).0 e)))

  -- nothing but the wanted number is taken
  pub number_taken : (given (in_book b (number_table w n ++ cases))).number ≡ 0 → Wanted b w n
  number_taken e =
      go (eqb (given (in_book b (number_table w n))).number 0) refl (sym (ap (λ (c : Case). c.number) (number_then b w n cases)) ∙ e)
    where
      go : (t : Bool) → eqb (given (in_book b (number_table w n))).number 0 ≡ t
          → (cond t (given cases) (given (in_book b (number_table w n)))).number ≡ 0 → Wanted b w n
      go true t e = (number_wanted b w n).0 (eqb-true (given (in_book b (number_table w n))).number 0 t)
      go false t e = absurd (eqb-false (given (in_book b (number_table w n))).number 0 t e)
