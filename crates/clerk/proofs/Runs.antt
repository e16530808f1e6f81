-- The runs that the day's theorems speak of exist: for a book of any edition, rooms of any bytes, any listings and any arrivals there is
-- such a day, and each symbol can be read then.
-- Assumes nothing.
use Rattle.std.specs.Prelude.{Result, Ok, Err, is_err}
use Prim.Native.Nat.{ℕ}
use mathlib.Core.Path.{◌≡◌, refl, sym, subst}
use mathlib.Core.Bool.{Bool, true, false, cond}
use mathlib.Core.List.{List, [], ◌∷◌}
use lib.Dec.{eqb}
use Rattle.octets.specs.Run.{Bytes}
use Rattle.answers.specs.declared.Refusal.{Refusal}
use Rattle.answers.specs.Answers.{Answer, number_of, answer_of}
use Rattle.answers.proofs.Promise.{not_done}
use Rattle.editions.specs.declared.Edition.{Edition}
use Rattle.rows.specs.declared.Listing.{Listing}
use Rattle.rows.specs.Changed.{ListingFits}
use Rattle.counters.specs.Counting.{fresh_counters}
use Rattle.book.specs.declared.Said.{Said}
use Rattle.book.specs.State.{State, with_counters, with_rows, Outcome, Arrival}
use Rattle.book.specs.Calls.{list_answer, with_listing, listed, delivered, row_told, shown}
use Rattle.show.specs.declared.RowShown.{RowShown}
use Rattle.show.specs.Showing.{nothing_shown}
use Rattle.book.proofs.Demand1.{list_told, message_told, refused_keeps}
use Rattle.book.proofs.Promise.{list_at, list_with, list_then, deliver_at, deliver_with, deliver_then, read_at, read_with, read_then}
use Rattle.clerk.proofs.Lent.{deliver_bytes}
use Rattle.clerk.proofs.Demand3.{Lists, no_listing, a_listing, Delivers, no_message, a_message, Day, Reads, a_reading}

-- each listing is what its type says, each message is bytes
abbrev pub AllFit : List Listing → Type 0
AllFit [] = Unit {0}
AllFit (x ∷ ls) = ListingFits x × AllFit ls

abbrev pub AllBytes : List Arrival → Type 0
AllBytes [] = Unit {0}
AllBytes (a ∷ l) = Bytes a.message × AllBytes l

-- what a call with this outcome tells
abbrev telling : Outcome → Said
telling o = record { answer = answer_of o.answer; counters = o.state.counters }

-- such a call leaves the outcome, if its number is one of the table's
told : (o : Outcome) (t : State) → number_of (answer_of o.answer) ≡ o.answer → t ≡ o.state
    → record { answer = number_of (answer_of o.answer); state = t } ≡ o
told o t e f = rw (e, f)

-- a listing leaves every room but the rows'
list_left_lem : (s : State) (l : Listing)
    → with_counters (listed s l).state.counters (with_rows (listed s l).state.rows s) ≡ (listed s l).state
unfolding listed
list_left_lem s l = go (eqb (list_answer s l) 0)
  where
    go : (b : Bool) → let t = cond b (with_listing s l) s in with_counters t.counters (with_rows t.rows s) ≡ t
    go true = refl
    go false = refl

list_bears : (s : State) (l : Listing) → number_of (answer_of (listed s l).answer) ≡ (listed s l).answer
unfolding listed
list_bears s l = list_told s l

message_bears : (s : State) (a : Arrival) → number_of (answer_of (delivered s a).answer) ≡ (delivered s a).answer
unfolding delivered
message_bears s a = message_told s a

lists_there : (s : State) (ls : List Listing) → AllFit ls → (end : State) × (end.lines ≡ s.lines) × Lists s ls end
lists_there s [] h = (s, refl, no_listing)
lists_there s (x ∷ ls) h =
    let o = listed s x in
    let after = with_counters o.state.counters (with_rows o.state.rows s) in
    let t = lists_there after ls h.1 in (
      t.0,
      t.1,
      a_listing list_at (list_with s x) (telling o) (list_then o.state x) h.0 (told o after (list_bears s x) (list_left_lem s x)) t.2,
    )

delivers_there : (s : State) (l : List Arrival) → Bytes s.lines → AllBytes l → (end : State) × Delivers s l end
delivers_there s [] bl h = (s, no_message)
delivers_there s (a ∷ l) bl h =
    let o = delivered s a in
    let t = delivers_there o.state l (deliver_bytes s a bl h.0) h.1 in (
      t.0,
      a_message deliver_at (deliver_with s a) (telling o) (deliver_then o.state a) bl h.0 (told o o.state (message_bears s a) refl)
          t.1,
    )

pub day_there : (ed : Edition) (rooms : State) (ls : List Listing) (l : List Arrival) → Bytes rooms.lines → AllFit ls → AllBytes l
    → (end : State) × Day ed rooms ls l end
day_there ed rooms ls l bl e b =
    let p = lists_there (with_counters (fresh_counters ed) rooms) ls e in
    let q = delivers_there p.0 l (subst Bytes (sym p.1) bl) b in
    (q.0, record { start = fresh_counters ed; started = refl; ready = p.0; lists = p.2; delivers = q.1 })

-- what is told of a row by a result: a refusal leaves the row out
abbrev row_result : Answer → RowShown → Result RowShown Refusal
row_result (Ok tt) w = Ok w
row_result (Err f) w = Err f

row_result_is : (a : Answer) (w : RowShown) → (is_err a ≡ true → w ≡ nothing_shown) → row_told (row_result a w) ≡ record { answer = a; row = w }
row_result_is (Ok tt) w h = refl
row_result_is (Err f) w h = rw (h refl)

-- what a reading tells is told by some reading
pub reading_there : (s : State) (symbol : List ℕ) → Reads s symbol (shown s symbol)
reading_there s symbol =
    let w = shown s symbol in
    let e : row_told (row_result w.answer w.row) ≡ w
    = row_result_is w.answer w.row (λ r. (refused_keeps s).row symbol (not_done w.answer r)) in
    subst (Reads s symbol) e (a_reading read_at (read_with s symbol) (row_result w.answer w.row) (read_then s symbol) e)
