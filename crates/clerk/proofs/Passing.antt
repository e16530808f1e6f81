-- What a message, and a listing, that the table does not refuse has shown.
-- Assumes nothing.
use Prim.Native.Nat.{ℕ, ◌≤◌, ◌<◌}
use mathlib.Core.Path.{◌≡◌, refl, sym}
use mathlib.Core.List.Memᴰ
use mathlib.Core.List.{List, [], ◌∷◌}
use mathlib.Core.Bool.{Bool, true, false, not, ◌&&◌, ◌||◌, true≢false}
use borrow.Author.Tests.{eqb-true, not-false, leb-false, ltb-false}
use lib.Dec.{eqb, ltb, lit<}
use lib.ListN.{length}
use Rattle.texts.specs.Text.{text}
use Rattle.answers.specs.Cases.{Case, given}
use Rattle.answers.proofs.Cases.{NoneApplies, none_applies}
use Rattle.message.specs.Reader.{Reading}
use Rattle.rows.specs.declared.Listing.{Listing}
use Rattle.phases.specs.Phases.{due}
use Rattle.keys.specs.Keys.{kind_in, old_key}
use Rattle.table.specs.Table.{Basis, is_found, dead_at, differs_at, is_listed, content_table}
use Rattle.records.specs.declared.Record.{Record}
use Rattle.book.specs.Calls.{close_top, list_table}
use Rattle.clerk.specs.Messages.{event_in, names_in, makes_in, key_in}

-- none of two or more cases applies: not the first, and none of the others
head_of : (c : Case) (cs : List Case) → NoneApplies (c ∷ cs) → c.applies ≡ false
head_of c cs h = h c (Memᴰ.head refl)

rest_of : (c : Case) (cs : List Case) → NoneApplies (c ∷ cs) → NoneApplies cs
rest_of c cs h d m = h d (Memᴰ.tail m)

-- the same, case by case
abbrev Unmet : List Case → Type 0
Unmet [] = Unit {0}
Unmet (c ∷ cs) = (c.applies ≡ false) × Unmet cs

each_of : (cs : List Case) → NoneApplies cs → Unmet cs
each_of [] h = tt
each_of (c ∷ cs) h = (head_of c cs h, each_of cs (rest_of c cs h))

-- the second of two, where both do not hold and the first does
second : (a b : Bool) → (a && b) ≡ false → a ≡ true → b ≡ false
second true b e h = e
second false b e h = absurd (true≢false (sym h))

-- what a message shows that gets none of 4 to 12
pub record Passed (b : Basis) (r : Record) : Type 0 where
  pub is_due : due b.phase (kind_in r) r.event ≡ true
  pub on_sheet : event_in r ≡ false → is_listed r.symbol b.sheet ≡ true
  pub is_borne : names_in r ≡ true → is_found (b.ledger.search (old_key r)) ≡ true
  pub is_live : names_in r ≡ true → dead_at b.ledger.lines (b.ledger.search (old_key r)) ≡ false
  pub is_meant : names_in r ≡ true → differs_at r b.ledger.lines (b.ledger.search (old_key r)) ≡ false
  pub is_new : makes_in r ≡ true → is_found (b.ledger.search (key_in r)) ≡ false
  pub has_room : makes_in r ≡ true → length b.ledger.lines < b.ledger.limit

pub passed : (b : Basis) (q : Reading) → (given (content_table b q)).number ≡ 0 → Passed b q.found
unfolding content_table
passed b q e =
    let r = q.found in
    let cases = content_table b q in
    let d
    = each_of cases ((none_applies cases (
      lit< tt,
      (lit< tt, (lit< tt, (lit< tt, (lit< tt, (lit< tt, (lit< tt, (lit< tt, (lit< tt, tt)))))))),
    )).0 e) in
    let due-on = d.1.1 in
    let named-on = due-on.1.1 in
    let made-on = named-on.1.1.1 in
    record {
      is_due = not-false (due b.phase (kind_in r) r.event) due-on.0;
      on_sheet = λ h. not-false (is_listed r.symbol b.sheet) (second (not (event_in r)) _ due-on.1.0 (rw h));
      is_borne = λ h. not-false (is_found (b.ledger.search (old_key r))) (second (names_in r) _ named-on.0 h);
      is_live = λ h. second (names_in r) _ named-on.1.0 h;
      is_meant = λ h. second (names_in r) _ named-on.1.1.0 h;
      is_new = λ h. second (makes_in r) _ made-on.0 h;
      has_room = λ h. leb-false b.ledger.limit (length b.ledger.lines) (second (makes_in r) _ made-on.1.0 h);
    }

-- ---- not refused, of a listing

-- what a listing shows that gets none of 13 to 16
pub record Listable (wanted : ℕ) (sheet : List Listing) (limit : ℕ) (l : Listing) : Type 0 where
  pub small : l.close ≤ close_top
  pub early : wanted ≡ 1
  pub is_new : is_listed l.symbol sheet ≡ false
  pub has_room : length sheet < limit

pub listable : (wanted : ℕ) (sheet : List Listing) (limit : ℕ) (l : Listing) → (given (list_table wanted sheet limit l)).number ≡ 0
    → Listable wanted sheet limit l
unfolding list_table
listable wanted sheet limit l e =
    let cases = list_table wanted sheet limit l in
    let d = each_of cases ((none_applies cases (lit< tt, (lit< tt, (lit< tt, (lit< tt, tt))))).0 e) in
    record {
      small = ltb-false close_top l.close (either (not (text l.symbol)) (ltb close_top l.close) d.0);
      early = eqb-true wanted 1 (not-false (eqb wanted 1) d.1.0);
      is_new = d.1.1.0;
      has_room = leb-false limit (length sheet) d.1.1.1.0;
    }
  where
    either : (a b : Bool) → (a || b) ≡ false → b ≡ false
    either true b e = absurd (true≢false e)
    either false b e = e
