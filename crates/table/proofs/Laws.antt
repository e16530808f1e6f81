-- Laws that the functions of this crate stand on: the line that a search found, and the one that is made.
-- Assumes nothing.
use Rattle.std.specs.Prelude.{None, Option, Some, ℕ, Result, Ok, Err, is_some}
use mathlib.Core.Path.{◌≡◌, ap, sym, ◌∙◌}
use mathlib.Core.Bool.{Bool, true, false, cond, true≢false}
use mathlib.Core.List.{List}
use Prim.Native.Nat.{ℕ}
use native.Mathlib.Omega.{arith}
use borrow.Author.Tests.{eq-eqb, ne_eqb}
use lib.Dec.{leb}
use lib.ListN.{length, get_or}
use Rattle.answers.specs.declared.Refusal.{Refusal}
use Rattle.answers.specs.Answers.{Answer, number_of, answer_of}
use Rattle.answers.proofs.Promise.{refused_number}
use Rattle.message.specs.Reader.{reading_of}
use Rattle.kinds.specs.declared.Kind.{Kind}
use Rattle.kinds.specs.Kinds.{is_event, makes_new}
use Rattle.phases.specs.Phases.{due}
use Rattle.records.specs.declared.Record.{Record}
use Rattle.lines.specs.declared.Line.{Line}
use Rattle.lines.specs.Lines.{used_lines, line_limit, line_with, bears, line_in, no_line}
use Rattle.cells.proofs.Slabs.{found_below}
use Rattle.lines.proofs.Slabs.{used_lines_length, line_in_lem}
use Rattle.keys.specs.Keys.{old_key, new_key, matches}
use Rattle.table.specs.Table.{Ledger, Basis, ledger_in}
use Rattle.table.specs.Working.{plainly, naming, named_by, made_by, then_made, listed_by, due_by, judged_by}
use Rattle.table.specs.declared.Verdict.{Verdict}
use Rattle.table.proofs.Tables.{lines_full}

-- a search for a key that was worked out
pub found_for : (ls : List Line) (key key' : List ℕ) (f f' : Option ℕ) → f ≡ line_with key ls → key ≡ key' → f ≡ f' → line_with key' ls ≡ f'
found_for ls key key' f f' e k g = ap (λ (x : List ℕ). line_with x ls) (sym k) ∙ sym e ∙ g

-- ---- the line that is named

module _ (r : Record) (m : List ℕ) (used i : ℕ) (e : line_with (old_key r) (used_lines m used) ≡ Some i) where
  there : get_or (used_lines m used) i no_line ≡ line_in m i
  there = line_in_lem m used i (omega (arith, found_below (bears (old_key r)) (used_lines m used) i e, used_lines_length m used))

  module _ (l : Line) (g : l ≡ line_in m i) where
    pub named_dead : l.live ≡ false → named_by (ledger_in m used) r ≡ plainly (answer_of 9)
    unfolding named_by
    named_dead h = rw (e, there, ← g, h)

    pub named_live : l.live ≡ true → (b : Bool) → b ≡ matches r l → named_by (ledger_in m used) r ≡ cond b (naming i) (plainly (answer_of 10))
    unfolding named_by matches
    named_live h b f = rw (e, there, ← g, h, ← f)

-- ---- the line that is made

module _ (kind : Kind) (r : Record) (m : List ℕ) (used : ℕ) (n : makes_new kind ≡ true) where
  pub made_none : line_with (new_key kind r) (used_lines m used) ≡ None → (b : Bool) → leb (line_limit (length m)) used ≡ b
      → answer_of (cond b 12 0) ≡ answer_of (made_by (ledger_in m used) kind r)
  unfolding made_by
  made_none e b f = rw (e, n, lines_full m used, f)

  pub made_found : (i : ℕ) → line_with (new_key kind r) (used_lines m used) ≡ Some i → answer_of 11 ≡ answer_of (made_by (ledger_in m used) kind r)
  unfolding made_by
  made_found i e = rw (e, n)

  pub made_there : (f : Option ℕ) → line_with (new_key kind r) (used_lines m used) ≡ f → is_some f ≡ true
      → answer_of 11 ≡ answer_of (made_by (ledger_in m used) kind r)
  made_there None e t = absurd (true≢false (sym t))
  made_there (Some i) e t = made_found i e

-- ---- from what is named to what is made

module _ (l : Ledger) (kind : Kind) (r : Record) (v : Verdict) (e : v ≡ named_by l r) where
  pub refused_there : (number_of v.answer ≡ 0 → ⊥) → v ≡ then_made l kind r (named_by l r)
  refused_there h = sym (rw (← e, ne_eqb _ _ h))

  pub done_there : number_of v.answer ≡ 0 → (a : Answer) → a ≡ answer_of (made_by l kind r)
      → record { answer = a; row = 0; line = v.line } ≡ then_made l kind r (named_by l r)
  done_there h a f = rw (← e, eq-eqb _ _ h, f)

-- ---- whether it is due

module _ (b : Basis) (kind : Kind) (r : Record) where
  pub due_not : due b.phase kind r.event ≡ false → due_by b kind r ≡ plainly (answer_of 6)
  unfolding due_by
  due_not d =
      ap (λ (t : Bool). cond t (cond (is_event kind) (plainly (answer_of 0)) (listed_by b.sheet b.ledger kind r))
      (plainly (answer_of 6))) d

  pub due_event : due b.phase kind r.event ≡ true → is_event kind ≡ true → due_by b kind r ≡ plainly (answer_of 0)
  unfolding due_by
  due_event d e =
      ap (λ (t : Bool). cond t (cond (is_event kind) (plainly (answer_of 0)) (listed_by b.sheet b.ledger kind r))
      (plainly (answer_of 6))) d
      ∙ ap (λ (t : Bool). cond t (plainly (answer_of 0)) (listed_by b.sheet b.ledger kind r)) e

  pub due_listed : due b.phase kind r.event ≡ true → is_event kind ≡ false → due_by b kind r ≡ listed_by b.sheet b.ledger kind r
  unfolding due_by
  due_listed d e =
      ap (λ (t : Bool). cond t (cond (is_event kind) (plainly (answer_of 0)) (listed_by b.sheet b.ledger kind r))
      (plainly (answer_of 6))) d
      ∙ ap (λ (t : Bool). cond t (plainly (answer_of 0)) (listed_by b.sheet b.ledger kind r)) e

-- ---- what was read

module _ (b : Basis) (kind : Kind) (q : Result Record Refusal) where
  -- a message that was not read is refused by what refused it
  pub not_read : (f : Refusal) → q ≡ Err f → plainly (Err f) ≡ judged_by b kind (reading_of q)
  unfolding judged_by
  not_read f e = rw (e, refused_number f)

  pub was_read : (r : Record) → q ≡ Ok r → (v : Verdict) → v ≡ due_by b kind r → v ≡ judged_by b kind (reading_of q)
  unfolding judged_by
  was_read r e v h = rw (e, h)
