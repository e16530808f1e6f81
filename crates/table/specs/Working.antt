-- How the program works the table: branch by branch, each test once, keeping what acting on it needs.
-- `proofs/Tables` shows that this is the table.
-- Assumes nothing.
use Rattle.std.specs.Prelude.{ℕ, List, Bool, cond, eqb, leb, length, get_or, None, Option, Some}
use Rattle.answers.specs.Answers.{Answer, number_of, answer_of}
use Rattle.records.specs.declared.Record.{Record}
use Rattle.message.specs.Reader.{Reading}
use Rattle.kinds.specs.declared.Kind.{Kind}
use Rattle.kinds.specs.Kinds.{is_event, names_old, makes_new}
use Rattle.lines.specs.declared.Line.{Line}
use Rattle.lines.specs.Lines.{no_line}
use Rattle.rows.specs.declared.Listing.{Listing}
use Rattle.rows.specs.Rows.{listing_of}
use Rattle.phases.specs.Phases.{due}
use Rattle.keys.specs.Keys.{old_key, new_key, matches}
use Rattle.table.specs.declared.Verdict.{Verdict}
use Rattle.table.specs.Table.{Ledger, Basis}

-- an answer that needs no row and no line
abbrev pub plainly : Answer → Verdict
plainly a = record { answer = a; row = 0; line = 0 }

abbrev pub naming : ℕ → Verdict
naming i = record { answer = answer_of 0; row = 0; line = i }

-- ---- 8, 9, 10, or the line that is named

abbrev pub named_at : Record → List Line → Option ℕ → Verdict
named_at r ls None = plainly (answer_of 8)
named_at r ls (Some i) =
    cond (get_or ls i no_line).live (cond (matches r (get_or ls i no_line)) (naming i) (plainly (answer_of 10))) (plainly (answer_of 9))

unfoldable pub named_by : Ledger → Record → Verdict
named_by l r = named_at r l.lines (l.search (old_key r))

-- ---- 11, 12 or 0

abbrev pub made_at : Bool → Option ℕ → ℕ
made_at full None = cond full 12 0
made_at full (Some i) = 11

unfoldable pub made_by : Ledger → Kind → Record → ℕ
made_by l kind r = cond (makes_new kind) (made_at (leb l.limit (length l.lines)) (l.search (new_key kind r))) 0

-- ---- 8 to 12 or 0

abbrev pub then_made : Ledger → Kind → Record → Verdict → Verdict
then_made l kind r v =
    cond (eqb (number_of v.answer) 0) (record { answer = answer_of (made_by l kind r); row = 0; line = v.line }) v

unfoldable pub trade_by : Ledger → Kind → Record → Verdict
trade_by l kind r = cond (names_old kind) (then_made l kind r (named_by l r)) (plainly (answer_of (made_by l kind r)))

-- ---- 7 to 12 or 0

abbrev pub on_row : ℕ → Verdict → Verdict
on_row i v = record { answer = v.answer; row = i; line = v.line }

abbrev pub listed_at : Ledger → Kind → Record → Option ℕ → Verdict
listed_at l kind r None = plainly (answer_of 7)
listed_at l kind r (Some i) = on_row i (trade_by l kind r)

unfoldable pub listed_by : List Listing → Ledger → Kind → Record → Verdict
listed_by sheet l kind r = listed_at l kind r (listing_of r.symbol sheet)

-- ---- 6 to 12 or 0

unfoldable pub due_by : Basis → Kind → Record → Verdict
due_by b kind r =
    cond (due b.phase kind r.event) (cond (is_event kind) (plainly (answer_of 0)) (listed_by b.sheet b.ledger kind r))
    (plainly (answer_of 6))

-- ---- 4 to 12 or 0

unfoldable pub judged_by : Basis → Kind → Reading → Verdict
judged_by b kind q = cond (eqb (number_of q.answer) 0) (due_by b kind q.found) (plainly q.answer)
