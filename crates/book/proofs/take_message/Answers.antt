-- `book::take_message` meets its contract.
-- Assumes nothing.
use Rattle.std.specs.Prelude.{Result, Ok, Err}
use mathlib.Core.Path.{◌≡◌, refl, ap, sym, ◌∙◌}
use native.Mathlib.Omega.{arith}
use borrow.Author.Rules.{rules}
use lib.ListN.{length}
use Rattle.answers.specs.declared.Refusal.{Refusal}
use Rattle.answers.specs.Answers.{Answer, number_of}
use Rattle.answers.proofs.Promise.{never_refused}
use Rattle.counters.specs.declared.Counters.{Counters}
use Rattle.counters.specs.Counting.{used_up}
use Rattle.message.specs.Reader.{Reading, reading_of}
use Rattle.keys.specs.Keys.{kind_in}
use Rattle.sound.specs.Sound.{sound}
use Rattle.table.proofs.Tables.{number_wanted}
use Rattle.book.specs.State.{State, Outcome, lent, leaving}
use Rattle.book.specs.Calls.{used_told}
use Rattle.book.proofs.Steps.{refused_here, taken_here_lem}
use Rattle.book.proofs.take_message.Goals as goal

pub returns-in_err-verdict : goal.returns-in_err-verdict
returns-in_err-verdict c =
    let a = c.args in
    let from : State = lent a.c a.rows.now a.lines.now in
    let given : c.from_residual.result ≡ Err c.in_err-verdict.field-0.0 = search rules in
    let kind : c.from-kind.result ≡ kind_in (reading_of c.read-q.result).found = c.from-kind.ensures ∙ ap kind_in c.found-r.ensures in
    let was : c.judge-verdict.result.answer ≡ Err c.in_err-verdict.field-0.0 = c.in_err-verdict.was in
    let outcome : Answer → Outcome = λ x. record { answer = number_of x; state = lent (used_up a.c) a.rows.now a.lines.now } in
    ap (λ (x : Result Counters Refusal). leaving (used_told a.c x) a.rows.now a.lines.now) given
    ∙ ap outcome (sym was)
    ∙ refused_here from a.message.now ((number_wanted _ _ _).0 c.requires) _ c.read-q.ensures _ kind _
    c.judge-verdict.ensures (λ e. never_refused _ (ap number_of (sym was) ∙ e)) _ refl

pub overflow_cast-c : goal.overflow_cast-c
overflow_cast-c c =
    let a = c.args in
    let safe = sound a.c (length a.rows.now) (length a.lines.now) in
    omega (arith, ((number_wanted safe a.c.wanted a.c.wanted).0 c.requires).greatest)

pub returns : goal.returns
returns c =
    let a = c.args in
    let from : State = lent a.c a.rows.now a.lines.now in
    let kind : c.from-kind.result ≡ kind_in (reading_of c.read-q.result).found = c.from-kind.ensures ∙ ap kind_in c.found-r.ensures in
    let was : (reading_of c.read-q.result).found ≡ c.found-r.result = sym c.found-r.ensures in
    taken_here_lem from a.message.now ((number_wanted _ _ _).0 c.requires) _ c.read-q.ensures _ kind _
    c.judge-verdict.ensures (ap number_of c.in_ok-verdict.was) _ _ _
    (rw was c.take.ensures) (rw was c.take_rows.ensures) (rw was c.take_lines.ensures)
