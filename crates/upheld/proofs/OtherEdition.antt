-- A book refuses the messages of another edition with 4, and their number is used up.
-- Assumes nothing.
use mathlib.Core.Path.{◌≡◌, ap, sym, ◌∙◌}
use mathlib.Core.Bool.{true}
use Prim.Native.Nat.{ℕ, ◌≤◌}
use native.Mathlib.Omega.{arith}
use borrow.Author.Tests.{eq-eqb}
use lib.Dec.{eqb}
use lib.ListN.{length}
use Rattle.answers.specs.Answers.{number_of}
use Rattle.answers.specs.Cases.{Case, given}
use Rattle.answers.proofs.Cases.{picked, picked_is}
use Rattle.editions.specs.declared.Edition.{Edition}
use Rattle.counters.specs.Counting.{last_number}
use Rattle.sound.proofs.Sound.{sound_gives}
use Rattle.message.specs.Reader.{Reading}
use Rattle.message.specs.Obeying.{Obeys}
use Rattle.layouts.proofs.Apart.{others_refused}
use Rattle.table.specs.Table.{Basis, content_table}
use Rattle.table.proofs.Tables.{Wanted}
use Rattle.book.specs.State.{State, Arrival, edition_of, wanted_in, basis_of, sound_in}
use Rattle.book.specs.Calls.{reading_in, content_cases, message_given, spent, delivered}
use Rattle.book.proofs.Demand1.{answer_content, refused_keeps}

-- what is read with 4 is answered 4
four_given : (b : Basis) (q : Reading) → number_of q.answer ≡ 4 → (given (content_table b q)).number ≡ 4
unfolding content_table
four_given b q e = picked_is (content_table b q) ∙ rw (eq-eqb (number_of q.answer) 4 e)

-- a message that obeys one edition, delivered under the wanted number to a sound book of another
pub other_edition_refused : (s : State) (a : Arrival) (d : Edition) → sound_in s ≡ true → a.number ≡ wanted_in s → a.number ≤ last_number
    → (d ≡ edition_of s → ⊥) → Obeys d a.message → ((delivered s a).answer ≡ 4) × ((delivered s a).state ≡ spent s)
unfolding delivered
other_edition_refused s a d sound wanted most other obeys =
    let first = (sound_gives s.counters (length s.rows) (length s.lines) sound).least in
    let w : Wanted (sound_in s) (wanted_in s) a.number =
    record { sound = sound; wanted = wanted; least = omega (arith, wanted, first); greatest = most } in
    let q = others_refused d (edition_of s) a.message other obeys in
    let four : (delivered s a).answer ≡ 4 =
    ap (λ (c : Case). c.number) (answer_content s a w) ∙ four_given (basis_of s) (reading_in s a.message) q in
    (four, (refused_keeps s).used a sound wanted most (λ z. omega (arith, four, z)))
