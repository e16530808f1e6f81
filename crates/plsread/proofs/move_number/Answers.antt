-- `plsread::move_number` meets its contract.
-- Assumes nothing.
use mathlib.Core.Path.{◌≡◌, ap, ◌∙◌}
use mathlib.Core.Bool.{false}
use Prim.Native.Nat.{ℕ, ◌+◌}
use native.Mathlib.Omega.{arith}
use lib.Dec.{ltb}
use lib.Seq.{sets}
use borrow.Author.Rules.{rules}
use Rattle.std.specs.Prelude.{MatchOption, Option, unwrap_or}
use Rattle.octets.proofs.Trips.{lent}
use Rattle.numbers.specs.Number.{digits}
use Rattle.plsread.specs.Moved.{number_of}
use Rattle.plsread.proofs.Laid.{low_four}
use Rattle.plsread.proofs.Spelt.{value_told, room_told}
use Rattle.plsread.proofs.move_number.Goals as goal

pub returns-clause-bytes : goal.returns-clause-bytes
returns-clause-bytes c = let a = c.args in
    let said = c.read_number-n.ensures
    ∙ ap (number_of a.least) (lent a.m.now a.at (a.at + a.width) a.width (omega arith) (omega arith)) in
    let value = c.unwrap_or.ensures ∙ ap (λ (o : Option ℕ). unwrap_or o 0) said ∙ value_told a.least _ in
    c.put.ensures ∙ ap (sets a.b.now a.to) (low_four c.unwrap_or.result ∙ ap (digits 4) value)

pub returns-clause-ready : goal.returns-clause-ready
returns-clause-ready c = let a = c.args in
    let said = c.read_number-n.ensures
    ∙ ap (number_of a.least) (lent a.m.now a.at (a.at + a.width) a.width (omega arith) (omega arith)) in
    let r = c.is_some_and.result in
    let held : MatchOption c.read_number-n.result (r ≡ false) (λ x. r ≡ ltb x 4294967296) = search rules in
    room_told a.least _ r (rw said at held)
