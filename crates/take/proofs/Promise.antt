-- Each public function's contract leaves one possible content for each lent byte. `Learnt` is that contract as the compiler hands it to a
-- caller: of the arguments, of the result, and of the arguments again as the call returns.
-- Assumes nothing.
use mathlib.Core.Path.{◌≡◌, sym, ◌∙◌}
use contract.Lifetimes.{Lfts}
use borrow.Fn.World.{ArgsD}
use borrow.Fn.Kinds.{ended_of}
use denote.Triple.Clauses.{AtExit}
use Rattle.take.specs.contracts.take_lines as take-lines
use Rattle.take.proofs.take_lines.Reads as take-lines-reads
use Rattle.take.proofs.take_lines.Kinds as take-lines-kinds
use Rattle.take.specs.contracts.take_rows as take-rows
use Rattle.take.proofs.take_rows.Reads as take-rows-reads
use Rattle.take.proofs.take_rows.Kinds as take-rows-kinds

module _ (κs : Lfts 1) (a : ArgsD take-lines.signature κs) where
  pub take_lines_one : (r r' : Unit) (s s' : AtExit (ended_of 1 take-lines-kinds.ps take-lines-kinds.r) κs)
      → take-lines-reads.Learnt κs a r s → take-lines-reads.Learnt κs a r' s' → s.0.now ≡ s'.0.now
  take_lines_one r r' s s' h h' = h ∙ sym h'

module _ (κs : Lfts 1) (a : ArgsD take-rows.signature κs) where
  pub take_rows_one : (r r' : Unit) (s s' : AtExit (ended_of 1 take-rows-kinds.ps take-rows-kinds.r) κs)
      → take-rows-reads.Learnt κs a r s → take-rows-reads.Learnt κs a r' s' → s.0.now ≡ s'.0.now
  take_rows_one r r' s s' h h' = h ∙ sym h'
