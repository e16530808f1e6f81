-- Each public function's contract leaves one possible content for the bytes that it stores to. `Learnt` is that contract
-- as the compiler hands it to a caller.
-- Assumes nothing.
use mathlib.Core.Path.{◌≡◌, sym, ◌∙◌}
use contract.Lifetimes.{Lfts}
use borrow.Fn.World.{ArgsD}
use borrow.Fn.Kinds.{ended_of}
use denote.Triple.Clauses.{AtExit}
use Rattle.copies.specs.contracts.copy_byte as copy-byte
use Rattle.copies.proofs.copy_byte.Reads as copy-byte-reads
use Rattle.copies.proofs.copy_byte.Kinds as copy-byte-kinds
use Rattle.copies.specs.contracts.copy_four as copy-four
use Rattle.copies.proofs.copy_four.Reads as copy-four-reads
use Rattle.copies.proofs.copy_four.Kinds as copy-four-kinds
use Rattle.copies.specs.contracts.copy_run as copy_run
use Rattle.copies.proofs.copy_run.Reads as copy-run-reads
use Rattle.copies.proofs.copy_run.Kinds as copy-run-kinds

pub copy_byte_one : (κs : Lfts 2) (a : ArgsD copy-byte.signature κs) (r r' : Unit)
    (s s' : AtExit (ended_of 2 copy-byte-kinds.ps copy-byte-kinds.r) κs)
    → copy-byte-reads.Learnt κs a r s → copy-byte-reads.Learnt κs a r' s' → s.0.now ≡ s'.0.now
copy_byte_one κs a r r' s s' h h' = h ∙ sym h'

pub copy_four_one : (κs : Lfts 2) (a : ArgsD copy-four.signature κs) (r r' : Unit)
    (s s' : AtExit (ended_of 2 copy-four-kinds.ps copy-four-kinds.r) κs)
    → copy-four-reads.Learnt κs a r s → copy-four-reads.Learnt κs a r' s' → s.0.now ≡ s'.0.now
copy_four_one κs a r r' s s' h h' = h ∙ sym h'

pub copy_run_one : (κs : Lfts 2) (a : ArgsD copy_run.signature κs) (r r' : Unit)
    (s s' : AtExit (ended_of 2 copy-run-kinds.ps copy-run-kinds.r) κs)
    → copy-run-reads.Learnt κs a r s → copy-run-reads.Learnt κs a r' s' → s.0.now ≡ s'.0.now
copy_run_one κs a r r' s s' h h' = h ∙ sym h'
