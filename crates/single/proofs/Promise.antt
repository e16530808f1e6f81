-- Each public function's contract leaves one possible answer, or one possible content for each lent byte. `Learnt` is
-- that contract as the compiler hands it to a caller: of the arguments, of the result, and of the arguments again as
-- the call returns.
-- Assumes nothing.
use mathlib.Core.Path.{◌≡◌, sym, ◌∙◌}
use Prim.Native.Nat.{ℕ}
use contract.Lifetimes.{Lfts}
use borrow.Fn.World.{ArgsD}
use borrow.Fn.Kinds.{ended_of}
use denote.Triple.Clauses.{AtExit}
use Rattle.single.specs.contracts.byte as byte
use Rattle.single.proofs.byte.Reads as byte-Reads
use Rattle.single.proofs.byte.Kinds as byte-kinds
use Rattle.single.specs.contracts.put_byte as put_byte
use Rattle.single.proofs.put_byte.Reads as put-byte-reads
use Rattle.single.proofs.put_byte.Kinds as put-byte-kinds
use Rattle.single.specs.contracts.byte_past as byte_past
use Rattle.single.proofs.byte_past.Reads as byte-past-reads
use Rattle.single.proofs.byte_past.Kinds as byte-past-kinds
use Rattle.single.specs.contracts.put_past as put-past
use Rattle.single.proofs.put_past.Reads as put-past-reads
use Rattle.single.proofs.put_past.Kinds as put-past-kinds
use Rattle.single.specs.contracts.left as left
use Rattle.single.proofs.left.Reads as left-reads
use Rattle.single.proofs.left.Kinds as left-kinds

pub byte_one : (κs : Lfts 1) (a : ArgsD byte.signature κs) (r r' : ℕ) (s s' : AtExit (ended_of 1 byte-kinds.ps byte-kinds.r) κs)
    → byte-Reads.Learnt κs a r s → byte-Reads.Learnt κs a r' s' → r ≡ r'
byte_one κs a r r' s s' h h' = h ∙ sym h'

pub put_byte_one : (κs : Lfts 1) (a : ArgsD put_byte.signature κs) (r r' : Unit)
    (s s' : AtExit (ended_of 1 put-byte-kinds.ps put-byte-kinds.r) κs)
    → put-byte-reads.Learnt κs a r s → put-byte-reads.Learnt κs a r' s' → s.0.now ≡ s'.0.now
put_byte_one κs a r r' s s' h h' = h ∙ sym h'

pub byte_past_one : (κs : Lfts 1) (a : ArgsD byte_past.signature κs) (r r' : ℕ)
    (s s' : AtExit (ended_of 1 byte-past-kinds.ps byte-past-kinds.r) κs)
    → byte-past-reads.Learnt κs a r s → byte-past-reads.Learnt κs a r' s' → r ≡ r'
byte_past_one κs a r r' s s' h h' = h ∙ sym h'

pub put_past_one : (κs : Lfts 1) (a : ArgsD put-past.signature κs) (r r' : Unit)
    (s s' : AtExit (ended_of 1 put-past-kinds.ps put-past-kinds.r) κs)
    → put-past-reads.Learnt κs a r s → put-past-reads.Learnt κs a r' s' → s.0.now ≡ s'.0.now
put_past_one κs a r r' s s' h h' = h ∙ sym h'

pub left_one : (κs : Lfts 0) (a : ArgsD left.signature κs) (r r' : ℕ) (s s' : AtExit (ended_of 0 left-kinds.ps left-kinds.r) κs)
    → left-reads.Learnt κs a r s → left-reads.Learnt κs a r' s' → r ≡ r'
left_one κs a r r' s s' h h' = h ∙ sym h'
