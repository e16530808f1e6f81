-- The contract of the message of a record leaves one possible answer. `Learnt` is that contract as the compiler hands it to a caller.
-- Assumes nothing.
use mathlib.Core.Path.{◌≡◌, sym, ◌∙◌}
use contract.Lifetimes.{Lfts}
use borrow.Fn.Kinds.{Dens, res_t, ended_of}
use denote.Triple.Clauses.{AtExit}
use mir.Syntax.{w64}
use mir.Val.{Fits}
use Prim.Native.Nat.{ℕ}
use Rattle.sample.proofs.message.Reads as message-reads
use Rattle.sample.proofs.message.Kinds as message-kinds

-- of any number of bytes that a usize holds
pub message_one : (N : ℕ) (F : Fits w64 N) (κs : Lfts 1) (a : Dens κs (message-kinds.ps N F)) (r r' : (res_t (message-kinds.r N F) κs).Denot)
    (s s' : AtExit (ended_of 1 (message-kinds.ps N F) (message-kinds.r N F)) κs)
    → message-reads.Learnt N F κs a r s → message-reads.Learnt N F κs a r' s' → r ≡ r'
message_one N F κs a r r' s s' h h' = h ∙ sym h'
