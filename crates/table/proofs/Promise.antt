-- Each public function's contract leaves one possible answer. `Learnt` is that contract as the compiler hands it to a
-- caller: of the arguments, of the result, and of the arguments again as the call returns.
-- Assumes nothing.
use mathlib.Core.Path.{◌≡◌, sym, ◌∙◌}
use Prim.Native.Nat.{ℕ}
use Rattle.answers.specs.Answers.{Answer}
use Rattle.table.specs.declared.Verdict.{Verdict}
use contract.Lifetimes.{Lfts}
use borrow.Fn.World.{ArgsD}
use borrow.Fn.Kinds.{ended_of}
use denote.Triple.Clauses.{AtExit}
use Rattle.table.proofs.judge_number.Reads as judge-number-reads
use Rattle.table.specs.contracts.judge as judge
use Rattle.table.proofs.judge.Reads as judge-reads
use Rattle.table.proofs.judge.Kinds as judge-kinds

module _ (κs : Lfts (judge.signature).lifetimes) (a : ArgsD judge.signature κs) where
  pub judge_one : (r r' : Verdict) (s s' : AtExit (ended_of (judge.signature).lifetimes judge-kinds.ps judge-kinds.r) κs)
      → judge-reads.Learnt κs a r s → judge-reads.Learnt κs a r' s' → r ≡ r'
  judge_one r r' s s' h h' = h ∙ sym h'

pub judge_number_one : (w n w₁ n₁ w₂ n₂ : ℕ) (a a' : Answer)
    → judge-number-reads.Learnt tt (w, (n, tt)) a (w₁, (n₁, tt)) → judge-number-reads.Learnt tt (w, (n, tt)) a' (w₂, (n₂, tt)) → a ≡ a'
judge_number_one w n w₁ n₁ w₂ n₂ a a' h h' = h ∙ sym h'
