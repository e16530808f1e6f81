-- Each public function's contract leaves one possible answer, or one possible content for each lent word. `Learnt` is
-- that contract as the compiler hands it to a caller: of the arguments, of the result, and of the arguments again as the
-- call returns.
-- Assumes nothing.
use Rattle.std.specs.Prelude.{Option}
use mathlib.Core.Path.{◌≡◌, refl, sym, ◌∙◌}
use mathlib.Core.List.{List}
use Prim.Native.Nat.{ℕ}
use lib.ListN.{length}
use contract.Lifetimes.{Lfts}
use borrow.Fn.World.{ArgsD}
use borrow.Fn.Kinds.{ended_of}
use denote.Triple.Clauses.{AtExit}
use Rattle.words.specs.Words.{counter_count, counter_words, counters_of, row_words}
use Rattle.words.proofs.counters.Reads as counters-reads
use Rattle.words.specs.contracts.put_counters as put-counters
use Rattle.words.proofs.put_counters.Reads as put-counters-reads
use Rattle.words.proofs.put_counters.Kinds as put-counters-kinds
use Rattle.words.specs.contracts.put_fresh as put-fresh
use Rattle.words.proofs.put_fresh.Reads as put-fresh-reads
use Rattle.words.proofs.put_fresh.Kinds as put-fresh-kinds
use Rattle.words.specs.contracts.put_row as put-row
use Rattle.words.proofs.put_row.Reads as put-row-reads
use Rattle.words.proofs.put_row.Kinds as put-row-kinds
use Rattle.counters.specs.declared.Counters.{Counters}

pub counters_one : (w w₁ w₂ : List ℕ) (r r' : Option Counters) → counters-reads.Learnt tt (w, tt) r (w₁, tt)
    → counters-reads.Learnt tt (w, tt) r' (w₂, tt) → r ≡ r'
counters_one w w₁ w₂ r r' h h' = h.0 ∙ sym h'.0

-- what a caller is told, and nothing else
pub counters_says : (w w₁ : List ℕ) (r : Option Counters)
    → counters-reads.Learnt tt (w, tt) r (w₁, tt) ≡ ((r ≡ counters_of w) × (length w ≡ counter_count))
counters_says w w₁ r = refl

module _ (κs : Lfts 1) (a : ArgsD put-counters.signature κs) where
  pub put_counters_one : (r r' : Unit) (s s' : AtExit (ended_of 1 put-counters-kinds.ps put-counters-kinds.r) κs)
      → put-counters-reads.Learnt κs a r s → put-counters-reads.Learnt κs a r' s' → s.0.now ≡ s'.0.now
  put_counters_one r r' s s' h h' = h ∙ sym h'

  pub put_counters_says : (r : Unit) (s : AtExit (ended_of 1 put-counters-kinds.ps put-counters-kinds.r) κs)
      → put-counters-reads.Learnt κs a r s ≡ (s.0.now ≡ counter_words a.1.0)
  put_counters_says r s = refl

module _ (κs : Lfts 1) (a : ArgsD put-fresh.signature κs) where
  pub put_fresh_one : (r r' : Unit) (s s' : AtExit (ended_of 1 put-fresh-kinds.ps put-fresh-kinds.r) κs)
      → put-fresh-reads.Learnt κs a r s → put-fresh-reads.Learnt κs a r' s' → s.0.now ≡ s'.0.now
  put_fresh_one r r' s s' h h' = h ∙ sym h'

module _ (κs : Lfts 1) (a : ArgsD put-row.signature κs) where
  pub put_row_one : (r r' : Unit) (s s' : AtExit (ended_of 1 put-row-kinds.ps put-row-kinds.r) κs)
      → put-row-reads.Learnt κs a r s → put-row-reads.Learnt κs a r' s' → s.0.now ≡ s'.0.now
  put_row_one r r' s s' h h' = h ∙ sym h'

  pub put_row_says : (r : Unit) (s : AtExit (ended_of 1 put-row-kinds.ps put-row-kinds.r) κs)
      → put-row-reads.Learnt κs a r s ≡ (s.0.now ≡ row_words a.1.0)
  put_row_says r s = refl
