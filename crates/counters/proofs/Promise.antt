-- Each public function's contract leaves one possible answer. `Learnt` is that contract as the compiler hands it to a caller.
-- Assumes nothing.
use mathlib.Core.Path.{◌≡◌, sym, ◌∙◌}
use Prim.Native.Nat.{ℕ}
use Rattle.editions.specs.declared.Edition.{Edition}
use Rattle.kinds.specs.declared.Kind.{Kind}
use Rattle.counters.specs.declared.Counters.{Counters}
use Rattle.counters.proofs.fresh.Reads as fresh-reads
use Rattle.counters.proofs.Counters.use_up.Reads as use-up-reads
use Rattle.counters.proofs.Counters.advance.Reads as advance-reads
use Rattle.counters.proofs.Counters.count_taken.Reads as count-taken-reads
use Rattle.counters.proofs.Counters.add_row.Reads as add-row-reads
use Rattle.counters.proofs.Counters.add_line.Reads as add-line-reads
use Rattle.counters.proofs.Counters.take.Reads as take-reads

pub fresh_one : (e e₁ e₂ : Edition) (r r' : Counters)
    → fresh-reads.Learnt tt (e, tt) r (e₁, tt) → fresh-reads.Learnt tt (e, tt) r' (e₂, tt) → r ≡ r'
fresh_one e e₁ e₂ r r' h h' = h ∙ sym h'

module _ (c c₁ c₂ : Counters) (r r' : Counters) where
  pub use_up_one : use-up-reads.Learnt tt (c, tt) r (c₁, tt) → use-up-reads.Learnt tt (c, tt) r' (c₂, tt) → r ≡ r'
  use_up_one h h' = h ∙ sym h'

  pub count_taken_one : count-taken-reads.Learnt tt (c, tt) r (c₁, tt) → count-taken-reads.Learnt tt (c, tt) r' (c₂, tt) → r ≡ r'
  count_taken_one h h' = h ∙ sym h'

  pub add_row_one : add-row-reads.Learnt tt (c, tt) r (c₁, tt) → add-row-reads.Learnt tt (c, tt) r' (c₂, tt) → r ≡ r'
  add_row_one h h' = h ∙ sym h'

  pub add_line_one : add-line-reads.Learnt tt (c, tt) r (c₁, tt) → add-line-reads.Learnt tt (c, tt) r' (c₂, tt) → r ≡ r'
  add_line_one h h' = h ∙ sym h'

  pub advance_one : (p p₁ p₂ : ℕ) → advance-reads.Learnt tt (c, (p, tt)) r (c₁, (p₁, tt))
      → advance-reads.Learnt tt (c, (p, tt)) r' (c₂, (p₂, tt)) → r ≡ r'
  advance_one p p₁ p₂ h h' = h ∙ sym h'

  pub take_one : (k k₁ k₂ : Kind) (e e₁ e₂ : ℕ)
      → take-reads.Learnt tt (c, (k, (e, tt))) r (c₁, (k₁, (e₁, tt)))
      → take-reads.Learnt tt (c, (k, (e, tt))) r' (c₂, (k₂, (e₂, tt))) → r ≡ r'
  take_one k k₁ k₂ e e₁ e₂ h h' = h ∙ sym h'
