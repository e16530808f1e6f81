-- Each public function's contract leaves one possible answer. `Learnt` is that contract as the compiler hands it to a caller.
-- Assumes nothing.
use mathlib.Core.Path.{◌≡◌, sym, ◌∙◌}
use mathlib.Core.Bool.{Bool}
use Prim.Native.Nat.{ℕ}
use Rattle.kinds.specs.declared.Kind.{Kind}
use Rattle.phases.proofs.phase_of.Reads as phase-of-reads
use Rattle.phases.proofs.is_due.Reads as is-due-reads

pub phase_of_one : (e e₁ e₂ : ℕ) (p p' : ℕ) → phase-of-reads.Learnt tt (e, tt) p (e₁, tt)
    → phase-of-reads.Learnt tt (e, tt) p' (e₂, tt) → p ≡ p'
phase_of_one e e₁ e₂ p p' h h' = h ∙ sym h'

pub is_due_one : (p p₁ p₂ : ℕ) (k k₁ k₂ : Kind) (e e₁ e₂ : ℕ) (b b' : Bool)
    → is-due-reads.Learnt tt (p, (k, (e, tt))) b (p₁, (k₁, (e₁, tt)))
    → is-due-reads.Learnt tt (p, (k, (e, tt))) b' (p₂, (k₂, (e₂, tt))) → b ≡ b'
is_due_one p p₁ p₂ k k₁ k₂ e e₁ e₂ b b' h h' = h ∙ sym h'
