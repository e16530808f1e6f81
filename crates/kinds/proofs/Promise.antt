-- The contract leaves one possible answer; and each type has its own letter.
-- Assumes nothing.
use mathlib.Core.Bool.{Bool}
use mathlib.Core.Path.{◌≡◌, refl, sym, ◌∙◌}
use Prim.Native.Nat.{ℕ}
use Rattle.kinds.specs.declared.Kind.{Kind}
use Rattle.kinds.specs.declared.Traits.{Traits}
use Rattle.kinds.specs.declared.Kind.TheVariants.{Event, Trade, Cancel, Correction, Summary, Other}
use Rattle.kinds.specs.Kinds.{letter_of, kind_of}
use Rattle.kinds.proofs.KindFromU8.from.Reads as kind-of-reads
use Rattle.kinds.proofs.kind_at.Reads as kind-at-reads
use Rattle.kinds.proofs.traits_of.Reads as traits-of-reads
use Rattle.kinds.proofs.is_event.Reads as is-event-reads
use Rattle.kinds.proofs.is_correction.Reads as is-correction-reads
use Rattle.kinds.proofs.is_summary.Reads as is-summary-reads
use Rattle.kinds.proofs.names_old.Reads as names-old-reads
use Rattle.kinds.proofs.makes_new.Reads as makes-new-reads
use Rattle.kinds.proofs.sets_volume.Reads as sets-volume-reads

pub kind_of_one : (letter letter₁ letter₂ : ℕ) (k k' : Kind)
    → kind-of-reads.Learnt tt (letter, tt) k (letter₁, tt) → kind-of-reads.Learnt tt (letter, tt) k' (letter₂, tt) → k ≡ k'
kind_of_one letter letter₁ letter₂ k k' h h' = h ∙ sym h'

pub kind_at_one : (place place₁ place₂ : ℕ) (k k' : Kind)
    → kind-at-reads.Learnt tt (place, tt) k (place₁, tt) → kind-at-reads.Learnt tt (place, tt) k' (place₂, tt) → k ≡ k'
kind_at_one place place₁ place₂ k k' h h' = h ∙ sym h'

-- a type is found again by its letter, so no two share one
pub kind_again : (k : Kind) → kind_of (letter_of k) ≡ k
unfolding kind_of
kind_again Event = refl
kind_again Trade = refl
kind_again Cancel = refl
kind_again Correction = refl
kind_again Summary = refl
kind_again Other = refl

pub traits_of_one : (kind kind₁ kind₂ : Kind) (t t' : Traits)
    → traits-of-reads.Learnt tt (kind, tt) t (kind₁, tt) → traits-of-reads.Learnt tt (kind, tt) t' (kind₂, tt) → t ≡ t'
traits_of_one kind kind₁ kind₂ t t' h h' = h ∙ sym h'

module _ (kind kind₁ kind₂ : Kind) (b b' : Bool) where
  pub is_event_one : is-event-reads.Learnt tt (kind, tt) b (kind₁, tt) → is-event-reads.Learnt tt (kind, tt) b' (kind₂, tt) → b ≡ b'
  is_event_one h h' = h ∙ sym h'

  pub names_old_one : names-old-reads.Learnt tt (kind, tt) b (kind₁, tt) → names-old-reads.Learnt tt (kind, tt) b' (kind₂, tt) → b ≡ b'
  names_old_one h h' = h ∙ sym h'

  pub makes_new_one : makes-new-reads.Learnt tt (kind, tt) b (kind₁, tt) → makes-new-reads.Learnt tt (kind, tt) b' (kind₂, tt) → b ≡ b'
  makes_new_one h h' = h ∙ sym h'

  pub is_correction_one : is-correction-reads.Learnt tt (kind, tt) b (kind₁, tt)
      → is-correction-reads.Learnt tt (kind, tt) b' (kind₂, tt) → b ≡ b'
  is_correction_one h h' = h ∙ sym h'

  pub is_summary_one : is-summary-reads.Learnt tt (kind, tt) b (kind₁, tt) → is-summary-reads.Learnt tt (kind, tt) b' (kind₂, tt) → b ≡ b'
  is_summary_one h h' = h ∙ sym h'

  pub sets_volume_one : sets-volume-reads.Learnt tt (kind, tt) b (kind₁, tt)
      → sets-volume-reads.Learnt tt (kind, tt) b' (kind₂, tt) → b ≡ b'
  sets_volume_one h h' = h ∙ sym h'
