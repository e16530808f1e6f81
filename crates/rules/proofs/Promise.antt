-- Each rule's contract leaves one answer. `Learnt` is such a contract as the compiler hands it to a caller: of the arguments, of the
-- result, and of the arguments again as the call returns.
-- Assumes nothing.
use mathlib.Core.Path.{◌≡◌, sym, ◌∙◌}
use mathlib.Core.Bool.{Bool}
use Prim.Native.Nat.{ℕ}
use Rattle.editions.specs.declared.Edition.{Edition}
use Rattle.rules.proofs.time_ok.Reads as time-ok
use Rattle.rules.proofs.event_ok.Reads as event-ok
use Rattle.rules.proofs.centre_ok.Reads as centre-ok
use Rattle.rules.proofs.class_ok.Reads as class-ok
use Rattle.rules.proofs.price_ok.Reads as price-ok
use Rattle.rules.proofs.summary_price_ok.Reads as summary-price-ok
use Rattle.rules.proofs.size_ok.Reads as Size-ok
use Rattle.rules.proofs.condition_ok.Reads as condition-ok

module _ (x x₁ x₂ : ℕ) (r r' : Bool) where
  pub time_ok_one : time-ok.Learnt tt (x, tt) r (x₁, tt) → time-ok.Learnt tt (x, tt) r' (x₂, tt) → r ≡ r'
  time_ok_one h h' = h ∙ sym h'

  pub event_ok_one : event-ok.Learnt tt (x, tt) r (x₁, tt) → event-ok.Learnt tt (x, tt) r' (x₂, tt) → r ≡ r'
  event_ok_one h h' = h ∙ sym h'

  pub price_ok_one : price-ok.Learnt tt (x, tt) r (x₁, tt) → price-ok.Learnt tt (x, tt) r' (x₂, tt) → r ≡ r'
  price_ok_one h h' = h ∙ sym h'

  pub summary_price_ok_one : summary-price-ok.Learnt tt (x, tt) r (x₁, tt) → summary-price-ok.Learnt tt (x, tt) r' (x₂, tt) → r ≡ r'
  summary_price_ok_one h h' = h ∙ sym h'

-- those that go by the edition
module _ (e e₁ e₂ : Edition) (x x₁ x₂ : ℕ) (r r' : Bool) where
  pub centre_ok_one : centre-ok.Learnt tt (e, (x, tt)) r (e₁, (x₁, tt)) → centre-ok.Learnt tt (e, (x, tt)) r' (e₂, (x₂, tt)) → r ≡ r'
  centre_ok_one h h' = h ∙ sym h'

  pub class_ok_one : class-ok.Learnt tt (e, (x, tt)) r (e₁, (x₁, tt)) → class-ok.Learnt tt (e, (x, tt)) r' (e₂, (x₂, tt)) → r ≡ r'
  class_ok_one h h' = h ∙ sym h'

  pub size_ok_one : Size-ok.Learnt tt (e, (x, tt)) r (e₁, (x₁, tt)) → Size-ok.Learnt tt (e, (x, tt)) r' (e₂, (x₂, tt)) → r ≡ r'
  size_ok_one h h' = h ∙ sym h'

module _ (a b c d a₁ b₁ c₁ d₁ a₂ b₂ c₂ d₂ : ℕ) (r r' : Bool) where
  pub condition_ok_one : condition-ok.Learnt tt (a, (b, (c, (d, tt)))) r (a₁, (b₁, (c₁, (d₁, tt))))
      → condition-ok.Learnt tt (a, (b, (c, (d, tt)))) r' (a₂, (b₂, (c₂, (d₂, tt)))) → r ≡ r'
  condition_ok_one h h' = h ∙ sym h'
