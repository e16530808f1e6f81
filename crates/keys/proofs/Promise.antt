-- Each public function's contract leaves one possible answer. `Learnt` is that contract as the compiler hands it to a
-- caller: of the arguments, of the result, and of the arguments again as the call returns.
-- Assumes nothing.
use mathlib.Core.Path.{◌≡◌, sym, ◌∙◌}
use Prim.Native.Nat.{ℕ}
use mathlib.Core.Bool.{Bool}
use mathlib.Core.List.{List}
use Rattle.kinds.specs.declared.Kind.{Kind}
use Rattle.records.specs.declared.Record.{Record}
use Rattle.lines.specs.declared.Line.{Line}
use Rattle.keys.proofs.old_key.Reads as old-key-reads
use Rattle.keys.proofs.new_key.Reads as new-key-reads
use Rattle.keys.proofs.is_match.Reads as is-match-reads

module _ (r r₁ r₂ : Record) (k k' : List ℕ) where
  pub old_key_one : old-key-reads.Learnt tt (r, tt) k (r₁, tt) → old-key-reads.Learnt tt (r, tt) k' (r₂, tt) → k ≡ k'
  old_key_one h h' = h ∙ sym h'

  pub new_key_one : (t t₁ t₂ : Kind) → new-key-reads.Learnt tt (t, (r, tt)) k (t₁, (r₁, tt))
      → new-key-reads.Learnt tt (t, (r, tt)) k' (t₂, (r₂, tt)) → k ≡ k'
  new_key_one t t₁ t₂ h h' = h ∙ sym h'

module _ (r r₁ r₂ : Record) (l l₁ l₂ : Line) (b b' : Bool) where
  pub is_match_one : is-match-reads.Learnt tt (r, (l, tt)) b (r₁, (l₁, tt))
      → is-match-reads.Learnt tt (r, (l, tt)) b' (r₂, (l₂, tt)) → b ≡ b'
  is_match_one h h' = h ∙ sym h'
