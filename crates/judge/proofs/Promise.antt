-- Each public function's contract leaves one possible answer. `Learnt` is that contract as the compiler hands it to a
-- caller.
-- Assumes nothing.
use mathlib.Core.Path.{◌≡◌, refl, sym, ◌∙◌}
use mathlib.Core.Bool.{Bool}
use contract.Lifetimes.{Lfts}
use borrow.Fn.World.{ArgsD}
use borrow.Fn.Kinds.{ended_of}
use denote.Triple.Clauses.{AtExit}
use Rattle.records.specs.Packed.{record_of}
use Rattle.formats.specs.Formats.{layout_of}
use Rattle.judge.specs.Judged.{kept_in, lawful_in}
use Rattle.judge.specs.contracts.kept as kept
use Rattle.judge.proofs.kept.Reads as kept-reads
use Rattle.judge.proofs.kept.Kinds as kept-kinds
use Rattle.judge.specs.contracts.lawful as lawful
use Rattle.judge.proofs.lawful.Reads as lawful-reads
use Rattle.judge.proofs.lawful.Kinds as lawful-kinds

module _ (κs : Lfts 1) (a : ArgsD kept.signature κs) where
  pub kept_one : (r r' : Bool) (s s' : AtExit (ended_of 1 kept-kinds.ps kept-kinds.r) κs) → kept-reads.Learnt κs a r s
      → kept-reads.Learnt κs a r' s' → r ≡ r'
  kept_one r r' s s' h h' = h ∙ sym h'

  -- what a caller is told, and nothing else
  pub kept_says : (r : Bool) (s : AtExit (ended_of 1 kept-kinds.ps kept-kinds.r) κs)
      → kept-reads.Learnt κs a r s ≡ (r ≡ kept_in (layout_of a.0 a.1.1.0) (record_of a.1.0.now))
  kept_says r s = refl

module _ (κs : Lfts 1) (a : ArgsD lawful.signature κs) where
  pub lawful_one : (r r' : Bool) (s s' : AtExit (ended_of 1 lawful-kinds.ps lawful-kinds.r) κs) → lawful-reads.Learnt κs a r s
      → lawful-reads.Learnt κs a r' s' → r ≡ r'
  lawful_one r r' s s' h h' = h ∙ sym h'

  -- what a caller is told, and nothing else
  pub lawful_says : (r : Bool) (s : AtExit (ended_of 1 lawful-kinds.ps lawful-kinds.r) κs)
      → lawful-reads.Learnt κs a r s ≡ (r ≡ lawful_in (layout_of a.0 a.1.1.0) (record_of a.1.0.now))
  lawful_says r s = refl
