-- Each public function's contract leaves one possible answer and one possible content for each lent byte. `Learnt` is that contract as
-- the compiler hands it to a caller: of the arguments, of the result, and of the arguments again as the call returns.
-- Assumes nothing.
use Rattle.std.specs.Prelude.{Option, ℕ}
use mathlib.Core.Path.{◌≡◌, refl, sym, ◌∙◌}
use mathlib.Core.List.{List}
use Prim.Native.Nat.{ℕ, min}
use lib.ListN.{length}
use lib.Seq.{sets}
use contract.Lifetimes.{Lfts}
use borrow.Fn.World.{ArgsD}
use borrow.Fn.Kinds.{ended_of}
use denote.Triple.Clauses.{AtExit}
use Rattle.book.specs.State.{State, lent}
use Rattle.page.specs.Page.{line_of, wall_of}
use Rattle.page.specs.Printable.{Printable}
use Rattle.page.specs.contracts.ended as ended
use Rattle.page.proofs.ended.Reads as ended-reads
use Rattle.page.proofs.ended.Kinds as ended-kinds
use Rattle.page.specs.contracts.line as line
use Rattle.page.proofs.line.Reads as line_reads_lem
use Rattle.page.proofs.line.Kinds as line-kinds
use Rattle.page.specs.contracts.write as write
use Rattle.page.proofs.write.Reads as write-reads
use Rattle.page.proofs.write.Kinds as write-kinds

module _ (κs : Lfts (line.signature).lifetimes) (a : ArgsD line.signature κs) where
  -- what the call is lent and given
  abbrev pub line_from : State
  line_from = lent a.0 a.1.0.now a.1.1.0.now

  abbrev pub line_text : List ℕ
  line_text = line_of line_from a.1.1.1.0 a.1.1.1.1.0

  abbrev LineExit : Type 0
  LineExit = AtExit (ended_of (line.signature).lifetimes line-kinds.ps line-kinds.r) κs

  pub line_one : (r r' : ℕ) (s s' : LineExit) → line_reads_lem.Learnt κs a r s → line_reads_lem.Learnt κs a r' s'
      → (r ≡ r') × (s.1.1.1.1.1.0.now ≡ s'.1.1.1.1.1.0.now)
  line_one r r' s s' h h' = (h.1 ∙ sym h'.1, h.0 ∙ sym h'.0)

  -- what a caller is told, and nothing else
  pub line_says : (r : ℕ) (s : LineExit)
      → line_reads_lem.Learnt κs a r s
      ≡ ((s.1.1.1.1.1.0.now ≡ sets a.1.1.1.1.1.0.now 0 line_text) × (r ≡ length line_text))
  line_says r s = refl

pub ended_one : (κs : Lfts 0) (a : ArgsD ended.signature κs) (e e' : Option ℕ) (s s' : AtExit (ended_of 0 ended-kinds.ps ended-kinds.r) κs)
    → ended-reads.Learnt κs a e s → ended-reads.Learnt κs a e' s' → e ≡ e'
ended_one κs a e e' s s' h h' = h ∙ sym h'

-- a call of `write`
abbrev pub WriteLfts : Type 0
WriteLfts = Lfts (write.signature).lifetimes

abbrev pub WriteArgs : WriteLfts → Type 0
WriteArgs κs = ArgsD write.signature κs

abbrev pub WriteExit : WriteLfts → Type 0
WriteExit κs = AtExit (ended_of (write.signature).lifetimes write-kinds.ps write-kinds.r) κs

module _ (κs : WriteLfts) (a : WriteArgs κs) where
  -- what it is lent, and what it is told of the tape's end
  abbrev pub write_from : State
  write_from = lent a.0 a.1.0.now a.1.1.0.now

  abbrev pub write_ending : Option ℕ
  write_ending = a.1.1.1.0

  -- the space, before and after
  abbrev pub write_space : List ℕ
  write_space = a.1.1.1.1.0.now

  abbrev pub write_left : WriteExit κs → List ℕ
  write_left s = s.1.1.1.1.0.now

  pub write_one : (r r' : ℕ) (s s' : WriteExit κs) → write-reads.Learnt κs a r s → write-reads.Learnt κs a r' s'
      → (r ≡ r') × (write_left s ≡ write_left s')
  write_one r r' s s' h h' = (h.1.0 ∙ sym h'.1.0, h.0 ∙ sym h'.0)

  -- what a caller is told, and nothing else
  pub write_says : (r : ℕ) (s : WriteExit κs)
      → write-reads.Learnt κs a r s
      ≡ ((write_left s ≡ sets write_space 0 (wall_of write_from write_ending))
      × ((r ≡ min (length (wall_of write_from write_ending)) (length write_space)) × Printable write_from write_ending))
  write_says r s = refl
