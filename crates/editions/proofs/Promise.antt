-- Each contract leaves one possible answer; and an edition is found again by its number.
-- Assumes nothing.
use Rattle.std.specs.Prelude.{None, Option, Some}
use Prim.Native.Nat.{ℕ}
use mathlib.Core.Bool.{Bool, true, false}
use mathlib.Core.List.{List, [], ◌∷◌}
use mathlib.Core.Path.{◌≡◌, refl, ap, sym, ◌∙◌}
use borrow.Author.Tests.{eqb-true}
use lib.Dec.{eqb}
use Rattle.editions.specs.declared.Edition.{Edition}
use Rattle.editions.specs.declared.Edition.TheVariants.{NlsPlus, Pls}
use Rattle.editions.specs.Editions.{edition_number, all_editions, edition_among, edition_named}
use Rattle.editions.proofs.U64FromEdition.from.Reads as number-reads
use Rattle.editions.proofs.edition_of.Reads as edition-of-reads
use Rattle.editions.proofs.does_report.Reads as does-report-reads

pub number_one : (e e₁ e₂ : Edition) (n n' : ℕ)
    → number-reads.Learnt tt (e, tt) n (e₁, tt) → number-reads.Learnt tt (e, tt) n' (e₂, tt) → n ≡ n'
number_one e e₁ e₂ n n' h h' = h ∙ sym h'

pub edition_of_one : (n n₁ n₂ : ℕ) (e e' : Option Edition)
    → edition-of-reads.Learnt tt (n, tt) e (n₁, tt) → edition-of-reads.Learnt tt (n, tt) e' (n₂, tt) → e ≡ e'
edition_of_one n n₁ n₂ e e' h h' = h ∙ sym h'

pub does_report_one : (e e₁ e₂ : Edition) (b b' : Bool)
    → does-report-reads.Learnt tt (e, tt) b (e₁, tt) → does-report-reads.Learnt tt (e, tt) b' (e₂, tt) → b ≡ b'
does_report_one e e₁ e₂ b b' h h' = h ∙ sym h'

-- no two editions share a number
pub edition_again : (e : Edition) → edition_named (edition_number e) ≡ Some e
unfolding edition_named
edition_again NlsPlus = refl
edition_again Pls = refl

-- an edition that a number names has that number
abbrev number_or : Option Edition → ℕ → ℕ
number_or (Some e) n = edition_number e
number_or None n = n

among : (es : List Edition) (n : ℕ) → number_or (edition_among es n) n ≡ n
among [] n = refl
among (e ∷ es) n = go (eqb n (edition_number e)) refl (among es n)
  where
    go : (t : Bool) → eqb n (edition_number e) ≡ t → number_or (edition_among es n) n ≡ n → number_or (edition_among (e ∷ es) n) n ≡ n
    go true q r = rw q (sym (eqb-true n (edition_number e) q))
    go false q r = rw q r

pub number_again : (n : ℕ) (e : Edition) → edition_named n ≡ Some e → edition_number e ≡ n
unfolding edition_named
number_again n e h = ap (λ (x : Option Edition). number_or x n) (sym h) ∙ among all_editions n
