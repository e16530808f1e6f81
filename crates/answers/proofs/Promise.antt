-- The contract of `number` leaves one number, and no two answers share one. `Learnt` is that contract as the compiler
-- hands it to a caller: of the argument, of the result, and of the argument again as the call returns.
-- Assumes nothing.
use mathlib.Core.Path.{◌≡◌, refl, ap, sym, ◌∙◌}
use Prim.Native.Nat.{ℕ}
use mathlib.Core.Bool.{true, false, true≢false}
use lib.Dec.{eqb}
use borrow.Author.Tests.{eqb-false}
use Rattle.std.specs.Prelude.{Ok, Err, is_err}
use Rattle.answers.specs.declared.Refusal.{Refusal}
use Rattle.answers.specs.declared.Refusal.TheVariants.{NumberOutside, NumberBelow, NumberAbove, NoType, FieldBroken, NotDue}
use Rattle.answers.specs.declared.Refusal.TheVariants.{NotListed, NoLine, LineDead, LineDiffers, KeyUsed, LinesFull, ListingBroken}
use Rattle.answers.specs.declared.Refusal.TheVariants.{ListingLate, ListedAlready, RowsFull, Unsound, NoSpace}
use Rattle.answers.specs.Answers.{Answer, number_of, answer_of}
use Rattle.answers.proofs.number.Reads as number-reads

pub number_one : (a e e' : Answer) (r r' : ℕ) → number-reads.Learnt tt (a, tt) r (e, tt)
    → number-reads.Learnt tt (a, tt) r' (e', tt) → r ≡ r'
number_one a e e' r r' h h' = h ∙ sym h'

number_back : (a : Answer) → answer_of (number_of a) ≡ a
number_back (Ok tt) = refl
number_back (Err NumberOutside) = refl
number_back (Err NumberBelow) = refl
number_back (Err NumberAbove) = refl
number_back (Err NoType) = refl
number_back (Err FieldBroken) = refl
number_back (Err NotDue) = refl
number_back (Err NotListed) = refl
number_back (Err NoLine) = refl
number_back (Err LineDead) = refl
number_back (Err LineDiffers) = refl
number_back (Err KeyUsed) = refl
number_back (Err LinesFull) = refl
number_back (Err ListingBroken) = refl
number_back (Err ListingLate) = refl
number_back (Err ListedAlready) = refl
number_back (Err RowsFull) = refl
number_back (Err Unsound) = refl
number_back (Err NoSpace) = refl

-- no two answers share a number
pub one_number_each : (a b : Answer) → number_of a ≡ number_of b → a ≡ b
one_number_each a b e = sym (number_back a) ∙ ap answer_of e ∙ number_back b

-- no refusal has the number of what is done
pub refused_number : (r : Refusal) → eqb (number_of (Err r)) 0 ≡ false
refused_number NumberOutside = refl
refused_number NumberBelow = refl
refused_number NumberAbove = refl
refused_number NoType = refl
refused_number FieldBroken = refl
refused_number NotDue = refl
refused_number NotListed = refl
refused_number NoLine = refl
refused_number LineDead = refl
refused_number LineDiffers = refl
refused_number KeyUsed = refl
refused_number LinesFull = refl
refused_number ListingBroken = refl
refused_number ListingLate = refl
refused_number ListedAlready = refl
refused_number RowsFull = refl
refused_number Unsound = refl
refused_number NoSpace = refl

pub never_refused : {A : Type 0} (r : Refusal) → number_of (Err r) ≡ 0 → A
never_refused r e = absurd (eqb-false (number_of (Err r)) 0 (refused_number r) e)

-- whether it is a refusal, by its number
pub done_number : (a : Answer) → is_err a ≡ false → number_of a ≡ 0
done_number (Ok tt) e = refl
done_number (Err r) e = absurd (true≢false e)

pub not_done : (a : Answer) → is_err a ≡ true → number_of a ≡ 0 → ⊥
not_done (Ok tt) e n = true≢false (sym e)
not_done (Err r) e n = never_refused r n
