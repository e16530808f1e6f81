-- What each call says back: the number in document 01's table of each answer, and the answer of each number. The
-- promises are stated in these numbers.
-- Assumes nothing.
use Rattle.std.specs.Prelude.{ℕ, cond, eqb, Result, Ok, Err}
use Rattle.answers.specs.declared.Refusal.{Refusal}
use Rattle.answers.specs.declared.Refusal.TheVariants.{NumberOutside, NumberBelow, NumberAbove, NoType, FieldBroken, NotDue}
use Rattle.answers.specs.declared.Refusal.TheVariants.{NotListed, NoLine, LineDead, LineDiffers, KeyUsed, LinesFull, ListingBroken}
use Rattle.answers.specs.declared.Refusal.TheVariants.{ListingLate, ListedAlready, RowsFull, Unsound, NoSpace}

abbrev pub refusal_number : Refusal → ℕ
-- number is 0 or above 4,294,967,295
refusal_number NumberOutside = 1
-- number below the wanted one
refusal_number NumberBelow = 2
-- number above the wanted one
refusal_number NumberAbove = 3
-- no such type, or not its length
refusal_number NoType = 4
-- a field breaks its rule
refusal_number FieldBroken = 5
-- event or message not due in this phase
refusal_number NotDue = 6
-- symbol not listed
refusal_number NotListed = 7
-- X, C: no line bears the original's key
refusal_number NoLine = 8
-- X, C: that line is dead
refusal_number LineDead = 9
-- X, C: symbol, price, size or condition differs from the line
refusal_number LineDiffers = 10
-- T, C: the new key is on a line already
refusal_number KeyUsed = 11
-- T, C: every line is used
refusal_number LinesFull = 12
-- listing: symbol or close breaks its rule
refusal_number ListingBroken = 13
-- listing: a number was used up already
refusal_number ListingLate = 14
-- listing: symbol listed already
refusal_number ListedAlready = 15
-- listing: every row is used
refusal_number RowsFull = 16
-- book unsound
refusal_number Unsound = 17
-- writer: lent space shorter than the message
refusal_number NoSpace = 18

-- what a call answers: that it is done, or why it is refused
abbrev pub Answer : Type 0
Answer = Result Unit Refusal

-- done is 0
abbrev pub number_of : Answer → ℕ
number_of (Ok done) = 0
number_of (Err refusal) = refusal_number refusal

-- the answer that bears a number of the table, which ends at 18
abbrev pub answer_of : ℕ → Answer
answer_of n =
    cond (eqb n 0) (Ok tt)
    (cond (eqb n 1) (Err NumberOutside)
    (cond (eqb n 2) (Err NumberBelow)
    (cond (eqb n 3) (Err NumberAbove)
    (cond (eqb n 4) (Err NoType)
    (cond (eqb n 5) (Err FieldBroken)
    (cond (eqb n 6) (Err NotDue)
    (cond (eqb n 7) (Err NotListed)
    (cond (eqb n 8) (Err NoLine)
    (cond (eqb n 9) (Err LineDead)
    (cond (eqb n 10) (Err LineDiffers)
    (cond (eqb n 11) (Err KeyUsed)
    (cond (eqb n 12) (Err LinesFull)
    (cond (eqb n 13) (Err ListingBroken)
    (cond (eqb n 14) (Err ListingLate)
    (cond (eqb n 15) (Err ListedAlready)
    (cond (eqb n 16) (Err RowsFull)
    (cond (eqb n 17) (Err Unsound) (Err NoSpace))))))))))))))))))
