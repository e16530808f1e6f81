-- `conditions::code_marks` reads each mark back from the bit that `bits_of` gives it.
use mathlib.Core.Path.{◌≡◌, refl, ap, ◌∙◌}
use mathlib.Core.Bool.{Bool, true, false, not}
use Prim.Native.Nat.{ℕ, ◌+◌}
use lib.Dec.{eqb}
use lib.Bits.{bit_and}
use Rattle.conditions.specs.declared.Marks.{Marks}
use Rattle.conditions.specs.Conditions.{bit, on_sheet, may_set_high_low, may_be_last, marks_of}
use Rattle.conditions.proofs.code_marks.Goals as goal

abbrev borne : ℕ → ℕ → Bool
borne found value = not (eqb (bit_and found value) 0)

abbrev marks_in : ℕ → Marks
marks_in found = record { on_sheet = borne found 1; high_low = borne found 2; last = borne found 4 }

read_back : (a b c : Bool) → marks_in (bit a 1 + (bit b 2 + bit c 4)) ≡ record { on_sheet = a; high_low = b; last = c }
read_back true true true = refl
read_back true true false = refl
read_back true false true = refl
read_back true false false = refl
read_back false true true = refl
read_back false true false = refl
read_back false false true = refl
read_back false false false = refl

pub returns : goal.returns
unfolding marks_of
returns c = let level = c.args.level in
    let code = c.args.code in
    ap marks_in c.bits-found.ensures ∙ read_back (on_sheet level code) (may_set_high_low level code) (may_be_last level code)
