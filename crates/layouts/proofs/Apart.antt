-- No message has the shape of two editions, so a book refuses another edition's messages with 4.
-- Assumes nothing.
use mathlib.Core.Path.{◌≡◌, refl, ap, sym, ◌∙◌}
use mathlib.Core.Bool.{true, false}
use mathlib.Core.List.{List}
use mathlib.Core.Option.{some}
use Prim.Native.Nat.{ℕ}
use borrow.Author.Tests.{eq-eqb}
use lib.ListN.{length}
use Rattle.editions.specs.declared.Edition.{Edition}
use Rattle.editions.specs.declared.Edition.TheVariants.{NlsPlus, Pls}
use Rattle.kinds.specs.Kinds.{kind_of}
use Rattle.answers.specs.Answers.{number_of}
use Rattle.layout.proofs.Forms.{clash}
use Rattle.records.specs.Held.{size_in}
use Rattle.formats.specs.Formats.{letter_in, length_of}
use Rattle.formats.proofs.Good.{named}
use Rattle.formats.proofs.Lengths.{same_none}
use Rattle.message.specs.Reader.{read_of}
use Rattle.message.specs.Obeying.{Shaped, Obeys}
use Rattle.layouts.proofs.Demand2.{read_exactly}

-- a message that has a shape is as long as its type's messages are
long_of : (e : Edition) (m : List ℕ) → Shaped e m → length_of e (kind_of (letter_in e m)) ≡ length m
long_of e m s = ap size_in s.typed ∙ sym s.long

never : (m : List ℕ) → Shaped NlsPlus m → Shaped Pls m → ⊥
never m s t =
    let z = same_none (kind_of (letter_in NlsPlus m)) (kind_of (letter_in Pls m)) (long_of NlsPlus m s ∙ sym (long_of Pls m t)) in
    let n : s.type.size ≡ 0 = sym (ap size_in s.typed) ∙ z in
    clash (sym (named NlsPlus (letter_in NlsPlus m) s.type s.typed).sized ∙ eq-eqb s.type.size 0 n)

pub apart : (d e : Edition) (m : List ℕ) → Shaped d m → Shaped e m → d ≡ e
apart NlsPlus NlsPlus m s t = refl
apart NlsPlus Pls m s t = absurd (never m s t)
apart Pls NlsPlus m s t = absurd (never m t s)
apart Pls Pls m s t = refl

-- a message that obeys one edition is no message of another: reading by that one answers 4
pub others_refused : (d e : Edition) (m : List ℕ) → (d ≡ e → ⊥) → Obeys d m → number_of (read_of e m).answer ≡ 4
others_refused d e m n o =
    (read_exactly e m).four.1 (λ t. n (apart d e m (record { type = o.type; typed = o.typed; long = o.obeys.long }) t))
