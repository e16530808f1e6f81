-- A message of each type that obeys its layout in NLS Plus, and document 01's own cases of the reader: none of the statements about
-- messages that obey is empty. PLS has its own page, `AsciiCases`.
-- Assumes nothing.
use mathlib.Core.Path.{◌≡◌, refl}
use mathlib.Core.Bool.{Bool, true, ◌&&◌}
use mathlib.Core.List.{List, [], ◌∷◌, ◌++◌, map}
use Prim.Native.Nat.{ℕ}
use lib.Dec.{eqb}
use lib.ListN.{get_or, replicate, take}
use Rattle.octets.specs.Run.{tab, part}
use Rattle.numbers.specs.Number.{be, digits}
use Rattle.texts.specs.Text.{text}
use Rattle.conditions.specs.Conditions.{level_at, condition_marks}
use Rattle.kinds.specs.Kinds.{all_kinds, kind_of}
use Rattle.answers.specs.Answers.{number_of}
use Rattle.layout.specs.Tables.{spelt_by, obeys_by, Each}
use Rattle.editions.specs.declared.Edition.TheVariants.{NlsPlus}
use Rattle.packing.specs.Layouts.{letter_place, layout_s, layout_t, layout_c, layout_j}
use Rattle.message.specs.Reader.{read_in, read_of}
use Rattle.message.specs.Obeying.{Obeys}
use Rattle.layouts.proofs.Demand2.{read_exactly}

-- ABCD and four spaces
abbrev symbol : List ℕ
symbol = 65 ∷ 66 ∷ 67 ∷ 68 ∷ 32 ∷ 32 ∷ 32 ∷ 32 ∷ []

-- control, price, size, and the condition @ and three spaces
abbrev sale : ℕ → ℕ → ℕ → List ℕ
sale control price size = (control ∷ replicate 9 32) ++ (digits 4 price ++ (digits 4 size ++ (64 ∷ 32 ∷ 32 ∷ 32 ∷ [])))

-- T (84), X (88) and C (67) to offset 36: time, letter, centre Q, symbol, class Q, and a sale
abbrev head : ℕ → ℕ → ℕ → List ℕ
head letter time price = digits 4 time ++ (letter ∷ 81 ∷ (symbol ++ (81 ∷ sale 49 price 100)))

-- T and X
abbrev trade : ℕ → ℕ → ℕ → List ℕ
trade letter time price = head letter time price ++ digits 8 600

-- a message of each type: S, T, X, C, J
abbrev samples : List (List ℕ)
samples =
    (digits 4 1000 ++ (83 ∷ 79 ∷ []))
    ∷ trade 84 1000 251000
    ∷ trade 88 1000 251000
    ∷ (head 67 1000 251000 ++ (sale 57 251000 120 ++ digits 8 600))
    ∷ (digits 4 1000 ++ (74 ∷ (symbol ++ (81 ∷ (digits 4 251000 ++ (digits 4 251000 ++ (digits 4 251000 ++ digits 8 600)))))))
    ∷ []

record Case : Type 0 where
  message : List ℕ
  answer : ℕ

abbrev right : List Case → Bool
right [] = true
right (c ∷ cs) = eqb (number_of (read_of NlsPlus c.message).answer) c.answer && right cs

-- document 01's days 9, 10 and 11, each as a message alone
abbrev cases : List Case
cases =
    record { message = []; answer = 4 }
    ∷ record { message = trade 84 1000 2000000000; answer = 0 }
    ∷ record { message = trade 84 1000 2000000001; answer = 5 }
    ∷ record { message = trade 84 1000 0; answer = 5 }
    ∷ record { message = take 44 (trade 84 1000 251000); answer = 4 }
    ∷ record { message = trade 84 1000 251000 ++ (0 ∷ []); answer = 4 }
    ∷ record { message = trade 84 86399999 251000; answer = 0 }
    ∷ record { message = trade 84 86400000 251000; answer = 5 }
    ∷ []

computed : (right cases ≡ true) × Each (λ m. number_of (read_of NlsPlus m).answer ≡ 0) samples
unfolding tab part be digits text level_at condition_marks kind_of spelt_by obeys_by layout_s layout_t layout_c layout_j read_in read_of
computed = (refl, (refl, (refl, (refl, (refl, (refl, tt))))))

computed_types : map (λ m. kind_of (get_or m letter_place 0)) samples ≡ all_kinds
unfolding kind_of digits
computed_types = refl

pub read_cases : right cases ≡ true
read_cases = computed.0

obeys_each : (ms : List (List ℕ)) → Each (λ m. number_of (read_of NlsPlus m).answer ≡ 0) ms → Each (Obeys NlsPlus) ms
obeys_each [] h = tt
obeys_each (m ∷ ms) h = ((read_exactly NlsPlus m).zero.0 h.0, obeys_each ms h.1)

-- not empty: a message of each type of the list obeys
pub record SomeObey : Type 0 where
  pub types : map (λ m. kind_of (get_or m letter_place 0)) samples ≡ all_kinds
  pub obey : Each (Obeys NlsPlus) samples

pub some_obey : SomeObey
some_obey = record { types = computed_types; obey = obeys_each samples computed.1 }
