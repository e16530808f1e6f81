-- What a table gives is the first of its cases that applies; where the numbers rise, that is the lowest number that applies.
-- Assumes nothing.
use Prim.Native.Nat.{ℕ, ◌<◌}
use mathlib.Core.Path.{◌≡◌, refl, ap, sym, ◌∙◌}
use mathlib.Core.Logic.{◌↔◌, ◌⊎◌, ⊎_elim}
use mathlib.Core.List.Memᴰ
use mathlib.Core.List.{List, [], ◌∷◌, ◌++◌, map, Memᴰ}
use mathlib.Core.Bool.{Bool, true, false, cond, true≢false}
use native.Mathlib.Omega.{arith}
use borrow.Author.Tests.{ltb-true, ltb-false}
use lib.Dec.{ltb}
use Rattle.answers.specs.Cases.{Case, given}

-- no case applies
abbrev pub NoneApplies : List Case → Type 0
NoneApplies cases = (c : Case) → Memᴰ c cases → c.applies ≡ false

-- one more case that does not apply
pub none_more : (d : Case) (cs : List Case) → d.applies ≡ false → NoneApplies cs → NoneApplies (d ∷ cs)
none_more d cs e h c m = ⊎_elim (λ (q : c ≡ d). rw q e) (λ (t : Memᴰ c cs). h c t) (Memᴰ.cases_cons m)

-- where none applies, nothing is found but `done`
pub none_given : (cs : List Case) → NoneApplies cs → (given cs).number ≡ 0
none_given [] h = refl
none_given (d ∷ cs) h = rw (h d (Memᴰ.head refl)) (none_given cs (λ c m. h c (Memᴰ.tail m)))

-- the number that is given, picked number by number
abbrev pub picked : List Case → ℕ
picked [] = 0
picked (c ∷ cs) = cond c.applies c.number (picked cs)

pub picked_is : (cs : List Case) → (given cs).number ≡ picked cs
picked_is [] = refl
picked_is (c ∷ cs) = go c.applies (picked_is cs)
  where
    go : (t : Bool) → (given cs).number ≡ picked cs → (cond t c (given cs)).number ≡ cond t c.number (picked cs)
    go true e = refl
    go false e = e

-- ---- the first

-- every case has a number of its own, 0 being for where none applies
abbrev pub Numbered : List Case → Type 0
Numbered [] = Unit
Numbered (c ∷ cs) = (0 < c.number) × Numbered cs

-- a case of number n applies, and none before it does
pub record IsFirst (cases : List Case) (n : ℕ) : Type 0 where
  pub before : List Case
  pub case : Case
  pub after : List Case
  pub whole : cases ≡ before ++ (case ∷ after)
  pub number : case.number ≡ n
  pub applies : case.applies ≡ true
  pub none : NoneApplies before

none_of : (cs : List Case) → Numbered cs → (given cs).number ≡ 0 → NoneApplies cs
none_of [] r e = λ c m. absurd (Memᴰ.not-nil m)
none_of (d ∷ cs) r e = go d.applies refl e (λ q. none_of cs r.1 q)
  where
    go : (t : Bool) → d.applies ≡ t → (cond t d (given cs)).number ≡ 0 → ((given cs).number ≡ 0 → NoneApplies cs) → NoneApplies (d ∷ cs)
    go true t e rest = absurd (omega (arith, r.0, e))
    go false t e rest = none_more d cs t (rest e)

-- 0 means that no case applies
pub none_applies : (cases : List Case) → Numbered cases → ((given cases).number ≡ 0) ↔ NoneApplies cases
none_applies cases r = (none_of cases r, none_given cases)

first_of : (cs : List Case) (n : ℕ) → (n ≡ 0 → ⊥) → (given cs).number ≡ n → IsFirst cs n
first_of [] n z e = absurd (z (sym e))
first_of (d ∷ cs) n z e = go d.applies refl e (λ q. first_of cs n z q)
  where
    go : (t : Bool) → d.applies ≡ t → (cond t d (given cs)).number ≡ n → ((given cs).number ≡ n → IsFirst cs n) → IsFirst (d ∷ cs) n
    go true t e rest =
        record { before = []; case = d; after = cs; whole = refl; number = e; applies = t; none = λ c m. absurd (Memᴰ.not-nil m) }
    go false t e rest =
        let f = rest e in
        record {
          before = d ∷ f.before;
          case = f.case;
          after = f.after;
          whole = ap {B = List Case} (λ x. d ∷ x) f.whole;
          number = f.number;
          applies = f.applies;
          none = none_more d f.before t f.none;
        }

-- cases that do not apply are passed over
pub passed_over : (before rest : List Case) → NoneApplies before → given (before ++ rest) ≡ given rest
passed_over [] rest h = refl
passed_over (d ∷ before) rest h = rw (h d (Memᴰ.head refl)) (passed_over before rest (λ c m. h c (Memᴰ.tail m)))

-- any other number means that the first case that applies has it
pub first_is : (cases : List Case) (n : ℕ) → (n ≡ 0 → ⊥) → ((given cases).number ≡ n) ↔ IsFirst cases n
first_is cases n z = (first_of cases n z, back)
  where
    back : IsFirst cases n → (given cases).number ≡ n
    back h =
        ap (λ (x : List Case). (given x).number) h.whole
        ∙ ap (λ (x : Case). x.number) (passed_over h.before (h.case ∷ h.after) h.none)
        ∙ ap (λ (t : Bool). (cond t h.case (given h.after)).number) h.applies
        ∙ h.number

-- ---- the lowest, where the numbers rise

-- numbers above n, each above the one before
abbrev pub RisingFrom : ℕ → List Case → Type 0
RisingFrom n [] = Unit
RisingFrom n (c ∷ cs) = (n < c.number) × RisingFrom c.number cs

abbrev pub Rising : List Case → Type 0
Rising cs = RisingFrom 0 cs

-- a case of number n applies, and none of a smaller number does
pub record IsLowest (cases : List Case) (n : ℕ) : Type 0 where
  pub case : Case
  pub among : Memᴰ case cases
  pub number : case.number ≡ n
  pub applies : case.applies ≡ true
  pub smaller : (c : Case) → Memᴰ c cases → c.number < n → c.applies ≡ false

-- each case of a rising table is above where it rises from
above : (n : ℕ) (cs : List Case) → RisingFrom n cs → (c : Case) → Memᴰ c cs → n < c.number
above n [] h c m = absurd (Memᴰ.not-nil m)
above n (d ∷ cs) h c m =
    ⊎_elim (λ (e : c ≡ d). rw e h.0) (λ (t : Memᴰ c cs). omega (arith, above d.number cs h.1 c t, h.0))
    (Memᴰ.cases_cons m)

rising_numbered : (n : ℕ) (cs : List Case) → RisingFrom n cs → Numbered cs
rising_numbered n [] h = tt
rising_numbered n (d ∷ cs) h = (omega (arith, h.0), rising_numbered d.number cs h.1)

module _ (d : Case) (cs : List Case) (n : ℕ) where
  lowest_more : d.applies ≡ false → IsLowest cs n → IsLowest (d ∷ cs) n
  lowest_more e h =
      record {
        case = h.case;
        among = Memᴰ.tail h.among;
        number = h.number;
        applies = h.applies;
        smaller = λ c m l. ⊎_elim (λ (q : c ≡ d). rw q e) (λ (t : Memᴰ c cs). h.smaller c t l) (Memᴰ.cases_cons m);
      }

  lowest_here : RisingFrom d.number cs → d.applies ≡ true → d.number ≡ n → IsLowest (d ∷ cs) n
  lowest_here r e h =
      record {
        case = d;
        among = Memᴰ.head refl;
        number = h;
        applies = e;
        smaller = λ c m l. absurd (clash c l (Memᴰ.cases_cons m));
      }
    where
      clash : (c : Case) → c.number < n → (c ≡ d) ⊎ Memᴰ c cs → ⊥
      clash c l m =
          ⊎_elim (λ (q : c ≡ d). omega (arith, ap (λ (x : Case). x.number) q))
          (λ (t : Memᴰ c cs). omega (arith, above d.number cs r c t)) m

lowest_of : (k : ℕ) (cs : List Case) → RisingFrom k cs → (n : ℕ) → (n ≡ 0 → ⊥) → (given cs).number ≡ n → IsLowest cs n
lowest_of k [] r n z e = absurd (z (sym e))
lowest_of k (d ∷ cs) r n z e = go d.applies refl e (λ q. lowest_of d.number cs r.1 n z q)
  where
    go : (t : Bool) → d.applies ≡ t → (cond t d (given cs)).number ≡ n → ((given cs).number ≡ n → IsLowest cs n) → IsLowest (d ∷ cs) n
    go true t e rest = lowest_here d cs n r.1 t e
    go false t e rest = lowest_more d cs n t (rest e)

-- two numbers with a case each that applies, and none of a smaller number: they are equal
one_lowest : (cs : List Case) (n k : ℕ) → IsLowest cs n → IsLowest cs k → n ≡ k
one_lowest cs n k a b = go (ltb n k) refl (ltb k n) refl
  where
    clash : (x y : ℕ) → IsLowest cs x → IsLowest cs y → x < y → ⊥
    clash x y a b l =
        let f : a.case.applies ≡ false = b.smaller a.case a.among (omega (arith, a.number)) in
        true≢false (sym a.applies ∙ f)

    go : (t : Bool) → ltb n k ≡ t → (u : Bool) → ltb k n ≡ u → n ≡ k
    go true t u f = absurd (clash n k a b (ltb-true n k t))
    go false t true f = absurd (clash k n b a (ltb-true k n f))
    go false t false f = omega (arith, ltb-false n k t, ltb-false k n f)

-- in a table whose numbers rise, the number that is given is the lowest that applies
pub lowest_is : (cases : List Case) → Rising cases → (n : ℕ) → (n ≡ 0 → ⊥) → ((given cases).number ≡ n) ↔ IsLowest cases n
lowest_is cases r n z = (lowest_of 0 cases r n z, back)
  where
    back : IsLowest cases n → (given cases).number ≡ n
    back h = one_lowest cases (given cases).number n (lowest_of 0 cases r (given cases).number some refl) h
      where
        some : (given cases).number ≡ 0 → ⊥
        some e = true≢false (sym h.applies ∙ none_of cases (rising_numbered 0 cases r) e h.case h.among)

-- ---- one of a table's numbers, and whether the number is used up

abbrev pub numbers_of : List Case → List ℕ
numbers_of cs = map (λ (c : Case). c.number) cs

-- what a table gives is 0 or the number of a case
pub given_among : (cs : List Case) → Memᴰ (given cs).number (0 ∷ numbers_of cs)
given_among [] = Memᴰ.head refl
given_among (c ∷ cs) = go c.applies (given_among cs)
  where
    go : (t : Bool) → Memᴰ (given cs).number (0 ∷ numbers_of cs)
        → Memᴰ (cond t c (given cs)).number (0 ∷ c.number ∷ numbers_of cs)
    go true m = Memᴰ.tail (Memᴰ.head refl)
    go false m =
        ⊎_elim (λ (e : (given cs).number ≡ 0). Memᴰ.head e)
        (λ (t : Memᴰ (given cs).number (numbers_of cs)). Memᴰ.tail (Memᴰ.tail t))
        (Memᴰ.cases_cons m)

-- each case uses up the number, or none does
abbrev pub AllUse : Bool → List Case → Type 0
AllUse u [] = Unit
AllUse u (c ∷ cs) = (c.uses ≡ u) × AllUse u cs

-- and then so does the one that is given, if any is
pub given_uses : (u : Bool) (cs : List Case) → AllUse u cs → ((given cs).number ≡ 0 → ⊥) → (given cs).uses ≡ u
given_uses u [] h z = absurd (z refl)
given_uses u (c ∷ cs) h z = go c.applies z (given_uses u cs h.1)
  where
    go : (t : Bool) → ((cond t c (given cs)).number ≡ 0 → ⊥) → (((given cs).number ≡ 0 → ⊥) → (given cs).uses ≡ u)
        → (cond t c (given cs)).uses ≡ u
    go true z rest = h.0
    go false z rest = rest z
