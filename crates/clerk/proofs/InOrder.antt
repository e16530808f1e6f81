-- Of whatever arrives, a book uses as many messages as come in order from 1 on, and that is the largest count there is.
-- Assumes nothing.
use Prim.Native.Nat.{ℕ, zero, suc, ◌+◌, ◌≤◌}
use mathlib.Core.Path.{◌≡◌, refl, sym, ap, ◌∙◌}
use mathlib.Core.Bool.{Bool, true, false, cond}
use mathlib.Core.List.Sublistᴰ
use mathlib.Core.List.{List, [], ◌∷◌, Sublistᴰ}
use mathlib.Core.List.{cons≢nil}
use mathlib.Core.Logic.{◌⊎◌, inl, inr}
use native.Mathlib.Numerals.{add-one}
use native.Mathlib.Omega.{arith}
use borrow.Author.Tests.{eqb-true, eqb-false, ne_eqb}
use lib.Dec.{eqb}
use Rattle.answers.specs.Cases.{given}
use Rattle.table.specs.Table.{number_table}
use Rattle.counters.specs.Counting.{last_number}
use Rattle.book.specs.State.{Arrival, arrives}
use Rattle.table.proofs.Tables.{number_wanted}
use Rattle.clerk.specs.Steps.{Book, next, wanted_done, taken_into, using_up, content}
use Rattle.message.specs.Reader.{read_of}
use Rattle.clerk.specs.Arrivals.{run, Largest, numbers, Copies, upto, play, deliver_each}

-- ---- how many come in order

-- how many come in order from w on
unfoldable pub got : ℕ → List ℕ → ℕ
got w [] = 0
got w (k ∷ ks) = cond (eqb k w) (suc (got (suc w) ks)) (got w ks)

pub got_at : (w k : ℕ) (ks : List ℕ) → eqb k w ≡ true → got w (k ∷ ks) ≡ suc (got (suc w) ks)
unfolding got
got_at w k ks e = rw e

pub got_other : (w k : ℕ) (ks : List ℕ) → eqb k w ≡ false → got w (k ∷ ks) ≡ got w ks
unfolding got
got_other w k ks e = rw e

occurs : (w : ℕ) (ks : List ℕ) → Sublistᴰ (run w (got w ks)) ks
unfolding run got
occurs w [] = Sublistᴰ.slnil
occurs w (k ∷ ks) = go (eqb k w) refl (occurs (suc w) ks) (occurs w ks)
  where
    go : (t : Bool) → eqb k w ≡ t → Sublistᴰ (run (suc w) (got (suc w) ks)) ks → Sublistᴰ (run w (got w ks)) ks
        → Sublistᴰ (run w (got w (k ∷ ks))) (k ∷ ks)
    go true e s r = rw (got_at w k ks e) (Sublistᴰ.cons-cons (sym (eqb-true k w e)) s)
    go false e s r = rw (got_other w k ks e) (Sublistᴰ.cons r)

most : (w m : ℕ) (ks : List ℕ) → Sublistᴰ (run w m) ks → m ≤ got w ks
unfolding run
most w zero ks s = omega arith
most w (suc m) [] s = absurd (cons≢nil (Sublistᴰ.eq-nil s))
most w (suc m) (k ∷ ks) s = go (eqb k w) refl (Sublistᴰ.cases_cons-cons s) (most w (suc m) ks) (most (suc w) m ks)
  where
    go : (t : Bool) → eqb k w ≡ t → Sublistᴰ (w ∷ run (suc w) m) ks ⊎ ((w ≡ k) × Sublistᴰ (run (suc w) m) ks)
        → (Sublistᴰ (w ∷ run (suc w) m) ks → suc m ≤ got w ks) → (Sublistᴰ (run (suc w) m) ks → m ≤ got (suc w) ks) → suc m ≤ got w (k ∷ ks)
    go true e (inl s) f g = rw (got_at w k ks e) (omega (arith, g (Sublistᴰ.trans (Sublistᴰ.cons (Sublistᴰ.refl (run (suc w) m))) s)))
    go true e (inr p) f g = rw (got_at w k ks e) (omega (arith, g p.1))
    go false e (inl s) f g = rw (got_other w k ks e) (f s)
    go false e (inr p) f g = absurd (eqb-false k w e (sym p.0))

pub got_none : (j : ℕ) → got (suc j) [] + j ≡ j
unfolding got
got_none j = omega arith

-- there is such an n
pub largest_got : (ks : List ℕ) → Largest ks (got 1 ks)
largest_got ks = record { occurs = occurs 1 ks; most = λ m s. most 1 m ks s }

-- and one only
pub largest_one : (ks : List ℕ) (n k : ℕ) → Largest ks n → Largest ks k → n ≡ k
largest_one ks n k h g = omega (arith, h.most k g.occurs, g.most n h.occurs)

-- ---- one arrival

-- at the wanted number
pub next_at : (limit : ℕ) (b : Book) (a : Arrival) → 1 ≤ a.number → a.number ≤ last_number → a.number ≡ b.wanted
    → next limit b a ≡ wanted_done limit b a.message
unfolding next
next_at limit b a l h e =
    let w : (given (number_table b.wanted a.number)).number ≡ 0
    = (number_wanted true b.wanted a.number).1 (record { sound = refl; wanted = e; least = l; greatest = h }) in
    rw w

-- at any other
pub next_other : (limit : ℕ) (b : Book) (a : Arrival) → (a.number ≡ b.wanted → ⊥) → next limit b a ≡ b
unfolding next
next_other limit b a ne =
    let z
    = ne_eqb (given (number_table b.wanted a.number)).number 0 (λ e. ne ((number_wanted true b.wanted a.number).0 e).wanted) in
    rw z

pub after_wanted : (limit : ℕ) (b : Book) (m : List ℕ) → (wanted_done limit b m).wanted ≡ suc b.wanted
unfolding wanted_done taken_into using_up
after_wanted limit b m = go (eqb (content limit b m) 0)
  where
    go : (t : Bool) → (cond t (taken_into (read_of b.edition m).found b) (using_up b)).wanted ≡ suc b.wanted
    go true = add-one b.wanted
    go false = add-one b.wanted

-- ---- all arrivals, from a book that wants 1

module _ (limit : ℕ) (day : ℕ → List ℕ) (N : ℕ) (fits : N ≤ last_number) (b : Book) (fresh : b.wanted ≡ 1) where
  -- the book that has used 1 to j
  abbrev up_to : ℕ → Book
  up_to j = play limit b (upto day j)

  play_wanted : (j : ℕ) → (up_to j).wanted ≡ suc j
  unfolding play upto
  play_wanted zero = fresh
  play_wanted (suc j) = after_wanted limit _ _ ∙ ap suc (play_wanted j)

  play_more : (j : ℕ) → wanted_done limit (up_to j) (day (suc j)) ≡ up_to (suc j)
  unfolding play upto
  play_more j = refl

  -- it uses as many more as come in order from j + 1
  from : (j : ℕ) (l : List Arrival) → Copies day N l → deliver_each limit (up_to j) l ≡ up_to (got (suc j) (numbers l) + j)
  unfolding deliver_each
  from j [] c = ap up_to (sym (got_none j))
  from j (a ∷ l) c = go (eqb a.number (suc j)) refl (from (suc j) l c.1) (from j l c.1)
    where
      k : ℕ
      k = a.number

      go : (t : Bool) → eqb k (suc j) ≡ t
          → deliver_each limit (up_to (suc j)) l ≡ up_to (got (suc (suc j)) (numbers l) + suc j)
          → deliver_each limit (up_to j) l ≡ up_to (got (suc j) (numbers l) + j)
          → deliver_each limit (next limit (up_to j) a) l ≡ up_to (got (suc j) (k ∷ numbers l) + j)
      go true e more same =
          let q : k ≡ suc j = eqb-true k (suc j) e in
          let g : got (suc (suc j)) (numbers l) + suc j ≡ got (suc j) (k ∷ numbers l) + j = omega (arith, got_at (suc j) k (numbers l) e) in
          ap (λ (x : Book). deliver_each limit x l)
          (next_at limit (up_to j) a (omega arith) (omega (arith, c.0.0)) (q ∙ sym (play_wanted j))
          ∙ ap (wanted_done limit (up_to j)) (c.0.1 (omega arith) ∙ ap day q) ∙ play_more j)
          ∙ more
          ∙ ap up_to g
      go false e more same =
          rw (next_other limit (up_to j) a (λ q. eqb-false k (suc j) e (q ∙ play_wanted j)), got_other (suc j) k (numbers l) e) same

  -- what the arrivals do is what playing 1 to n does
  pub used_exactly : (l : List Arrival) (n : ℕ) → Copies day N l → Largest (numbers l) n → deliver_each limit b l ≡ play limit b (upto day n)
  unfolding play upto
  used_exactly l n c h =
      let e : got 1 (numbers l) + 0 ≡ n = omega (arith, largest_one (numbers l) n (got 1 (numbers l)) h (largest_got (numbers l))) in
      from 0 l c ∙ ap up_to e

-- ---- n is one of the day's numbers

abbrev Below : ℕ → List ℕ → Type 0
Below N [] = Unit {0}
Below N (k ∷ ks) = (k ≤ N) × Below N ks

copies_below : (day : ℕ → List ℕ) (N : ℕ) (l : List Arrival) → Copies day N l → Below N (numbers l)
copies_below day N [] c = tt
copies_below day N (a ∷ l) c = (c.0.0, copies_below day N l c.1)

below_sub : (N : ℕ) {l ks : List ℕ} → Sublistᴰ l ks → Below N ks → Below N l
below_sub N Sublistᴰ.slnil w = tt
below_sub N (Sublistᴰ.cons s) w = below_sub N s w.1
below_sub N (Sublistᴰ.cons-cons e s) w = (rw e w.0, below_sub N s w.1)

run_below : (N a m : ℕ) → Below N (run a (suc m)) → a + m ≤ N
unfolding run
run_below N a zero w = omega (arith, w.0)
run_below N a (suc m) w = omega (arith, run_below N (suc a) m w.1)

pub largest_below : (day : ℕ → List ℕ) (N n : ℕ) (l : List Arrival) → Copies day N l → Largest (numbers l) n → n ≤ N
largest_below day N zero l c h = omega arith
largest_below day N (suc m) l c h = omega (arith, run_below N 1 m (below_sub N h.occurs (copies_below day N l c)))
