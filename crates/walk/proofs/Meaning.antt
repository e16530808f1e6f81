-- The figures that are worked out line by line are the figures as their meaning says them, and no others are.
-- Assumes nothing.
use Rattle.std.specs.Prelude.{None, Option, Some, ℕ}
use Prim.Native.Nat.{ℕ, zero, suc, ◌+◌, ◌*◌, ◌≤◌, ◌<◌, min}
use mathlib.Core.Path.{◌≡◌, refl, ap, sym, ◌∙◌}
use mathlib.Core.Logic.{⊎_elim}
use mathlib.Core.List.{List, [], ◌∷◌, ◌++◌, append_assoc, append-nil, Memᴰ}
use mathlib.Core.Bool.{Bool, true, false, cond}
use native.Mathlib.Nat.{suc-mul}
use native.Mathlib.Omega.{arith}
use borrow.Author.Tests.{ltb-true, ltb-false}
use lib.Dec.{ltb}
use lib.ListN.{length, length-append}
use Rattle.octets.specs.Run.{tab, Bytes}
use Rattle.numbers.proofs.Laws.{be_below}
use Rattle.lines.specs.Cell.{line_cell, line_cap, at_size}
use Rattle.lines.specs.declared.Line.{Line}
use Rattle.figures.specs.Figures.{last_trade}
use Rattle.figures.specs.declared.Figures.{Figures}
use Rattle.lines.specs.Lines.{line_from, line_at, line_limit, used_lines}
use Rattle.figures.specs.Figures.{raise, lower, later, no_figures, sold}
use Rattle.walk.specs.Walking.{counts, dealt, tally, fold, figures_of}
use Rattle.walk.specs.Meaning.{keep, live_of, bears_first, bears_second, first_mark, second_mark, sizes, Extreme, IsExtreme, IsHigh, IsLow}
use Rattle.walk.specs.Meaning.{Newest, IsLast, Are}
use Rattle.lines.proofs.Slabs.{used_lines_length}
use Rattle.figures.specs.declared.LastTrade.{LastTrade}

-- ---- one more line that passes, and one that does not

module _ {A : Type 0} (passes : A → Bool) (x : A) where
  keep_more : (xs : List A) → keep passes (xs ++ (x ∷ [])) ≡ keep passes xs ++ cond (passes x) (x ∷ []) []
  keep_more [] = go (passes x)
    where
      go : (t : Bool) → cond t (x ∷ []) [] ≡ [] ++ cond t (x ∷ []) []
      go true = refl
      go false = refl
  keep_more (y ∷ xs) = go (passes y) (keep_more xs)
    where
      go : (t : Bool) → keep passes (xs ++ (x ∷ [])) ≡ keep passes xs ++ cond (passes x) (x ∷ []) []
          → cond t (y ∷ keep passes (xs ++ (x ∷ []))) (keep passes (xs ++ (x ∷ [])))
          ≡ cond t (y ∷ keep passes xs) (keep passes xs) ++ cond (passes x) (x ∷ []) []
      go true e = ap (λ (zs : List A). y ∷ zs) e
      go false e = e

  keep_in : (xs : List A) → passes x ≡ true → keep passes (xs ++ (x ∷ [])) ≡ keep passes xs ++ (x ∷ [])
  keep_in xs e = keep_more xs ∙ rw e

  keep_out : (xs : List A) → passes x ≡ false → keep passes (xs ++ (x ∷ [])) ≡ keep passes xs
  keep_out xs e = keep_more xs ∙ rw e (append-nil (keep passes xs))

module _ {A : Type 0} (P : A → Type 0) (xs : List A) (x : A) where
  -- what holds of each element, and of one more, holds of each with that one
  each_more : ((y : A) → Memᴰ y xs → P y) → P x → (y : A) → Memᴰ y (xs ++ (x ∷ [])) → P y
  each_more h p y m =
      ⊎_elim (λ (n : Memᴰ y xs). h y n) (λ (n : Memᴰ y (x ∷ [])). rw (mathlib.Core.List.Memᴰ.eq_of_singleton n) p)
      (mathlib.Core.List.Memᴰ.append_cases xs m)

-- ---- one more line, for each figure

sizes_more : (ls : List Line) (l : Line) → sizes (ls ++ (l ∷ [])) ≡ sizes ls + l.size
sizes_more [] l = omega arith
sizes_more (x ∷ ls) l = let e : sizes (ls ++ (l ∷ [])) ≡ sizes ls + l.size = sizes_more ls l in omega arith

module _ (bounds : ℕ → ℕ → Type 0) (self : (p : ℕ) → bounds p p) (ls : List Line) (l : Line) where
  the_last : Memᴰ l (ls ++ (l ∷ []))
  the_last = mathlib.Core.List.Memᴰ.append_right ls (mathlib.Core.List.Memᴰ.head refl)

  extreme_first : ls ≡ [] → Extreme bounds (ls ++ (l ∷ [])) l.price
  extreme_first e =
      record {
        line = l;
        among = the_last;
        price = refl;
        every =
            each_more (λ (y : Line). bounds l.price y.price) ls l (λ y m. absurd (mathlib.Core.List.Memᴰ.not-nil (rw e at m))) (self l.price);
      }

  extreme_kept : (q : ℕ) → Extreme bounds ls q → bounds q l.price → Extreme bounds (ls ++ (l ∷ [])) q
  extreme_kept q h b =
      record {
        line = h.line;
        among = mathlib.Core.List.Memᴰ.append_left (l ∷ []) h.among;
        price = h.price;
        every = each_more (λ (y : Line). bounds q y.price) ls l h.every b;
      }

  extreme_new : (q : ℕ) → Extreme bounds ls q → ((p : ℕ) → bounds q p → bounds l.price p) → Extreme bounds (ls ++ (l ∷ [])) l.price
  extreme_new q h b =
      record {
        line = l;
        among = the_last;
        price = refl;
        every = each_more (λ (y : Line). bounds l.price y.price) ls l (λ y m. b y.price (h.every y m)) (self l.price);
      }

  extreme_more : (q : ℕ) (t : Bool) → (t ≡ true → (p : ℕ) → bounds q p → bounds l.price p) → (t ≡ false → bounds q l.price)
      → Extreme bounds ls q → IsExtreme bounds (ls ++ (l ∷ [])) (cond t (Some l.price) (Some q))
  extreme_more q true new old h = extreme_new q h (new refl)
  extreme_more q false new old h = extreme_kept q h (old refl)

module _ (ls : List Line) (l : Line) where
  high_more : (h : Option ℕ) → IsHigh ls h → IsHigh (ls ++ (l ∷ [])) (raise h l.price)
  high_more None e = extreme_first (λ (high p : ℕ). p ≤ high) (λ p. omega arith) ls l e
  high_more (Some q) e =
      extreme_more (λ (high p : ℕ). p ≤ high) (λ p. omega arith) ls l q (ltb q l.price)
      (λ t p b. omega (arith, ltb-true q l.price t))
      (λ t. ltb-false q l.price t)
      e

  low_more : (h : Option ℕ) → IsLow ls h → IsLow (ls ++ (l ∷ [])) (lower h l.price)
  low_more None e = extreme_first (λ (low p : ℕ). low ≤ p) (λ p. omega arith) ls l e
  low_more (Some q) e =
      extreme_more (λ (low p : ℕ). low ≤ p) (λ p. omega arith) ls l q (ltb l.price q)
      (λ t p b. omega (arith, ltb-true l.price q t))
      (λ t. ltb-false l.price q t)
      e

  newest_only : ls ≡ [] → Newest (ls ++ (l ∷ [])) l.place l.price
  newest_only e =
      record {
        before = [];
        line = l;
        after = [];
        whole = rw e;
        place = refl;
        price = refl;
        smaller = λ y m. absurd (mathlib.Core.List.Memᴰ.not-nil m);
        no_greater = λ y m. absurd (mathlib.Core.List.Memᴰ.not-nil m);
      }

  module _ (v p : ℕ) (h : Newest ls v p) where
    -- no line has a greater place than the newest
    newest_tops : (y : Line) → Memᴰ y ls → y.place ≤ v
    newest_tops y m =
        let n : Memᴰ y (h.before ++ (h.line ∷ h.after)) = rw h.whole at m in
        ⊎_elim (λ (b : Memᴰ y h.before). omega (arith, h.smaller y b)) (λ (b : Memᴰ y (h.line ∷ h.after)). here b)
        (mathlib.Core.List.Memᴰ.append_cases h.before n)
      where
        here : Memᴰ y (h.line ∷ h.after) → y.place ≤ v
        here b =
            ⊎_elim (λ (e : y ≡ h.line). omega (arith, ap (λ (x : Line). x.place) e, h.place))
            (λ (a : Memᴰ y h.after). h.no_greater y a) (mathlib.Core.List.Memᴰ.cases_cons b)

    newest_new : v < l.place → Newest (ls ++ (l ∷ [])) l.place l.price
    newest_new b =
        record {
          before = ls;
          line = l;
          after = [];
          whole = refl;
          place = refl;
          price = refl;
          smaller = λ y m. omega (arith, newest_tops y m);
          no_greater = λ y m. absurd (mathlib.Core.List.Memᴰ.not-nil m);
        }

    newest_kept : l.place ≤ v → Newest (ls ++ (l ∷ [])) v p
    newest_kept b =
        record {
          before = h.before;
          line = h.line;
          after = h.after ++ (l ∷ []);
          whole = ap (λ (xs : List Line). xs ++ (l ∷ [])) h.whole ∙ append_assoc h.before (h.line ∷ h.after) (l ∷ []);
          place = h.place;
          price = h.price;
          smaller = h.smaller;
          no_greater = each_more (λ (y : Line). y.place ≤ v) h.after l h.no_greater b;
        }

  last_more : (h : Option LastTrade) → IsLast ls h → IsLast (ls ++ (l ∷ [])) (later h l.place l.price)
  last_more None e = newest_only e
  last_more (Some last) e = go (ltb last.place l.place) refl
    where
      go : (t : Bool) → ltb last.place l.place ≡ t → IsLast (ls ++ (l ∷ [])) (cond t (Some (last_trade l.place l.price)) (Some last))
      go true t = newest_new last.place last.price e (ltb-true last.place l.place t)
      go false t = newest_kept last.place last.price e (ltb-false last.place l.place t)

-- ---- one more line, for all of them

-- a figure P over the lines that pass, with the line or without it as the line passes
figure_more : {A : Type 0} (P : List Line → A → Type 0) (passes : Line → Bool) (ls : List Line) (l : Line) (old new : A)
    → P (keep passes ls) old → (P (keep passes ls) old → P (keep passes ls ++ (l ∷ [])) new)
    → P (keep passes (ls ++ (l ∷ []))) (cond (passes l) new old)
figure_more P passes ls l old new h more = go (passes l) refl
  where
    go : (t : Bool) → passes l ≡ t → P (keep passes (ls ++ (l ∷ []))) (cond t new old)
    go true e = rw (keep_in passes l ls e) (more h)
    go false e = rw (keep_out passes l ls e) h

-- the figures with one more line: it counts, or it does not
module _ (symbol : List ℕ) (ls : List Line) (f : Figures) (l : Line) (a : Are symbol ls f) where
  live : List Line
  live = live_of symbol ls

  are_with : counts symbol l ≡ true → Are symbol (ls ++ (l ∷ [])) (dealt f l)
  unfolding sold live
  are_with e =
      let k : live_of symbol (ls ++ (l ∷ [])) ≡ live ++ (l ∷ []) = keep_in (counts symbol) l ls e in
      let n : length (live ++ (l ∷ [])) ≡ length live + 1 = length-append live (l ∷ []) in
      record {
        volume = rw k (omega (arith, sizes_more live l, a.volume));
        count = rw k (omega (arith, n, a.count));
        high =
            rw k (figure_more IsHigh bears_first live l f.high (raise f.high l.price) a.high
            (high_more (first_mark live) l f.high));
        low =
            rw k (figure_more IsLow bears_first live l f.low (lower f.low l.price) a.low (low_more (first_mark live) l f.low));
        last =
            rw k (figure_more IsLast bears_second live l f.last (later f.last l.place l.price) a.last
            (last_more (second_mark live) l f.last));
      }

  are_without : counts symbol l ≡ false → Are symbol (ls ++ (l ∷ [])) f
  are_without e =
      let k : live_of symbol (ls ++ (l ∷ [])) ≡ live_of symbol ls = keep_out (counts symbol) l ls e in
      record { volume = rw k a.volume; count = rw k a.count; high = rw k a.high; low = rw k a.low; last = rw k a.last }

  are_more : Are symbol (ls ++ (l ∷ [])) (tally symbol f l)
  unfolding tally
  are_more = go (counts symbol l) refl
    where
      go : (t : Bool) → counts symbol l ≡ t → Are symbol (ls ++ (l ∷ [])) (cond t (dealt f l) f)
      go true e = are_with e
      go false e = are_without e

-- ---- the whole list, and one value

are_fold : (symbol : List ℕ) (ls seen : List Line) (f : Figures) → Are symbol seen f → Are symbol (seen ++ ls) (fold (tally symbol) f ls)
unfolding fold
are_fold symbol [] seen f a = rw append-nil a
are_fold symbol (l ∷ ls) seen f a =
    rw append_assoc at (are_fold symbol ls (seen ++ (l ∷ [])) (tally symbol f l) (are_more symbol seen f l a))

-- the figures worked out are the figures as they are meant
pub figures_are : (symbol : List ℕ) (ls : List Line) → Are symbol ls (figures_of symbol ls)
unfolding figures_of
figures_are symbol ls = are_fold symbol ls [] no_figures (record { volume = refl; count = refl; high = refl; low = refl; last = refl })

module _ (bounds : ℕ → ℕ → Type 0) (two : (p q : ℕ) → bounds p q → bounds q p → p ≡ q) (ls : List Line) where
  extreme_some : (p : ℕ) → Extreme bounds ls p → ls ≡ [] → ⊥
  extreme_some p h e = mathlib.Core.List.Memᴰ.not-nil (rw e at h.among)

  extreme_one : (x y : Option ℕ) → IsExtreme bounds ls x → IsExtreme bounds ls y → x ≡ y
  extreme_one None None a b = refl
  extreme_one None (Some q) a b = absurd (extreme_some q b a)
  extreme_one (Some p) None a b = absurd (extreme_some p a b)
  extreme_one (Some p) (Some q) a b =
      let h : bounds p q = rw b.price at (a.every b.line b.among) in
      let g : bounds q p = rw a.price at (b.every a.line a.among) in
      ap Some (two p q h g)

-- x stands before y: then not both can be the newest
place_apart : (c : List Line) (x y z : Line) (a d : List Line) → x ∷ a ≡ z ∷ (c ++ (y ∷ d))
    → ((l : Line) → Memᴰ l a → l.place ≤ x.place) → ((l : Line) → Memᴰ l (z ∷ c) → l.place < y.place) → ⊥
place_apart c x y z a d e ha hc =
    let p : x ≡ z = cc in
    let q : a ≡ c ++ (y ∷ d) = cc in
    let m : Memᴰ y a = rw q (mathlib.Core.List.Memᴰ.append_right c (mathlib.Core.List.Memᴰ.head refl)) in
    omega (arith, ha y m, hc x (mathlib.Core.List.Memᴰ.head p))

-- one line of a list has smaller places before it and no greater ones after it
place_one : (b c : List Line) (x y : Line) (a d : List Line) → b ++ (x ∷ a) ≡ c ++ (y ∷ d)
    → ((l : Line) → Memᴰ l b → l.place < x.place) → ((l : Line) → Memᴰ l a → l.place ≤ x.place)
    → ((l : Line) → Memᴰ l c → l.place < y.place) → ((l : Line) → Memᴰ l d → l.place ≤ y.place) → x ≡ y
place_one [] [] x y a d e hb ha hc hd = cc
place_one [] (z ∷ c) x y a d e hb ha hc hd = absurd (place_apart c x y z a d e ha hc)
place_one (z ∷ b) [] x y a d e hb ha hc hd = absurd (place_apart b y x z d a (sym e) hd hb)
place_one (z ∷ b) (u ∷ c) x y a d e hb ha hc hd =
    let q : b ++ (x ∷ a) ≡ c ++ (y ∷ d) = cc in
    place_one b c x y a d q (λ l m. hb l (mathlib.Core.List.Memᴰ.tail m)) ha (λ l m. hc l (mathlib.Core.List.Memᴰ.tail m)) hd

module _ (ls : List Line) where
  newest_some : (v p : ℕ) → Newest ls v p → ls ≡ [] → ⊥
  newest_some v p h e =
      let m : Memᴰ h.line ls = rw h.whole (mathlib.Core.List.Memᴰ.append_right h.before (mathlib.Core.List.Memᴰ.head refl)) in
      mathlib.Core.List.Memᴰ.not-nil (rw e at m)

  newest_one : (v p w q : ℕ) (a : Newest ls v p) (b : Newest ls w q) → a.line ≡ b.line
  newest_one v p w q a b =
      place_one a.before b.before a.line b.line a.after b.after (sym a.whole ∙ b.whole)
      (λ l m. omega (arith, a.smaller l m, a.place))
      (λ l m. omega (arith, a.no_greater l m, a.place))
      (λ l m. omega (arith, b.smaller l m, b.place))
      (λ l m. omega (arith, b.no_greater l m, b.place))

  last_one : (x y : Option LastTrade) → IsLast ls x → IsLast ls y → x ≡ y
  last_one None None a b = refl
  last_one None (Some y) a b = absurd (newest_some y.place y.price b a)
  last_one (Some x) None a b = absurd (newest_some x.place x.price a b)
  last_one (Some x) (Some y) a b =
      let e : a.line ≡ b.line = newest_one x.place x.price y.place y.price a b in
      let place : x.place ≡ y.place = sym a.place ∙ ap (λ (l : Line). l.place) e ∙ b.place in
      let price : x.price ≡ y.price = sym a.price ∙ ap (λ (l : Line). l.price) e ∙ b.price in
      let made : last_trade x.place x.price ≡ last_trade y.place y.price = cc in
      ap Some made

-- the meaning leaves one value
pub figures_one : {symbol : List ℕ} {ls : List Line} {f g : Figures} → Are symbol ls f → Are symbol ls g → f ≡ g
figures_one {symbol} {ls} {f} {g} a b =
    same (a.volume ∙ sym b.volume) (a.count ∙ sym b.count)
    (extreme_one (λ (high p : ℕ). p ≤ high) (λ p q h k. omega arith) (first_mark (live_of symbol ls)) f.high g.high a.high b.high)
    (extreme_one (λ (low p : ℕ). low ≤ p) (λ p q h k. omega arith) (first_mark (live_of symbol ls)) f.low g.low a.low b.low)
    (last_one (second_mark (live_of symbol ls)) f.last g.last a.last b.last)
  where
    made : ℕ → ℕ → Option ℕ → Option ℕ → Option LastTrade → Figures
    made v c h l z = record { volume = v; count = c; high = h; low = l; last = z }

    same : f.volume ≡ g.volume → f.count ≡ g.count → f.high ≡ g.high → f.low ≡ g.low → f.last ≡ g.last → f ≡ g
    same v c h l z =
        let e : made f.volume f.count f.high f.low f.last ≡ made g.volume g.count g.high g.low g.last = cc in
        e

-- ---- volume and count fit

keep_length : {A : Type 0} (passes : A → Bool) (xs : List A) → length (keep passes xs) ≤ length xs
keep_length passes [] = omega arith
keep_length passes (x ∷ xs) = go (passes x) (keep_length passes xs)
  where
    go : (t : Bool) → length (keep passes xs) ≤ length xs → length (cond t (x ∷ keep passes xs) (keep passes xs)) ≤ suc (length xs)
    go true h = omega arith
    go false h = omega arith

-- the sizes of lines that are each at most b
keep_sizes : (passes : Line → Bool) (line : ℕ → Line) (b : ℕ) → ((k : ℕ) → (line k).size ≤ b) → (i n : ℕ)
    → sizes (keep passes (tab line i n)) ≤ n * b
unfolding tab
keep_sizes passes line b h i zero = omega arith
keep_sizes passes line b h i (suc n) = go (passes (line i)) (keep_sizes passes line b h (suc i) n)
  where
    rest : List Line
    rest = keep passes (tab line (suc i) n)

    go : (t : Bool) → sizes rest ≤ n * b → sizes (cond t (line i ∷ rest) rest) ≤ suc n * b
    go true r = omega (arith, h i, suc-mul n b)
    go false r = omega (arith, suc-mul n b)

module _ (m symbol : List ℕ) (used : ℕ) where
  pub volume_fits : Bytes m → (figures_of symbol (used_lines m used)).volume ≤ line_cap * 4294967295
  unfolding used_lines line_from
  volume_fits b =
      let e = (figures_are symbol (used_lines m used)).volume in
      let s
      = keep_sizes (counts symbol) (line_at m) 4294967295 (λ k. omega (arith, be_below m (k * line_cell + at_size) 4 b)) 0
      (min used (line_limit (length m))) in
      omega (arith, e, s)

  pub count_fits : (figures_of symbol (used_lines m used)).count ≤ line_cap
  count_fits =
      let e = (figures_are symbol (used_lines m used)).count in
      omega (arith, e, keep_length (counts symbol) (used_lines m used), used_lines_length m used)
