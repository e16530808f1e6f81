-- Lists of texts and of lines: a text at most once, the first line that bears a key, a line made dead.
-- Assumes nothing.
use Rattle.std.specs.Prelude.{None, Option, Some, ℕ}
use Prim.Native.Nat.{ℕ, suc}
use mathlib.Core.Path.{◌≡◌, refl, sym, ap, subst, ◌∙◌}
use mathlib.Core.Bool.{Bool, true, false, cond, ◌||◌, true≢false}
use mathlib.Core.List.{List, [], ◌∷◌, ◌++◌, map, append-nil, reverse, reverse_aux}
use borrow.Author.Tests.{not-false}
use lib.ListN.{get_or}
use Rattle.octets.specs.Run.{same}
use Rattle.octets.proofs.Trips.{same_is}
use Rattle.lines.specs.declared.Line.{Line}
use Rattle.cells.specs.Search.{first}
use Rattle.lines.specs.Lines.{bears, line_with, no_line}
use Rattle.lines.specs.Changed.{dead}
use Rattle.table.specs.Table.{is_found, is_listed, dead_at}
use Rattle.rows.specs.declared.Listing.{Listing}
use Rattle.table.proofs.Tables.{neither}
use Rattle.clerk.specs.Steps.{line_found, kill_found}
use Rattle.clerk.specs.Clerk.{is_in, symbols_in}
use Rattle.clerk.specs.Claims.{NoRepeat, keys_of}

-- ---- tests

pub or_false_left : (a b : Bool) → (a || b) ≡ false → a ≡ false
or_false_left a b e = (neither a b e).0

pub or_false_right : (a b : Bool) → (a || b) ≡ false → b ≡ false
or_false_right a b e = (neither a b e).1

or_assoc : (a b c : Bool) → ((a || b) || c) ≡ (a || (b || c))
or_assoc true b c = refl
or_assoc false b c = refl

pub or_swap : (a b c : Bool) → (a || (b || c)) ≡ (b || (a || c))
or_swap true true c = refl
or_swap true false c = refl
or_swap false true c = refl
or_swap false false c = refl

-- a text is the same as itself
pub same_refl : (k : List ℕ) → same k k ≡ true
same_refl k = (same_is k k).1 refl

pub same_comm : (j k : List ℕ) → same j k ≡ same k j
same_comm j k = go (same j k) refl (same k j) refl
  where
    go : (t : Bool) → same j k ≡ t → (u : Bool) → same k j ≡ u → t ≡ u
    go true t true u = refl
    go true t false u = sym ((same_is k j).1 (sym ((same_is j k).0 t))) ∙ u
    go false t true u = sym t ∙ (same_is j k).1 (sym ((same_is k j).0 u))
    go false t false u = refl

-- ---- texts in a list

pub listed_append : (x : List ℕ) (xs ys : List (List ℕ)) → is_in x (xs ++ ys) ≡ (is_in x xs || is_in x ys)
listed_append x [] ys = refl
listed_append x (a ∷ xs) ys = ap (λ (t : Bool). same a x || t) (listed_append x xs ys) ∙ sym (or_assoc (same a x) (is_in x xs) (is_in x ys))

pub no_repeat_snoc : (xs : List (List ℕ)) (x : List ℕ) → NoRepeat xs → is_in x xs ≡ false → NoRepeat (xs ++ (x ∷ []))
no_repeat_snoc [] x d h = (refl, tt)
no_repeat_snoc (y ∷ xs) x d h =
    let ne : same y x ≡ false = or_false_left (same y x) (is_in x xs) h in
    (listed_append y xs (x ∷ []) ∙ rw (d.0, same_comm x y, ne), no_repeat_snoc xs x d.1 (or_false_right (same y x) (is_in x xs) h))

pub no_repeat_left : (xs ys : List (List ℕ)) → NoRepeat (xs ++ ys) → NoRepeat xs
no_repeat_left [] ys d = tt
no_repeat_left (x ∷ xs) ys d = (or_false_left (is_in x xs) (is_in x ys) (sym (listed_append x xs ys) ∙ d.0), no_repeat_left xs ys d.1)

pub no_repeat_last : (xs : List (List ℕ)) (x : List ℕ) → NoRepeat (xs ++ (x ∷ [])) → is_in x xs ≡ false
no_repeat_last [] x d = refl
no_repeat_last (y ∷ xs) x d =
    let ne : same x y ≡ false = or_false_left (same x y) false (or_false_right (is_in y xs) _ (sym (listed_append y xs (x ∷ [])) ∙ d.0)) in
    rw (same_comm y x, ne) (no_repeat_last xs x d.1)

-- a text that stands between others stands with none of them, and those have no repeat either
no_repeat_between : (xs : List (List ℕ)) (x : List ℕ) (ys : List (List ℕ)) → NoRepeat (xs ++ (x ∷ ys))
    → NoRepeat (x ∷ (xs ++ ys))
no_repeat_between [] x ys d = d
no_repeat_between (z ∷ xs) x ys d =
    let i = no_repeat_between xs x ys d.1 in
    let apart : (is_in z xs || (same x z || is_in z ys)) ≡ false = sym (listed_append z xs (x ∷ ys)) ∙ d.0 in
    let right = or_false_right (is_in z xs) (same x z || is_in z ys) apart in
    let ne : same z x ≡ false = same_comm z x ∙ or_false_left (same x z) (is_in z ys) right in
    let clear : is_in z (xs ++ ys) ≡ false
    = listed_append z xs ys ∙ rw (or_false_left (is_in z xs) _ apart, or_false_right (same x z) (is_in z ys) right) in
    (rw (ne, i.0), (clear, i.1))

-- a list that turned about has no repeat has none
pub no_repeat_turned : (xs : List (List ℕ)) → NoRepeat (reverse xs) → NoRepeat xs
no_repeat_turned xs d = subst NoRepeat (append-nil xs) (onto xs [] d)
  where
    onto : (xs ys : List (List ℕ)) → NoRepeat (reverse_aux xs ys) → NoRepeat (xs ++ ys)
    onto [] ys d = d
    onto (x ∷ xs) ys d = no_repeat_between xs x ys (onto xs (x ∷ ys) d)

-- ---- the search, one step

abbrev pub up : Option ℕ → Option ℕ
up None = None
up (Some i) = Some (suc i)

first_up : {A : Type 0} (serves : A → Bool) (xs : List A) (s : ℕ) → first serves xs (suc s) ≡ up (first serves xs s)
unfolding first
first_up serves [] s = refl
first_up serves (x ∷ xs) s = go (serves x) (first_up serves xs (suc s))
  where
    go : (t : Bool) → first serves xs (suc (suc s)) ≡ up (first serves xs (suc s))
        → cond t (Some (suc s)) (first serves xs (suc (suc s))) ≡ up (cond t (Some s) (first serves xs (suc s)))
    go true e = refl
    go false e = e

pub first_hit : {A : Type 0} (serves : A → Bool) (x : A) (xs : List A) → serves x ≡ true → first serves (x ∷ xs) 0 ≡ Some 0
unfolding first
first_hit serves x xs e = rw e

pub first_miss : {A : Type 0} (serves : A → Bool) (x : A) (xs : List A) → serves x ≡ false
    → first serves (x ∷ xs) 0 ≡ up (first serves xs 0)
unfolding first
first_miss serves x xs e = rw e (first_up serves xs 0)

-- whether anything serves does not go by where the count starts
found_counted : {A : Type 0} (serves : A → Bool) (xs : List A) (i j : ℕ) → is_found (first serves xs i) ≡ is_found (first serves xs j)
unfolding first
found_counted serves [] i j = refl
found_counted serves (x ∷ xs) i j = go (serves x) (found_counted serves xs (suc i) (suc j))
  where
    go : (t : Bool) → is_found (first serves xs (suc i)) ≡ is_found (first serves xs (suc j))
        → is_found (cond t (Some i) (first serves xs (suc i))) ≡ is_found (cond t (Some j) (first serves xs (suc j)))
    go true e = refl
    go false e = e

-- a search for a text finds something exactly where the text is one of those that the elements bear
pub found_is : {A : Type 0} (text : A → List ℕ) (key : List ℕ) (xs : List A)
    → is_found (first (λ (x : A). same (text x) key) xs 0) ≡ is_in key (map text xs)
unfolding first
found_is text key [] = refl
found_is text key (x ∷ xs) = go (same (text x) key) (found_counted (λ y. same (text y) key) xs 1 0 ∙ found_is text key xs)
  where
    go : (t : Bool) → is_found (first (λ y. same (text y) key) xs 1) ≡ is_in key (map text xs)
        → is_found (cond t (Some 0) (first (λ y. same (text y) key) xs 1)) ≡ (t || is_in key (map text xs))
    go true e = refl
    go false e = e

-- ---- keys of lines

pub borne_is : (key : List ℕ) (ls : List Line) → is_found (line_with key ls) ≡ is_in key (keys_of ls)
borne_is key ls = found_is (λ (l : Line). l.key) key ls

-- a symbol is listed exactly where it is one of the sheet's
pub listed_is_in : (symbol : List ℕ) (sheet : List Listing) → is_listed symbol sheet ≡ is_in symbol (symbols_in sheet)
listed_is_in symbol sheet = found_is (λ (l : Listing). l.symbol) symbol sheet

-- the first line that bears the key
unfoldable pub named : List ℕ → List Line → Line
named key ls = line_found ls (line_with key ls)

found_up : (l : Line) (ls : List Line) (f : Option ℕ) → line_found (l ∷ ls) (up f) ≡ line_found ls f
found_up l ls None = refl
found_up l ls (Some i) = refl

pub named_hit : (key : List ℕ) (l : Line) (ls : List Line) → same l.key key ≡ true → named key (l ∷ ls) ≡ l
unfolding named
named_hit key l ls e = ap (line_found (l ∷ ls)) (first_hit (bears key) l ls e)

pub named_miss : (key : List ℕ) (l : Line) (ls : List Line) → same l.key key ≡ false → named key (l ∷ ls) ≡ named key ls
unfolding named
named_miss key l ls e = ap (line_found (l ∷ ls)) (first_miss (bears key) l ls e) ∙ found_up l ls (line_with key ls)

pub named_none : (key : List ℕ) (ls : List Line) → is_in key (keys_of ls) ≡ false → named key ls ≡ no_line
unfolding named first
named_none key [] h = refl
named_none key (l ∷ ls) h =
    named_miss key l ls (or_false_left (same l.key key) (is_in key (keys_of ls)) h)
    ∙ named_none key ls (or_false_right (same l.key key) (is_in key (keys_of ls)) h)

-- in two lists: in the first, if a line there bears the key
pub named_append : (key : List ℕ) (xs ys : List Line) → named key (xs ++ ys) ≡ cond (is_in key (keys_of xs)) (named key xs) (named key ys)
named_append key [] ys = refl
named_append key (l ∷ xs) ys = go (same l.key key) refl (named_append key xs ys)
  where
    go : (t : Bool) → same l.key key ≡ t → named key (xs ++ ys) ≡ cond (is_in key (keys_of xs)) (named key xs) (named key ys)
        → named key (l ∷ (xs ++ ys)) ≡ cond (t || is_in key (keys_of xs)) (named key (l ∷ xs)) (named key ys)
    go true t i = named_hit key l (xs ++ ys) t ∙ sym (named_hit key l xs t)
    go false t i = rw (named_miss key l (xs ++ ys) t, named_miss key l xs t) i

-- a line that is borne and not dead is live
pub named_live : (key : List ℕ) (ls : List Line) → is_found (line_with key ls) ≡ true → dead_at ls (line_with key ls) ≡ false
    → (named key ls).live ≡ true
unfolding named
named_live key ls b d = go (line_with key ls) b d
  where
    go : (f : Option ℕ) → is_found f ≡ true → dead_at ls f ≡ false → (line_found ls f).live ≡ true
    go None b d = absurd (true≢false (sym b))
    go (Some i) b d = not-false (get_or ls i no_line).live d

-- ---- a line made dead

unfoldable pub kill : List ℕ → Line → Line
kill key l = cond (same l.key key) (dead l) l

kill_none : (key : List ℕ) (ls : List Line) → is_in key (keys_of ls) ≡ false → map (kill key) ls ≡ ls
unfolding kill
kill_none key [] h = refl
kill_none key (l ∷ ls) h =
    rw (
      or_false_left (same l.key key) (is_in key (keys_of ls)) h,
      kill_none key ls (or_false_right (same l.key key) (is_in key (keys_of ls)) h),
    )

kill_up : (l : Line) (ls : List Line) (f : Option ℕ) → kill_found (l ∷ ls) (up f) ≡ l ∷ kill_found ls f
kill_up l ls None = refl
kill_up l ls (Some i) = refl

-- where no two lines bear one key, killing the first that bears it is killing each that does
pub kill_found_lem : (key : List ℕ) (ls : List Line) → NoRepeat (keys_of ls) → kill_found ls (line_with key ls) ≡ map (kill key) ls
unfolding kill first
kill_found_lem key [] u = refl
kill_found_lem key (l ∷ ls) u = go (same l.key key) refl (kill_found_lem key ls u.1)
  where
    go : (t : Bool) → same l.key key ≡ t → kill_found ls (line_with key ls) ≡ map (kill key) ls
        → kill_found (l ∷ ls) (line_with key (l ∷ ls)) ≡ cond t (dead l) l ∷ map (kill key) ls
    go true t i =
        ap (kill_found (l ∷ ls)) (first_hit (bears key) l ls t)
        ∙ ap {B = List Line} (λ rest. dead l ∷ rest) (sym (kill_none key ls (rw ((same_is l.key key).0 t) at u.0)))
    go false t i =
        ap (kill_found (l ∷ ls)) (first_miss (bears key) l ls t)
        ∙ kill_up l ls (line_with key ls)
        ∙ ap {B = List Line} (λ rest. l ∷ rest) i
