-- Which line of the wall is which, what the lines make together, and the turns of the loop that writes them.
-- Assumes nothing.
use Rattle.std.specs.Prelude.{None, Option, Some, ℕ}
use mathlib.Core.Path.{◌≡◌, refl, ap, sym, ◌∙◌}
use mathlib.Core.Bool.{Bool, true, false}
use mathlib.Core.List.{List, [], ◌∷◌, ◌++◌, map, append-nil, append_assoc}
use Prim.Native.Nat.{ℕ, zero, suc, ◌+◌, ◌-◌, ◌≤◌, ◌<◌, min}
use native.Mathlib.Nat.{add-zero, zero-add}
use native.Mathlib.Numerals.{add-one}
use native.Mathlib.Omega.{arith}
use borrow.Author.Tests.{leb-true, leb-false}
use lib.Dec.{leb}
use lib.ListN.{length, take, drop, get_or, drop_of_length-le, length-drop, length-append, length-map}
use lib.ListN.{get_or-append, get_or-eq_default}
use lib.Seq.{sets, set_out, length-sets, get_or-append-add, take_all}
use Rattle.octets.specs.Run.{tab}
use Rattle.octets.proofs.Laws.{tab_snoc, sets_then}
use Rattle.rows.specs.declared.Row.{Row}
use Rattle.rows.specs.Rows.{row_limit, used_rows, row_in, no_row}
use Rattle.rows.proofs.Slabs.{used_rows_length, row_in_lem}
use Rattle.figures.specs.declared.Figures.{Figures}
use Rattle.walk.specs.Walking.{figures_of}
use Rattle.show.specs.declared.RowShown.{RowShown}
use Rattle.show.specs.Showing.{shown_of}
use Rattle.print.proofs.Whole.{sets_behind}
use Rattle.print.specs.Texts.{header_text, row_text, closing_text, stop_text}
use Rattle.book.specs.State.{State, rows_in, lines_in}
use Rattle.tape.specs.Playing.{joined}
use Rattle.page.specs.Page.{shown_row, row_lines, end_text, end_lines, wall_lines, line_of, wall_of}

-- ---- which line is which

map_get : {A B : Type 0} (f : A → B) (xs : List A) (i : ℕ) (a : A) (b : B) → i < length xs → get_or (map f xs) i b ≡ f (get_or xs i a)
map_get f [] i a b h = absurd (omega arith)
map_get f (x ∷ xs) zero a b h = refl
map_get f (x ∷ xs) (suc i) a b h = map_get f xs i a b (omega arith)

module _ (s : State) (e : Option ℕ) where
  abbrev closed : List ℕ
  closed = closing_text s.counters.taken s.counters.wanted

  rows_many : length (row_lines s) ≡ length (rows_in s)
  rows_many = length-map (rows_in s) (λ (w : Row). row_text (shown_row s w))

  pub header_is : (k : ℕ) → k ≡ 0 → header_text ≡ line_of s e k
  unfolding line_of wall_lines
  header_is k h = rw h

  row_there : (k : ℕ) → (k ≡ 0 → ⊥) → k ≤ length (rows_in s) → row_text (shown_row s (row_in s.rows (k - 1))) ≡ line_of s e k
  unfolding line_of wall_lines
  row_there zero z h = absurd (z refl)
  row_there (suc i) z h =
      let l : i < length (row_lines s) = omega (arith, rows_many) in
      let j : i < length (rows_in s) = omega arith in
      let m : i < min s.counters.rows (row_limit (length s.rows)) = omega (arith, used_rows_length s.rows s.counters.rows) in
      let k : suc i - 1 ≡ i = omega arith in
      ap (λ (x : ℕ). row_text (shown_row s (row_in s.rows x))) k
      ∙ ap (λ (w : Row). row_text (shown_row s w)) (sym (row_in_lem s.rows s.counters.rows i m))
      ∙ sym (map_get (λ (w : Row). row_text (shown_row s w)) (rows_in s) i no_row [] j)
      ∙ sym (get_or-append (row_lines s) (closed ∷ end_lines e) [] i l)

  pub row_is : (k i : ℕ) → i ≡ k - 1 → (k ≡ 0 → ⊥) → k ≤ length (rows_in s) → row_text (shown_row s (row_in s.rows i)) ≡ line_of s e k
  row_is k i q z h = ap (λ (x : ℕ). row_text (shown_row s (row_in s.rows x))) q ∙ row_there k z h

  -- behind the rows
  behind : (j : ℕ) → line_of s e (suc (length (rows_in s) + j)) ≡ get_or (closed ∷ end_lines e) j []
  unfolding line_of wall_lines
  behind j =
      ap (λ (n : ℕ). get_or (row_lines s ++ (closed ∷ end_lines e)) (n + j) []) (sym rows_many)
      ∙ get_or-append-add (row_lines s) (closed ∷ end_lines e) j []

  pub closing_is : (k n : ℕ) → n ≡ length (rows_in s) → k ≡ n + 1 → closed ≡ line_of s e k
  closing_is k n h q =
      let i : suc (length (rows_in s) + 0) ≡ k = omega arith in
      sym (behind 0) ∙ ap (line_of s e) i

  pub end_is : (k n : ℕ) → n ≡ length (rows_in s) → k ≡ n + 2 → end_text e ≡ line_of s e k
  end_is k n h q =
      let i : suc (length (rows_in s) + 1) ≡ k = omega arith in
      sym (behind 1) ∙ ap (line_of s e) i

  lines_most : length (wall_lines s e) ≤ length (rows_in s) + 3
  unfolding wall_lines
  lines_most = omega (arith, length-append (row_lines s) (closed ∷ end_lines e), rows_many, go e)
    where
      go : (e : Option ℕ) → length (end_lines e) ≤ 1
      go None = omega arith
      go (Some n) = omega arith

  pub none_is : (k : ℕ) → length (rows_in s) + 3 ≤ k → [] ≡ line_of s e k
  unfolding line_of
  none_is k h = sym (get_or-eq_default (wall_lines s e) [] (omega (arith, lines_most)))

-- ---- what a line's function promises

-- a text that stands under two names
pub as_line : (l l' : List ℕ) (r : ℕ) (t t' : List ℕ) → t ≡ t' → (l' ≡ sets l 0 t) × (r ≡ length t) → (l' ≡ sets l 0 t') × (r ≡ length t')
as_line l l' r t t' e h = (h.0 ∙ ap (sets l 0) e, h.1 ∙ ap length e)

pub row_text_lem : (s : State) (i : ℕ) (kept : Row) (f : Figures) (w : RowShown) → kept ≡ row_in s.rows i
    → f ≡ figures_of kept.listing.symbol (lines_in s) → w ≡ shown_of kept f → row_text w ≡ row_text (shown_row s (row_in s.rows i))
row_text_lem s i kept f w e g h = ap row_text (h ∙ ap (shown_of kept) g ∙ ap (shown_row s) e)

-- ---- the lines together

-- the first k lines, one behind the other
abbrev pub so_far : State → Option ℕ → ℕ → List ℕ
so_far s e k = joined (tab (line_of s e) 0 k)

pub joined_append : (xs ys : List (List ℕ)) → joined (xs ++ ys) ≡ joined xs ++ joined ys
joined_append [] ys = refl
joined_append (x ∷ xs) ys = ap (λ (l : List ℕ). x ++ l) (joined_append xs ys) ∙ sym (append_assoc x (joined xs) (joined ys))

joined_snoc : (xs : List (List ℕ)) (y : List ℕ) → joined (xs ++ (y ∷ [])) ≡ joined xs ++ y
joined_snoc xs y = joined_append xs (y ∷ []) ∙ ap (λ (l : List ℕ). joined xs ++ l) (append-nil y)

pub one_more_lem : (s : State) (e : Option ℕ) (k : ℕ) → so_far s e (k + 1) ≡ so_far s e k ++ line_of s e k
one_more_lem s e k =
    ap (so_far s e) (add-one k)
    ∙ ap joined (tab_snoc (line_of s e) 0 k)
    ∙ joined_snoc (tab (line_of s e) 0 k) (line_of s e (0 + k))
    ∙ ap (λ (i : ℕ). so_far s e k ++ line_of s e i) (zero-add k)

tab_shift : {A : Type 0} (f : ℕ → A) (i n : ℕ) → tab f (suc i) n ≡ tab (λ j. f (suc j)) i n
unfolding tab
tab_shift {A = A} f i zero = refl
tab_shift {A = A} f i (suc n) = ap (λ (xs : List A). f (suc i) ∷ xs) (tab_shift f (suc i) n)

nothing_more : (i n : ℕ) → joined (tab (λ (j : ℕ). get_or {A = List ℕ} [] j []) i n) ≡ []
unfolding tab
nothing_more i zero = refl
nothing_more i (suc n) = nothing_more (suc i) n

in_order_lem : (xs : List (List ℕ)) (n : ℕ) → length xs ≤ n → joined (tab (λ (j : ℕ). get_or xs j []) 0 n) ≡ joined xs
unfolding tab
in_order_lem [] n h = nothing_more 0 n
in_order_lem (x ∷ xs) zero h = absurd (omega arith)
in_order_lem (x ∷ xs) (suc n) h =
    ap (λ (l : List ℕ). x ++ l) (ap joined (tab_shift (λ (j : ℕ). get_or (x ∷ xs) j []) 0 n) ∙ in_order_lem xs n (omega arith))

-- the wall is line 0, line 1 and so on to the last, and nothing else
pub wall_lines_lem : (s : State) (e : Option ℕ) (n : ℕ) → length (wall_lines s e) ≤ n → so_far s e n ≡ wall_of s e
unfolding wall_of line_of
wall_lines_lem s e n h = in_order_lem (wall_lines s e) n h

-- ---- the turns of `write`

-- a text stored past the end goes nowhere
nowhere : (ys l : List ℕ) (at : ℕ) → length l ≤ at → sets l at ys ≡ l
nowhere [] l at h = refl
nowhere (y ∷ ys) l at h = ap (λ (x : List ℕ). sets x (suc at) ys) (set_out l at y h) ∙ nowhere ys l (suc at) (omega arith)

-- a text stored from a place on leaves what stands before it
from_place : (ys l : List ℕ) (a : ℕ) → a ≤ length l → take a l ++ sets (drop a l) 0 ys ≡ sets l a ys
from_place ys l zero h = refl
from_place ys [] (suc a) h = absurd (omega arith)
from_place ys (x ∷ l) (suc a) h = ap (λ (r : List ℕ). x ∷ r) (from_place ys l a (omega arith)) ∙ sym (sets_behind x ys l a)

module _ (l xs ys out : List ℕ) (a : ℕ) (e : a ≡ min (length xs) (length l)) (f : out ≡ sets l 0 xs) where
  same_size : length out ≡ length l
  same_size = ap length f ∙ length-sets l 0 xs

  pub place_within : a ≤ length out
  place_within = omega (arith, same_size)

  behind_all : sets out a ys ≡ sets l 0 (xs ++ ys)
  behind_all = go (leb (length xs) (length l)) refl
    where
      go : (t : Bool) → leb (length xs) (length l) ≡ t → sets out a ys ≡ sets l 0 (xs ++ ys)
      go true t =
          let h : a ≡ length xs = omega (arith, leb-true (length xs) (length l) t) in
          ap (λ (x : List ℕ). sets x a ys) f ∙ sets_then xs ys l 0 a (omega arith)
      go false t =
          let h = leb-false (length xs) (length l) t in
          nowhere ys out a (omega (arith, same_size))
          ∙ f
          ∙ sym (nowhere ys (sets l 0 xs) (length xs) (omega (arith, length-sets l 0 xs)))
          ∙ sets_then xs ys l 0 (length xs) (omega arith)

  -- the part from the place on is lent and a text is stored at its front
  pub stored_behind : (k : ℕ) (part : List ℕ) → k ≡ length out - a → part ≡ sets (take k (drop a out)) 0 ys
      → take a out ++ (part ++ drop k (drop a out)) ≡ sets l 0 (xs ++ ys)
  stored_behind k part g h =
      let n : length (drop a out) ≤ k = omega (arith, length-drop a out) in
      let p : part ≡ sets (drop a out) 0 ys = h ∙ ap (λ (x : List ℕ). sets x 0 ys) (take_all k (drop a out) n) in
      ap (λ (x : List ℕ). take a out ++ (part ++ x)) (drop_of_length-le (drop a out) n)
      ∙ ap (λ (x : List ℕ). take a out ++ x) (append-nil part ∙ p)
      ∙ from_place ys out a place_within
      ∙ behind_all

-- how many rows there are at most
pub rows_most : (m : List ℕ) (n r : ℕ) → r ≡ length (used_rows m n) → r ≤ 256
rows_most m n r e = omega (arith, used_rows_length m n)

-- after k lines: these stand in the space, as far as there is room, and the next is stored behind them
module _ (s : State) (e : Option ℕ) (l : List ℕ) where
  pub record Written (k at : ℕ) (out : List ℕ) : Type 0 where
    pub place : at ≡ min (length (so_far s e k)) (length l)
    pub bytes : out ≡ sets l 0 (so_far s e k)

  pub none_yet : Written 0 0 l
  unfolding tab
  none_yet = record { place = omega arith; bytes = refl }

  pub within : (k at : ℕ) (out : List ℕ) → Written k at out → (at ≤ length out) × (length out ≡ length l)
  within k at out w =
      (place_within l (so_far s e k) [] out at w.place w.bytes, ap length w.bytes ∙ length-sets l 0 (so_far s e k))

  pub next_turn : (k at : ℕ) (out : List ℕ) → Written k at out → (i n more : ℕ) (part : List ℕ) → i ≡ length out - at
      → (part ≡ sets (take i (drop at out)) 0 (line_of s e k)) × (n ≡ length (line_of s e k)) → more ≡ min n (length l - at)
      → Written (k + 1) (at + more) (take at out ++ (part ++ drop i (drop at out)))
  next_turn k at out w i n more part g h m =
      let t = one_more_lem s e k in
      let p = w.place in
      record {
        place = omega (arith, h.1, ap length t, length-append (so_far s e k) (line_of s e k));
        bytes =
            stored_behind l (so_far s e k) (line_of s e k) out at w.place w.bytes i part g h.0
            ∙ ap (sets l 0) (sym t);
      }

  pub all_turns : (k at : ℕ) (out : List ℕ) (n : ℕ) → n ≡ length (rows_in s) → n + 3 ≤ k → Written k at out
      → (out ≡ sets l 0 (wall_of s e)) × (at ≡ min (length (wall_of s e)) (length l))
  all_turns k at out n q h w =
      let t : so_far s e k ≡ wall_of s e = wall_lines_lem s e k (omega (arith, lines_most s e)) in
      (w.bytes ∙ ap (sets l 0) t, w.place ∙ ap (λ (x : List ℕ). min (length x) (length l)) t)
