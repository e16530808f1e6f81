-- A message stored in pieces is written by its layout.
-- Assumes nothing.
use mathlib.Core.Path.{◌≡◌, refl, ap, sym, ◌∙◌}
use mathlib.Core.List.{List, [], ◌∷◌, ◌++◌, append_assoc}
use Prim.Native.Nat.{ℕ, ◌+◌, ◌-◌, ◌≤◌}
use native.Mathlib.Omega.{arith}
use lib.ListN.{length, take, drop, get_or, set, replicate, length-append}
use lib.Seq.{sets, take_at}
use Rattle.octets.specs.Run.{tab, part, Bytes}
use Rattle.octets.proofs.Laws.{part_length, sets_then, sets_front}
use Rattle.numbers.specs.Number.{be}
use Rattle.digits.specs.Field.{shown_in}
use Rattle.digits.proofs.Laws.{shown_length}
use Rattle.kinds.specs.declared.Kind.{Kind}
use Rattle.kinds.specs.declared.Kind.TheVariants.{Event, Trade, Cancel, Correction, Summary, Other}
use Rattle.records.specs.Held.{write_by, bytes_in}
use Rattle.records.specs.Packed.{slots, record_of}
use Rattle.records.proofs.Held.{written_long}
use Rattle.records.proofs.Again.{told, packed_long}
use Rattle.pls.specs.Layouts.{layout_s, layout_t, layout_c, layout_of, length_of}
use Rattle.pls.proofs.Good.{good}
use Rattle.pls.proofs.Laws.{longest, four_runs}
use Rattle.plswrite.specs.Stored.{sale_shown, head_stored, trade_stored}

-- ---- in pieces

-- the four parts of a trade
pub sale_shown_lem : (l b : List ℕ) (to at : ℕ)
    → let price = shown_in 10 4 (be (part b (at + 10) 4)) in
    let size = shown_in 9 1 (be (part b (at + 14) 4)) in
    sets (sets (sets (sets l to (part b at 10)) (to + 10) price) (to + 20) size) (to + 29) (part b (at + 18) 4)
    ≡ sets l to (sale_shown b at)
unfolding sale_shown
sale_shown_lem l b to at =
    let p = be (part b (at + 10) 4) in
    let s = be (part b (at + 14) 4) in
    four_runs (part b at 10) (shown_in 10 4 p) (shown_in 9 1 s) (part b (at + 18) 4) l to (to + 10) (to + 20) (to + 29)
    (omega (arith, part_length b at 10)) (omega (arith, shown_length 10 4 p)) (omega (arith, shown_length 9 1 s))

-- ---- write: the pieces of a record's bytes, one behind the other, are its message

sale_length : (b : List ℕ) (at : ℕ) → length (sale_shown b at) ≡ 33
unfolding sale_shown
sale_length b at =
    simp
    (length-append, part_length, shown_length 10 4 (be (part b (at + 10) 4)), shown_length 9 1 (be (part b (at + 14) 4)))
    refl

module _ (b : List ℕ) (g : Bytes b) (out : List ℕ) where
  -- what follows a time and a letter at the front
  abbrev time : List ℕ
  time = shown_in 8 1 (be (part b 1 4))

  begins : (xs : List ℕ) → sets (head_stored out b) 9 xs ≡ sets out 0 (time ++ (get_or b 0 0 ∷ xs))
  begins xs = sets_then time (get_or b 0 0 ∷ xs) out 0 8 (omega (arith, shown_length 8 1 (be (part b 1 4))))

  pub s_put : set (head_stored out b) 9 (get_or b 5 0) ≡ sets out 0 (write_by layout_s (record_of b))
  unfolding part tab slots layout_s
  s_put = begins (get_or b 5 0 ∷ []) ∙ ap (sets out 0) (told layout_s b g)

  pub t_put : (k : ℕ) → trade_stored out b ≡ sets out 0 (write_by (layout_t k) (record_of b))
  unfolding part tab slots layout_t sale_shown
  t_put k = begins (part b 6 10 ++ sale_shown b 16) ∙ ap (sets out 0) (told (layout_t k) b g)

  -- a trade before what follows
  sale_then : (at : ℕ) (xs : List ℕ)
      → sale_shown b at ++ xs
      ≡ part b at 10 ++ (shown_in 10 4 (be (part b (at + 10) 4)) ++ (shown_in 9 1 (be (part b (at + 14) 4)) ++ (part b (at + 18) 4 ++ xs)))
  unfolding sale_shown
  sale_then at xs = rw (append_assoc, append_assoc, append_assoc)

  pub c_put : sets (trade_stored out b) 52 (sale_shown b 38)
      ≡ sets out 0 (write_by layout_c (record_of b))
  unfolding part tab slots layout_c sale_shown
  c_put =
      let named = part b 6 10 in
      sets_then (sale_shown b 16) (sale_shown b 38) (sets (head_stored out b) 9 named) 19 52 (omega (arith, sale_length b 16))
      ∙ begins (named ++ (sale_shown b 16 ++ sale_shown b 38))
      ∙ ap (λ (xs : List ℕ). sets out 0 (time ++ (get_or b 0 0 ∷ (named ++ xs)))) (sale_then 16 (sale_shown b 38))
      ∙ ap (sets out 0) (told layout_c b g)

-- ---- a room that is shorter than its type's messages

whole_long : (k : Kind) (b : List ℕ) → length (bytes_in (layout_of k) (record_of b)) ≡ length_of k
whole_long Event b = written_long layout_s (good Event).tiled (record_of b) (packed_long b)
whole_long Trade b = written_long (layout_t 84) (good Trade).tiled (record_of b) (packed_long b)
whole_long Cancel b = written_long (layout_t 88) (good Cancel).tiled (record_of b) (packed_long b)
whole_long Correction b = written_long layout_c (good Correction).tiled (record_of b) (packed_long b)
whole_long Summary b = refl
whole_long Other b = refl

-- a message stored in bytes of our own, and these lent on
pub whole_lent : (k : Kind) (b l : List ℕ) (n : ℕ) → n ≡ length_of k
    → let xs = bytes_in (layout_of k) (record_of b) in sets l 0 (take (n - 0) (drop 0 (sets (replicate 85 0) 0 xs))) ≡ sets l 0 xs
whole_lent k b l n q =
    let xs = bytes_in (layout_of k) (record_of b) in
    let e : n - 0 ≡ n = omega arith in
    let h : length xs ≡ n = whole_long k b ∙ sym q in
    let room : length xs ≤ 85 = omega (arith, whole_long k b, longest k) in
    ap (λ (j : ℕ). sets l 0 (take j (sets (replicate 85 0) 0 xs))) e
    ∙ ap (λ (ys : List ℕ). sets l 0 (take n ys)) (sets_front xs (replicate 85 0) room)
    ∙ ap (sets l 0) (take_at xs (drop (length xs) (replicate 85 0)) n h)
