-- A message read in pieces is read by its layout.
-- Assumes nothing.
use mathlib.Core.Path.{◌≡◌, refl, sym}
use mathlib.Core.Bool.{and-true}
use mathlib.Core.List.{List}
use Prim.Native.Nat.{ℕ, ◌+◌, ◌/◌, ◌%◌}
use native.Mathlib.Omega.{arith}
use lib.ListN.{get_or, set, replicate}
use lib.Seq.{sets}
use Rattle.octets.specs.Run.{tab, part, Bytes}
use Rattle.octets.proofs.Laws.{part_length}
use Rattle.numbers.specs.Number.{digits}
use Rattle.numbers.proofs.Laws.{digits_length}
use Rattle.digits.specs.Field.{value_of}
use Rattle.kinds.specs.declared.Kind.{Kind}
use Rattle.kinds.specs.declared.Kind.TheVariants.{Event, Trade, Cancel, Correction, Summary, Other}
use Rattle.layout.specs.Values.{room_of}
use Rattle.layout.specs.Tables.{tiles, ready_by}
use Rattle.records.specs.Held.{read_by, filled_in, ready_in}
use Rattle.records.specs.Packed.{slots, record_bytes}
use Rattle.records.proofs.Again.{filled}
use Rattle.pls.specs.Layouts.{layout_s, layout_t, layout_c, layout_of}
use Rattle.pls.proofs.Laws.{four_runs}
use Rattle.plsread.specs.Moved.{price_at, size_at, sale_moved, sale_ready, head_moved, head_ready, trade_moved, trade_ready}

-- ---- in pieces

-- the lowest four bytes of a number are those of what is left of it in 32 bits
pub low_four : (x : ℕ) → digits 4 (x % 4294967296) ≡ digits 4 x
unfolding digits
low_four x =
    let a : x % 4294967296 / 256 / 256 / 256 % 256 ≡ x / 256 / 256 / 256 % 256 = omega arith in
    let b : x % 4294967296 / 256 / 256 % 256 ≡ x / 256 / 256 % 256 = omega arith in
    let c : x % 4294967296 / 256 % 256 ≡ x / 256 % 256 = omega arith in
    let d : x % 4294967296 % 256 ≡ x % 256 = omega arith in
    rw (a, b, c, d)

-- the four parts of a trade
pub sale_moved_lem : (l m : List ℕ) (to at : ℕ)
    → let price = digits 4 (value_of 4 (price_at m at)) in
    let size = digits 4 (value_of 1 (size_at m at)) in
    sets (sets (sets (sets l to (part m at 10)) (to + 10) price) (to + 14) size) (to + 18) (part m (at + 29) 4)
    ≡ sets l to (sale_moved m at)
unfolding sale_moved
sale_moved_lem l m to at =
    let price = digits 4 (value_of 4 (price_at m at)) in
    let size = digits 4 (value_of 1 (size_at m at)) in
    four_runs (part m at 10) price size (part m (at + 29) 4) l to (to + 10) (to + 14) (to + 18) (omega (arith, part_length m at 10))
    (omega (arith, digits_length 4 (value_of 4 (price_at m at)))) (omega (arith, digits_length 4 (value_of 1 (size_at m at))))

-- ---- read: put over eighty zeros, the pieces of a message are its record's bytes

module _ (m : List ℕ) (g : Bytes m) where
  abbrev zeros : List ℕ
  zeros = replicate 80 0

  pub s_filled : head_moved (set zeros 5 (get_or m 9 0)) m ≡ record_bytes (read_by layout_s m)
  unfolding part tab digits slots room_of tiles layout_s
  s_filled = filled layout_s refl m g

  pub t_filled : (k : ℕ) → trade_moved zeros m ≡ record_bytes (read_by (layout_t k) m)
  unfolding part tab digits slots room_of tiles layout_t sale_moved
  t_filled k = filled (layout_t k) refl m g

  pub c_filled : sets (trade_moved zeros m) 38 (sale_moved m 52) ≡ record_bytes (read_by layout_c m)
  unfolding part tab digits slots room_of tiles layout_c sale_moved
  c_filled = filled layout_c refl m g

-- and whether each can be stored is asked of the number, of the three or of the five
module _ (m : List ℕ) where
  pub s_ready : head_ready m ≡ ready_by layout_s m
  unfolding ready_by layout_s room_of
  s_ready = sym (simp and-true refl)

  pub t_ready : (k : ℕ) → trade_ready m ≡ ready_by (layout_t k) m
  unfolding ready_by layout_t room_of sale_ready
  t_ready k = sym (simp and-true refl)

  pub c_ready : sale_ready (trade_ready m) m 52 ≡ ready_by layout_c m
  unfolding ready_by layout_c room_of sale_ready
  c_ready = sym (simp and-true refl)

-- ---- a message that is shorter than its type

-- zeros behind a message say what its end does
pub short_filled : (k : Kind) (m : List ℕ) → filled_in (layout_of k) (part m 0 85) ≡ filled_in (layout_of k) m
unfolding part tab read_by layout_s layout_t layout_c
short_filled Event m = refl
short_filled Trade m = refl
short_filled Cancel m = refl
short_filled Correction m = refl
short_filled Summary m = refl
short_filled Other m = refl

pub short_ready : (k : Kind) (m : List ℕ) → ready_in (layout_of k) (part m 0 85) ≡ ready_in (layout_of k) m
unfolding part tab ready_by layout_s layout_t layout_c
short_ready Event m = refl
short_ready Trade m = refl
short_ready Cancel m = refl
short_ready Correction m = refl
short_ready Summary m = refl
short_ready Other m = refl
