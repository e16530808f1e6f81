-- The longest lines that the types allow, each with a line that is so long.
-- Assumes nothing.
use Rattle.std.specs.Prelude.{None, Option, Some, ℕ, ℤ}
use mathlib.Core.Path.{◌≡◌, refl}
use mathlib.Core.Bool.{Bool, true, false}
use mathlib.Core.List.{List, [], ◌∷◌}
use Prim.Native.Nat.{ℕ, ◌+◌, ◌-◌, ◌^◌, ◌≤◌, ◌<◌}
use native.Mathlib.Omega.{arith}
use borrow.Author.Tests.{ltb-true, ltb-false}
use lib.Dec.{ltb, lit<}
use lib.IntN.{negsuc}
use lib.ListN.{length, length-append}
use Rattle.show.specs.declared.RowShown.{RowShown}
use Rattle.decimal.specs.Decimal.{digit_count, lowest, decimal}
use Rattle.decimal.specs.Letters.{letters}
use Rattle.decimal.specs.Amount.{amount_text}
use Rattle.print.specs.Texts.{price_text, net_text, count_text, reported_text, line, header_text, row_text, closing_text, stop_text}
use Rattle.show.specs.Fits.{NetFits}
use Rattle.print.specs.Fits.{PriceFits, ReportedFits, RowFits, header_longest, row_longest, closing_longest, stop_longest}
use Rattle.decimal.proofs.Numbers.{decimal_most, decimal_short}
use Rattle.decimal.proofs.Amount.{amount_most, signed_short}
use Rattle.print.proofs.Padding.{unpadded_short}

-- ---- figures

price_most : (p : Option ℕ) → PriceFits p → length (price_text p) ≤ 11
price_most None h = omega arith
price_most (Some p) h = omega (arith, amount_most 5 p (omega arith))

net_most : (n : Option ℤ) → NetFits n → length (net_text n) ≤ 21
net_most None h = omega arith
net_most (Some z) h = signed_short z h

count_longest : (n : ℕ) → n < 2 ^ 64 → length (count_text n) ≤ 20
count_longest n h = decimal_short n h

reported_most : (r : Option ℕ) → ReportedFits r → length (reported_text r) ≤ 20
reported_most None h = omega arith
reported_most (Some v) h = count_longest v h

-- ---- lines

line_length : (s a b c d e f g : List ℕ)
    → length (line s (a ∷ b ∷ c ∷ d ∷ e ∷ f ∷ g ∷ []))
    ≡ length s + length a + length b + length c + length d + length e + length f + length g + 8
line_length s a b c d e f g = simp length-append (omega arith)

pub row_longest_lem : (w : RowShown) → RowFits w → length (row_text w) ≤ row_longest
unfolding row_text
row_longest_lem w h =
    rw line_length
    (omega (
      arith,
      unpadded_short w.symbol,
      h.symbol,
      price_most w.last h.last,
      price_most w.high h.high,
      price_most w.low h.low,
      net_most w.net h.net,
      count_longest w.volume h.volume,
      count_longest w.count h.count,
      reported_most w.reported h.reported,
    ))

-- a row that is so long: each number at the end of its type
unfoldable pub long_row : RowShown
long_row =
    record {
      symbol = letters "ABCDEFGH";
      close = 0;
      last = Some 4294967295;
      high = Some 4294967295;
      low = Some 4294967295;
      net = Some (negsuc 9223372036854775807);
      volume = 18446744073709551615;
      count = 18446744073709551615;
      agrees = false;
      reported = Some 18446744073709551615;
    }

pub row_attained : RowFits long_row × (length (row_text long_row) ≡ row_longest)
unfolding row_text amount_text decimal lowest digit_count long_row
row_attained = (
  record {
    symbol = refl;
    last = lit< tt;
    high = lit< tt;
    low = lit< tt;
    net = lit< tt;
    volume = lit< tt;
    count = lit< tt;
    reported = lit< tt;
  },
  refl,
)

pub header_longest_lem : length header_text ≡ header_longest
unfolding header_text
header_longest_lem = refl

-- taken and refused together are less than wanted, so not both have twenty digits
both_most : (t r : ℕ) → t + r < 2 ^ 64 → length (count_text t) + length (count_text r) ≤ 39
both_most t r h = go (ltb t (10 ^ 19)) refl
  where
    go : (b : Bool) → ltb t (10 ^ 19) ≡ b → length (count_text t) + length (count_text r) ≤ 39
    go true e = omega (arith, decimal_most 18 t (ltb-true t (10 ^ 19) e), decimal_most 19 r (omega arith))
    go false e =
        let g : 10 ^ 19 ≤ t = ltb-false t (10 ^ 19) e in
        omega (arith, decimal_most 19 t (omega arith), decimal_most 18 r (omega arith))

-- where more was taken than wanted, nothing was refused
refused_most : (t w : ℕ) → t < 2 ^ 64 → w < 2 ^ 64 → length (count_text t) + length (count_text (w - 1 - t)) ≤ 39
refused_most t w h k = go (ltb t w) refl
  where
    go : (b : Bool) → ltb t w ≡ b → length (count_text t) + length (count_text (w - 1 - t)) ≤ 39
    go true e = both_most t (w - 1 - t) (omega (arith, ltb-true t w e))
    go false e = both_most t (w - 1 - t) (omega (arith, ltb-false t w e))

closing_length : (a b c d e f : List ℕ)
    → length (line a (b ∷ c ∷ d ∷ e ∷ f ∷ [])) ≡ length a + length b + length c + length d + length e + length f + 6
closing_length a b c d e f = simp length-append (omega arith)

pub closing_longest_lem : (t w : ℕ) → t < 2 ^ 64 → w < 2 ^ 64 → length (closing_text t w) ≤ closing_longest
unfolding closing_text
closing_longest_lem t w h k = rw closing_length (omega (arith, refused_most t w h k, count_longest w k))

pub stop_longest_lem : (n : ℕ) → n < 2 ^ 64 → length (stop_text n) ≤ stop_longest
unfolding stop_text
stop_longest_lem n h = simp length-append (omega (arith, count_longest n h))
