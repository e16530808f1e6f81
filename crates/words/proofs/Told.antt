-- Nothing of a row is lost in its words: two rows with the same words are the same row.
-- Assumes nothing.
use Rattle.std.specs.Prelude.{None, Option, Some, ℕ, ℤ}
use Prim.Native.Nat.{ℕ, ◌<◌, ◌^◌}
use mathlib.Core.Path.{◌≡◌, refl, ap, sym, ◌∙◌}
use mathlib.Core.Bool.{Bool, true, false, cond}
use mathlib.Core.List.{List}
use native.Mathlib.Omega.{arith}
use lib.IntN.{ℤ, pos, negsuc}
use lib.ListN.{length}
use lib.Signed.{mag}
use Rattle.octets.specs.Run.{Bytes}
use Rattle.numbers.specs.Number.{be, digits}
use Rattle.numbers.proofs.Trips.{digits_part}
use Rattle.octets.proofs.Trips.{whole}
use Rattle.show.specs.declared.RowShown.{RowShown}
use Rattle.words.specs.Words.{figure_mark, figure_word, signed_word, net_word, row_words}
use Rattle.show.specs.Fits.{NetFits}
use Rattle.words.specs.Fits.{RowFits}

-- ---- figure by figure

-- eight bytes and no others have their number
symbol_back : (xs : List ℕ) → length xs ≡ 8 → Bytes xs → digits 8 (be xs) ≡ xs
symbol_back xs e b =
    let w = whole xs 8 e in
    ap (λ (l : List ℕ). digits 8 (be l)) (sym w) ∙ digits_part xs 0 8 b ∙ w

pub symbol_told : (xs ys : List ℕ) → length xs ≡ 8 → Bytes xs → length ys ≡ 8 → Bytes ys → be xs ≡ be ys → xs ≡ ys
symbol_told xs ys e b f c q = sym (symbol_back xs e b) ∙ ap (digits 8) q ∙ symbol_back ys f c

pub price_told : (p q : Option ℕ) → figure_mark p ≡ figure_mark q → figure_word p ≡ figure_word q → p ≡ q
price_told None None m w = refl
price_told None (Some y) m w = absurd (omega arith)
price_told (Some x) None m w = absurd (omega arith)
price_told (Some x) (Some y) m w = ap Some w

pub signed_told : (x y : ℤ) → mag x < 2 ^ 63 → mag y < 2 ^ 63 → signed_word x ≡ signed_word y → x ≡ y
signed_told (pos a) (pos b) h k e = ap pos e
signed_told (pos a) (negsuc b) h k e = absurd (omega arith)
signed_told (negsuc a) (pos b) h k e = absurd (omega arith)
signed_told (negsuc a) (negsuc b) h k e = let f : a ≡ b = omega arith in ap negsuc f

pub net_told : (n o : Option ℤ) → NetFits n → NetFits o → figure_mark n ≡ figure_mark o → net_word n ≡ net_word o → n ≡ o
net_told None None h k m w = refl
net_told None (Some y) h k m w = absurd (omega arith)
net_told (Some x) None h k m w = absurd (omega arith)
net_told (Some x) (Some y) h k m w = ap Some (signed_told x y h k w)

pub agrees_told : (a b : Bool) → ◌≡◌ {A = ℕ} (cond a 1 0) (cond b 1 0) → a ≡ b
agrees_told true true e = refl
agrees_told true false e = absurd (omega arith)
agrees_told false true e = absurd (omega arith)
agrees_told false false e = refl

pub reported_told : (r o : Option ℕ) → figure_mark r ≡ figure_mark o → figure_word r ≡ figure_word o → r ≡ o
reported_told None None m w = refl
reported_told None (Some y) m w = absurd (omega arith)
reported_told (Some x) None m w = absurd (omega arith)
reported_told (Some x) (Some y) m w = ap Some w

-- ---- the row

row_of : (o : RowShown) (y : List ℕ) (k : ℕ) (l h w : Option ℕ) (n : Option ℤ) (v c : ℕ) (a : Bool) (p : Option ℕ)
    → y ≡ o.symbol → k ≡ o.close → l ≡ o.last → h ≡ o.high → w ≡ o.low → n ≡ o.net → v ≡ o.volume → c ≡ o.count
    → a ≡ o.agrees → p ≡ o.reported
    → ◌≡◌ {A = RowShown}
    (record { symbol = y; close = k; last = l; high = h; low = w; net = n; volume = v; count = c; agrees = a; reported = p }) o
row_of o y k l h w n v c a p p1 p2 p3 p4 p5 p6 p7 p8 p9 p10 = rw (p1, p2, p3, p4, p5, p6, p7, p8, p9, p10)

-- two rows with the same words are the same row
pub row_told : (r o : RowShown) → RowFits r → RowFits o → row_words r ≡ row_words o → r ≡ o
unfolding row_words
row_told r o g h e =
    row_of o _ _ _ _ _ _ _ _ _ _
    (symbol_told r.symbol o.symbol g.symbol g.bytes h.symbol h.bytes (cc))
    (cc)
    (price_told r.last o.last (cc) (cc))
    (price_told r.high o.high (cc) (cc))
    (price_told r.low o.low (cc) (cc))
    (net_told r.net o.net g.net h.net (cc) (cc))
    (cc)
    (cc)
    (agrees_told r.agrees o.agrees (cc))
    (reported_told r.reported o.reported (cc) (cc))
