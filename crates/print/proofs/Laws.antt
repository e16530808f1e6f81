-- Laws of texts that are stored one behind the other.
-- Assumes nothing.
use mathlib.Core.Path.{◌≡◌, refl, ap, sym, ◌∙◌}
use mathlib.Core.List.{List, [], ◌∷◌, ◌++◌, append_assoc}
use Prim.Native.Nat.{ℕ, ◌+◌, ◌-◌, ◌^◌, ◌≤◌, ◌<◌}
use native.Mathlib.Omega.{arith}
use lib.IntN.{ℤ}
use lib.ListN.{length, set, length-append}
use lib.Seq.{sets}
use lib.Signed.{mag}
use mir.Syntax.{w64}
use mir.Val.{to_z, of_z}
use mir.Facts.{to_z-of_z}
use Rattle.octets.proofs.Laws.{sets_then}
use Rattle.show.specs.declared.RowShown.{RowShown}
use Rattle.decimal.specs.Letters.{letters}
use Rattle.decimal.specs.Decimal.{decimal}
use Rattle.decimal.specs.Amount.{signed_text}
use Rattle.decimal.proofs.Amount.{signed_short}
use Rattle.print.specs.Texts.{price_text, net_text, count_text, reported_text, symbol_text, row_text, closing_text}
use Rattle.print.specs.Put.{Put}

-- ---- one byte, a run, a text and the text behind it

pub byte : {l l₁ : List ℕ} {at b : ℕ} → l₁ ≡ set l at b → Put 1 l at (b ∷ []) l₁ (at + 1)
byte e = record { bytes = e; behind = refl; near = omega arith }

pub run : (m : ℕ) {l l₁ xs : List ℕ} {at r : ℕ} → l₁ ≡ sets l at xs → r ≡ at + length xs → length xs ≤ m → Put m l at xs l₁ r
run m e f h = record { bytes = e; behind = f; near = h }

pub then : {m n : ℕ} {l l₁ l₂ xs ys : List ℕ} {at r₁ r₂ : ℕ} → Put m l at xs l₁ r₁ → Put n l₁ r₁ ys l₂ r₂
    → Put (m + n) l at (xs ++ ys) l₂ r₂
then {m} {n} {l} {l₁} {l₂} {xs} {ys} {at} {r₁} {r₂} p q =
    record {
      bytes = q.bytes ∙ ap (λ (k : List ℕ). sets k r₁ ys) p.bytes ∙ sets_then xs ys l at r₁ (sym p.behind);
      behind = q.behind ∙ ap (λ (k : ℕ). k + length ys) p.behind ∙ simp length-append (omega arith);
      near = simp length-append (omega (arith, p.near, q.near));
    }

-- the same text in other words, within a wider bound
pub retold : (n : ℕ) {m : ℕ} {l l₁ xs ys : List ℕ} {at r : ℕ} → m ≤ n → xs ≡ ys → Put m l at xs l₁ r → Put n l at ys l₁ r
retold n {m} {l} {l₁} {xs} {ys} {at} {r} h e p =
    record {
      bytes = p.bytes ∙ ap (sets l at) e;
      behind = p.behind ∙ ap (λ (k : List ℕ). at + length k) e;
      near = rw (← e) (omega (arith, p.near));
    }

-- a text from the start on, as the public functions promise it
pub from_start : {m : ℕ} {l l₁ xs : List ℕ} {r : ℕ} → Put m l 0 xs l₁ r → (l₁ ≡ sets l 0 xs) × (r ≡ length xs)
from_start p = (p.bytes, omega (arith, p.behind))

-- ---- figures

-- what `decimal` promises, at a place whose sums fit
pub figure : (m : ℕ) {l l₁ xs : List ℕ} (at k : ℕ) → (l₁ ≡ sets l at xs) × (k ≡ length xs) → length xs ≤ m → Put m l at xs l₁ (at + k)
figure m at k p h = run m p.0 (ap (λ (j : ℕ). at + j) p.1) h

-- the same of a number of 64 signed bits, as the machine holds it
pub net_figure : {l l₁ : List ℕ} (at k : ℕ) (z : ℤ) → mag z < 2 ^ 63
    → (l₁ ≡ sets l at (signed_text (to_z w64 (of_z w64 z)))) × (k ≡ length (signed_text (to_z w64 (of_z w64 z))))
    → Put 21 l at (signed_text z) l₁ (at + k)
net_figure {l} {l₁} at k z h p =
    let e : to_z w64 (of_z w64 z) ≡ z = to_z-of_z {w = w64} (record { sfits = h }) in
    figure 21 at k (p.0 ∙ ap (λ (y : ℤ). sets l at (signed_text y)) e, p.1 ∙ ap (λ (y : ℤ). length (signed_text y)) e) (signed_short z h)

-- ---- lines

-- the parts of a row, as they are stored
row_parts : (s a b c d e f g z : List ℕ)
    → s ++ ((a ++ (b ++ c)) ++ (d ++ ((e ++ (f ++ g)) ++ z))) ≡ (s ++ (a ++ (b ++ (c ++ (d ++ (e ++ (f ++ g))))))) ++ z
row_parts s a b c d e f g z = simp append_assoc

module _ (w : RowShown) where
  abbrev pub prices_text : List ℕ
  prices_text = (32 ∷ price_text w.last) ++ ((32 ∷ price_text w.high) ++ (32 ∷ price_text w.low))

  abbrev pub counts_text : List ℕ
  counts_text = (32 ∷ count_text w.volume) ++ ((32 ∷ count_text w.count) ++ (32 ∷ reported_text w.reported))

  pub row_put : {l l₁ l₂ l₃ l₄ l₅ : List ℕ} {r₁ r₂ r₃ r₄ : ℕ} → Put 8 l 0 (symbol_text w.symbol) l₁ r₁ → Put 120 l₁ r₁ prices_text l₂ r₂
      → Put 40 l₂ r₂ (32 ∷ net_text w.net) l₃ r₃ → Put 120 l₃ r₃ counts_text l₄ r₄ → l₅ ≡ set l₄ r₄ 10
      → Put 300 l 0 (row_text w) l₅ (r₄ + 1)
  unfolding row_text
  row_put p q n k e =
      retold 300 (omega arith)
      (row_parts (symbol_text w.symbol) (32 ∷ price_text w.last) (32 ∷ price_text w.high) (32 ∷ price_text w.low)
      (32 ∷ net_text w.net) (32 ∷ count_text w.volume) (32 ∷ count_text w.count) (32 ∷ reported_text w.reported) (10 ∷ []))
      (then p (then q (then n (then k (byte e)))))

closing_parts : (a b c d e f z : List ℕ) → (a ++ b) ++ ((c ++ d) ++ ((e ++ f) ++ z)) ≡ (a ++ (b ++ (c ++ (d ++ (e ++ f))))) ++ z
closing_parts a b c d e f z = simp append_assoc

abbrev taken_name : List ℕ
taken_name = letters "TAKEN "

abbrev refused_name : List ℕ
refused_name = letters " REFUSED "

abbrev wanted_name : List ℕ
wanted_name = letters " WANTED "

pub closing_put : (t w r : ℕ) → r ≡ w - 1 - t → {l l₁ l₂ l₃ l₄ : List ℕ} {r₁ r₂ r₃ : ℕ} → Put 40 l 0 (taken_name ++ decimal t) l₁ r₁
    → Put 40 l₁ r₁ (refused_name ++ decimal r) l₂ r₂ → Put 40 l₂ r₂ (wanted_name ++ decimal w) l₃ r₃ → l₄ ≡ set l₃ r₃ 10
    → Put 121 l 0 (closing_text t w) l₄ (r₃ + 1)
unfolding closing_text
closing_put t w r h p q n e =
    retold 121 (omega arith) (closing_parts taken_name (decimal t) refused_name (decimal r) wanted_name (decimal w) (10 ∷ [])
    ∙ ap (λ (k : ℕ). (taken_name ++ (decimal t ++ (refused_name ++ (decimal k ++ (wanted_name ++ decimal w))))) ++ (10 ∷ [])) h)
    (then p (then q (then n (byte e))))
