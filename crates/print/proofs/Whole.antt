-- What a buffer of any length holds after a call, and that one of the longest line's length holds the whole line.
-- Assumes nothing.
use mathlib.Core.Path.{◌≡◌, refl, ap, ◌∙◌}
use mathlib.Core.List.{List, [], ◌∷◌, ◌++◌}
use Prim.Native.Nat.{ℕ, suc, ◌^◌, ◌≤◌, ◌<◌}
use native.Mathlib.Omega.{arith}
use lib.ListN.{length, take, drop, set}
use lib.Seq.{sets, take_all, take-append_seam}
use contract.Lifetimes.{Lfts}
use borrow.Fn.World.{ArgsD}
use borrow.Fn.Kinds.{ended_of}
use denote.Triple.Clauses.{AtExit}
use Rattle.print.specs.Texts.{header_text, row_text, closing_text, stop_text}
use Rattle.print.specs.Fits.{RowFits, header_longest, row_longest, closing_longest, stop_longest}
use Rattle.print.proofs.Longest.{header_longest_lem, row_longest_lem, closing_longest_lem, stop_longest_lem}
use Rattle.print.specs.contracts.header as header
use Rattle.print.proofs.header.Reads as header-reads
use Rattle.print.proofs.header.Kinds as header-kinds
use Rattle.print.specs.contracts.row as row
use Rattle.print.proofs.row.Reads as row_reads
use Rattle.print.proofs.row.Kinds as row-kinds
use Rattle.print.specs.contracts.closing as closing
use Rattle.print.proofs.closing.Reads as closing-reads
use Rattle.print.proofs.closing.Kinds as closing-kinds
use Rattle.print.specs.contracts.stops as stops
use Rattle.print.proofs.stops.Reads as stops-reads
use Rattle.print.proofs.stops.Kinds as stops-kinds

-- ---- a buffer of any length

pub sets_behind : (y : ℕ) (xs l : List ℕ) (at : ℕ) → sets (y ∷ l) (suc at) xs ≡ y ∷ sets l at xs
sets_behind y [] l at = refl
sets_behind y (x ∷ xs) l at = sets_behind y xs (set l at x) (suc at)

sets_nowhere : (xs : List ℕ) (at : ℕ) → sets [] at xs ≡ []
sets_nowhere [] at = refl
sets_nowhere (x ∷ xs) at = sets_nowhere xs (suc at)

-- the text as far as there is room, and what stood behind it
pub cut : (xs l : List ℕ) → sets l 0 xs ≡ take (length l) xs ++ drop (length xs) l
cut [] [] = refl
cut [] (y ∷ l) = refl
cut (x ∷ xs) [] = sets_nowhere xs 1
cut (x ∷ xs) (y ∷ l) = sets_behind x xs l 0 ∙ ap (λ (k : List ℕ). x ∷ k) (cut xs l)

-- ---- a buffer that is long enough

found : (text l l' : List ℕ) (k r : ℕ) → length text ≤ k → k ≤ length l → l' ≡ sets l 0 text → r ≡ length text → take r l' ≡ text
found text l l' k r h g e n =
    let b : length text ≤ length l = omega arith in
    ap (λ (m : List ℕ). take r m) (e ∙ cut text l ∙ ap (λ (m : List ℕ). m ++ drop (length text) l) (take_all (length l) text b))
    ∙ ap (λ (j : ℕ). take j (text ++ drop (length text) l)) n
    ∙ take-append_seam text (drop (length text) l)

module _ (κs : Lfts 1) where
  pub header_whole : (a : ArgsD header.signature κs) (r : ℕ) (s : AtExit (ended_of 1 header-kinds.ps header-kinds.r) κs)
      → header_longest ≤ length a.0.now → header-reads.Learnt κs a r s → take r s.0.now ≡ header_text
  header_whole a r s g h = found header_text a.0.now s.0.now header_longest r (omega (arith, header_longest_lem)) g h.0 h.1

  pub row_whole : (a : ArgsD row.signature κs) (r : ℕ) (s : AtExit (ended_of 1 row-kinds.ps row-kinds.r) κs)
      → RowFits a.0 → row_longest ≤ length a.1.0.now → row_reads.Learnt κs a r s → take r s.1.0.now ≡ row_text a.0
  row_whole a r s f g h = found (row_text a.0) a.1.0.now s.1.0.now row_longest r (row_longest_lem a.0 f) g h.0 h.1

  pub closing_whole : (a : ArgsD closing.signature κs) (r : ℕ) (s : AtExit (ended_of 1 closing-kinds.ps closing-kinds.r) κs)
      → a.0 < 2 ^ 64 → a.1.0 < 2 ^ 64 → closing_longest ≤ length a.1.1.0.now → closing-reads.Learnt κs a r s
      → take r s.1.1.0.now ≡ closing_text a.0 a.1.0
  closing_whole a r s t w g h =
      found (closing_text a.0 a.1.0) a.1.1.0.now s.1.1.0.now closing_longest r
      (closing_longest_lem a.0 a.1.0 t w) g h.0 h.1

  pub stops_whole : (a : ArgsD stops.signature κs) (r : ℕ) (s : AtExit (ended_of 1 stops-kinds.ps stops-kinds.r) κs)
      → a.0 < 2 ^ 64 → stop_longest ≤ length a.1.0.now → stops-reads.Learnt κs a r s → take r s.1.0.now ≡ stop_text a.0
  stops_whole a r s n g h = found (stop_text a.0) a.1.0.now s.1.0.now stop_longest r (stop_longest_lem a.0 n) g h.0 h.1
