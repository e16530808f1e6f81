-- The clerk by hand: the trades, the row and the largest count of small days, written down from document 01 and computed from his
-- definitions. The days stand here as records, the newest first, so nothing is read from bytes.
-- Assumes nothing.
use Rattle.std.specs.Prelude.{None, Some}
use Prim.Native.Nat.{ℕ, zero, suc, ◌*◌, ◌≤◌}
use mathlib.Core.Path.{◌≡◌, refl}
use mathlib.Core.List.Sublistᴰ
use mathlib.Core.List.{List, [], ◌∷◌, Sublistᴰ}
use mathlib.Core.List.{cons≢nil}
use mathlib.Core.Logic.{◌⊎◌, inl, inr}
use native.Mathlib.Omega.{arith}
use mathlib.Core.Bool.{Bool, true, false}
use lib.ListN.{replicate}
use Rattle.editions.specs.declared.Edition.TheVariants.{NlsPlus, Pls}
use Rattle.kinds.specs.Kinds as Kinds
use Rattle.records.specs.declared.Sale.{Sale}
use Rattle.records.specs.declared.Record.{Record}
use Rattle.lines.specs.declared.Line.{Line}
use Rattle.rows.specs.declared.Listing.{Listing}
use Rattle.rows.specs.Rows.{high_low}
use Rattle.clerk.specs.Arrivals.{run, Largest}
use Rattle.clerk.specs.Clerk.{Taken, origin_of, trades_but, trades_of, summary_of, reported_of, row_of}

-- ---- records

abbrev abcd : List ℕ
abcd = 65 ∷ 66 ∷ 67 ∷ 68 ∷ replicate 4 32

abbrev plain : List ℕ
plain = 64 ∷ 32 ∷ 32 ∷ 32 ∷ []

abbrev control : ℕ → List ℕ
control k = k ∷ replicate 9 32

abbrev sale : ℕ → ℕ → ℕ → Sale
sale k price size = record { control = control k; price = price; size = size; condition = plain }

-- what a record has where its type lacks a sale
abbrev no_sale : Sale
no_sale = record { control = replicate 10 0; price = 0; size = 0; condition = replicate 4 0 }

-- number n, at n thousand milliseconds: letter, centre, the two sales, high, low and consolidated volume
abbrev message : ℕ → ℕ → ℕ → Sale → Sale → ℕ → ℕ → ℕ → Taken
message n letter centre s new high low volume =
    record {
      number = n;
      message =
          record {
            letter = letter;
            time = n * 1000;
            event = 0;
            centre = centre;
            symbol = abcd;
            class = 81;
            sale = s;
            new = new;
            high = high;
            low = low;
            close = 0;
            consolidated = volume;
          };
    }

abbrev t : ℕ → ℕ → Sale → Taken
t n centre s = message n 84 centre s no_sale 0 0 n

abbrev x : ℕ → ℕ → Sale → Taken
x n centre s = message n 88 centre s no_sale 0 0 n

abbrev c : ℕ → ℕ → Sale → Sale → Taken
c n centre s new = message n 67 centre s new 0 0 n

abbrev j : ℕ → ℕ → ℕ → Taken
j n high low = message n 74 0 no_sale no_sale high low n

-- a trade of ABCD: centre, control, price, size, place, time, live
abbrev line : ℕ → ℕ → ℕ → ℕ → ℕ → ℕ → Bool → Line
line centre k price size place time live =
    record {
      key = centre ∷ control k;
      symbol = abcd;
      price = price;
      size = size;
      condition = plain;
      place = place;
      time = time;
      live = live;
    }

-- ---- a day of trades: T Q 1, T Q 2, T L 1, X Q 2, C Q 1 to 9, C Q 9 to 8

abbrev day : List Taken
day = c 7 81 (sale 57 2525 12) (sale 56 2530 13)
    ∷ c 6 81 (sale 49 2510 10) (sale 57 2525 12)
    ∷ x 5 81 (sale 50 2600 30)
    ∷ t 4 76 (sale 49 2490 5)
    ∷ t 3 81 (sale 50 2600 30)
    ∷ t 2 81 (sale 49 2510 10)
    ∷ []

-- Q 2 is cancelled and Q 1 corrected twice; L 1 lives on; the corrected trade keeps place and time of the first T
pub trades : trades_of day
    ≡ line 81 49 2510 10 2 2000 false
    ∷ line 81 50 2600 30 3 3000 false
    ∷ line 76 49 2490 5 4 4000 true
    ∷ line 81 57 2525 12 2 2000 false
    ∷ line 81 56 2530 13 2 2000 true
    ∷ []
unfolding origin_of trades_but Kinds.kind_of
trades = refl

-- ---- a day of summaries

abbrev listing : Listing
listing = record { symbol = abcd; close = 2500 }

-- none; one; a later one replaces it; the volume is that of the latest of either
pub rows : (row_of NlsPlus [] listing ≡ record { listing = listing; summary = None; reported = None })
    × (row_of NlsPlus (j 2 20 10 ∷ []) listing ≡ record { listing = listing; summary = Some (high_low 20 10); reported = Some 2 })
    × (row_of NlsPlus (j 3 30 15 ∷ j 2 20 10 ∷ []) listing ≡ record { listing = listing; summary = Some (high_low 30 15); reported = Some 3 })
    × (row_of NlsPlus (t 4 81 (sale 49 1 1) ∷ j 3 30 15 ∷ j 2 20 10 ∷ []) listing
    ≡ record { listing = listing; summary = Some (high_low 30 15); reported = Some 4 })
    -- in PLS no message reports
    × (row_of Pls (t 2 81 (sale 49 1 1) ∷ []) listing ≡ record { listing = listing; summary = None; reported = None })
unfolding row_of summary_of reported_of Kinds.kind_of
rows = (refl, refl, refl, refl, refl)

-- ---- the numbers 2 and 1 as they arrive: two different numbers, and 1 is the largest count that comes in order

only : (m : ℕ) → Sublistᴰ (run 1 m) (2 ∷ 1 ∷ []) → m ≤ 1
unfolding run
only zero s = omega arith
only (suc zero) s = omega arith
only (suc (suc m)) s = behind (Sublistᴰ.cases_cons-cons s)
  where
    none : {k : ℕ} {ks : List ℕ} → Sublistᴰ (k ∷ ks) [] → suc (suc m) ≤ 1
    none s = absurd (cons≢nil (Sublistᴰ.eq-nil s))

    first : Sublistᴰ (1 ∷ 2 ∷ run 3 m) [] ⊎ ((◌≡◌ {A = ℕ} 1 1) × Sublistᴰ (2 ∷ run 3 m) []) → suc (suc m) ≤ 1
    first (inl s) = none s
    first (inr p) = none p.1

    behind : Sublistᴰ (1 ∷ 2 ∷ run 3 m) (1 ∷ []) ⊎ ((◌≡◌ {A = ℕ} 1 2) × Sublistᴰ (2 ∷ run 3 m) (1 ∷ [])) → suc (suc m) ≤ 1
    behind (inl s) = first (Sublistᴰ.cases_cons-cons s)
    behind (inr p) = omega (arith, p.0)

pub turned : Largest (2 ∷ 1 ∷ []) 1
unfolding run
turned = record { occurs = Sublistᴰ.cons (Sublistᴰ.cons-cons refl Sublistᴰ.slnil); most = only }
