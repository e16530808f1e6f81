-- Lists of bytes: each element is below 256, and stays so where bytes are put together, taken out and stored.
-- Assumes nothing.
use Prim.Native.Nat.{ℕ, zero, suc, ◌+◌, ◌<◌}
use mathlib.Core.Bool.{Bool, true, false, cond}
use mathlib.Core.List.{List, [], ◌∷◌, ◌++◌}
use lib.Dec.{lit<}
use lib.ListN.{set, replicate}
use lib.Seq.{sets}
use Rattle.octets.specs.Run.{tab, past, part, Bytes}

-- whichever of two it is
pub either_way : {A : Type 0} (P : A → Type 0) (t : Bool) (a b : A) → P a → P b → P (cond t a b)
either_way P true a b p q = p
either_way P false a b p q = q

pub none_bytes : Bytes []
none_bytes i = lit< tt

pub cons_bytes : (x : ℕ) (xs : List ℕ) → x < 256 → Bytes xs → Bytes (x ∷ xs)
cons_bytes x xs h b zero = h
cons_bytes x xs h b (suc i) = b i

pub append_bytes : (xs ys : List ℕ) → Bytes xs → Bytes ys → Bytes (xs ++ ys)
append_bytes [] ys a b = b
append_bytes (x ∷ xs) ys a b = cons_bytes x (xs ++ ys) (a 0) (append_bytes xs ys (λ i. a (suc i)) b)

pub tab_bytes : (f : ℕ → ℕ) → ((i : ℕ) → f i < 256) → (i n : ℕ) → Bytes (tab f i n)
unfolding tab
tab_bytes f h i zero = none_bytes
tab_bytes f h i (suc n) = cons_bytes (f i) (tab f (suc i) n) (h i) (tab_bytes f h (suc i) n)

pub part_bytes : (m : List ℕ) (at n : ℕ) → Bytes m → Bytes (part m at n)
unfolding part
part_bytes m at n b = tab_bytes (past m at) (λ i. b (at + i)) 0 n

pub replicate_bytes : (n v : ℕ) → v < 256 → Bytes (replicate n v)
replicate_bytes zero v h = none_bytes
replicate_bytes (suc n) v h = cons_bytes v (replicate n v) h (replicate_bytes n v h)

pub zeros_bytes : (n : ℕ) → Bytes (replicate n 0)
zeros_bytes n = replicate_bytes n 0 (lit< tt)

pub set_bytes : (m : List ℕ) (at x : ℕ) → x < 256 → Bytes m → Bytes (set m at x)
set_bytes [] at x h b = none_bytes
set_bytes (y ∷ m) zero x h b = cons_bytes x m h (λ i. b (suc i))
set_bytes (y ∷ m) (suc at) x h b = cons_bytes y (set m at x) (b 0) (set_bytes m at x h (λ i. b (suc i)))

pub sets_bytes : (xs m : List ℕ) (at : ℕ) → Bytes xs → Bytes m → Bytes (sets m at xs)
sets_bytes [] m at a b = b
sets_bytes (x ∷ xs) m at a b = sets_bytes xs (set m at x) (suc at) (λ i. a (suc i)) (set_bytes m at x (a 0) b)
