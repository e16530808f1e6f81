-- Soundness by hand: counters on each side of each bound. The figures are document 01's, or our papers' where it leaves them open, and come
-- from no definition, so a bound that is wrong in the code and in its definition alike is found here. What the book was started with does
-- not matter.
-- Assumes nothing.
use Prim.Native.Nat.{ℕ}
use mathlib.Core.Path.{◌≡◌, refl}
use mathlib.Core.List.{List, [], ◌∷◌, map}
use mathlib.Core.Bool.{Bool, true, false}
use Rattle.counters.specs.declared.Start.{Start}
use Rattle.counters.specs.declared.Counters.{Counters}
use Rattle.sound.specs.Sound.{sound}

module _ (started : Start) where
  abbrev of : ℕ → ℕ → ℕ → ℕ → ℕ → Counters
  of wanted phase rows lines taken = record { start = started; wanted = wanted; phase = phase; rows = rows; lines = lines; taken = taken }

  -- in room for 300 rows of 30 bytes and for 70,000 lines of 40
  unfoldable pub held : Counters → Bool
  unfolding sound
  held c = sound c 9000 2800000

  -- rows, in room of so many bytes
  unfoldable pub rows_in : ℕ → ℕ → Bool
  unfolding sound
  rows_in room n = sound (of 1 0 n 0 0) room 0

  -- lines, in room of so many bytes
  unfoldable pub lines_in : ℕ → ℕ → Bool
  unfolding sound
  lines_in room n = sound (of 1 0 0 n 0) 0 room

  -- the wanted number; the phase; messages taken where 5 is wanted; at most 256 rows and 65,536 lines, and fewer in less room
  pub unsound : (map (λ (n : ℕ). held (of n 0 0 0 0)) (0 ∷ 1 ∷ 4294967296 ∷ 4294967297 ∷ []) ≡ false ∷ true ∷ true ∷ false ∷ [])
      × (map (λ (n : ℕ). held (of 1 n 0 0 0)) (0 ∷ 6 ∷ 7 ∷ []) ≡ true ∷ true ∷ false ∷ [])
      × (map (λ (n : ℕ). held (of 5 0 0 0 n)) (0 ∷ 4 ∷ 5 ∷ []) ≡ true ∷ true ∷ false ∷ [])
      × (map (rows_in 9000) (256 ∷ 257 ∷ []) ≡ true ∷ false ∷ []) × (map (rows_in 60) (2 ∷ 3 ∷ []) ≡ true ∷ false ∷ [])
      × (map (rows_in 59) (1 ∷ 2 ∷ []) ≡ true ∷ false ∷ []) × (map (rows_in 0) (0 ∷ 1 ∷ []) ≡ true ∷ false ∷ [])
      × (map (lines_in 2800000) (65536 ∷ 65537 ∷ []) ≡ true ∷ false ∷ []) × (map (lines_in 80) (2 ∷ 3 ∷ []) ≡ true ∷ false ∷ [])
      × (map (lines_in 79) (1 ∷ 2 ∷ []) ≡ true ∷ false ∷ []) × (map (lines_in 0) (0 ∷ 1 ∷ []) ≡ true ∷ false ∷ [])
  unfolding held rows_in lines_in
  unsound = (refl, refl, refl, refl, refl, refl, refl, refl, refl, refl, refl)
