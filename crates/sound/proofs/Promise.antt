-- The contract of `is_sound` leaves one possible answer. `Learnt` is that contract as the compiler hands it to a caller.
-- Assumes nothing.
use mathlib.Core.Path.{◌≡◌, sym, ◌∙◌}
use mathlib.Core.Bool.{Bool}
use Prim.Native.Nat.{ℕ}
use Rattle.counters.specs.declared.Counters.{Counters}
use Rattle.sound.proofs.is_sound.Reads as is-sound-reads

pub is_sound_one : (c c₁ c₂ : Counters) (m m₁ m₂ n n₁ n₂ : ℕ) (b b' : Bool)
    → is-sound-reads.Learnt tt (c, (m, (n, tt))) b (c₁, (m₁, (n₁, tt)))
    → is-sound-reads.Learnt tt (c, (m, (n, tt))) b' (c₂, (m₂, (n₂, tt))) → b ≡ b'
is_sound_one c c₁ c₂ m m₁ m₂ n n₁ n₂ b b' h h' = h ∙ sym h'
