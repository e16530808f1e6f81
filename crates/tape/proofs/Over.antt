-- What the book refuses is passed over: the play goes on with the next entry.
-- Assumes nothing.
use mathlib.Core.Path.{◌≡◌, ap, ◌∙◌}
use mathlib.Core.Bool.{true}
use mathlib.Core.List.{List, ◌++◌}
use Prim.Native.Nat.{ℕ, ◌≤◌}
use lib.ListN.{length}
use Rattle.rows.specs.declared.Listing.{Listing}
use Rattle.counters.specs.Counting.{last_number}
use Rattle.book.specs.State.{State, Arrival, wanted_in, sound_in}
use Rattle.book.specs.Calls.{listed, delivered, spent}
use Rattle.book.proofs.Demand1.{refused_keeps}
use Rattle.tape.specs.Entries.{Entry, Lists, Delivers, entry_bytes, EntryFits}
use Rattle.tape.specs.Playing.{acted, further, played}
use Rattle.tape.proofs.Tapes.{play_entry_lem}

module _ (s : State) where
  -- an entry and what follows: the play of what follows, from that state
  abbrev Then : Entry → State → Type 0
  Then e t = (more : List ℕ) → played s (entry_bytes e ++ more) ≡ further (length (entry_bytes e)) (played t more)

  pub record PassedOver : Type 0 where
    -- a refused listing changes nothing
    pub listing : (l : Listing) → EntryFits (Lists l) → ((listed s l).answer ≡ 0 → ⊥) → Then (Lists l) s
    -- nor does a message under another number than the wanted one, or in an unsound book
    pub unused : (k : ℕ) (a : Arrival) → EntryFits (Delivers k a) → (sound_in s ≡ true → a.number ≡ wanted_in s → a.number ≤ last_number → ⊥)
        → Then (Delivers k a) s
    -- a message refused under the wanted number uses it up
    pub used : (k : ℕ) (a : Arrival) → EntryFits (Delivers k a) → sound_in s ≡ true → a.number ≡ wanted_in s → a.number ≤ last_number
        → ((delivered s a).answer ≡ 0 → ⊥) → Then (Delivers k a) (spent s)

  then : (e : Entry) (t : State) → EntryFits e → acted s e ≡ t → Then e t
  then e t z f more = play_entry_lem s e more z ∙ ap (λ (x : State). further (length (entry_bytes e)) (played x more)) f

  pub passed_over : PassedOver
  unfolding acted
  passed_over =
      record {
        listing = λ l z h. then (Lists l) s z ((refused_keeps s).list l h);
        unused = λ k a z h. then (Delivers k a) s z ((refused_keeps s).unused a h).1;
        used = λ k a z h w g f. then (Delivers k a) (spent s) z ((refused_keeps s).used a h w g f);
      }
