-- A play goes on with what stands at the head, whatever number of entries it is allowed, if that is enough; the turns of the code.
-- Assumes nothing.
use Rattle.std.specs.Prelude.{Err, Ok, Result, ℕ}
use mathlib.Core.Path.{◌≡◌, refl, ap, sym, ◌∙◌}
use mathlib.Core.List.{List, [], ◌∷◌}
use Prim.Native.Nat.{ℕ, zero, suc, ◌+◌, ◌-◌, ◌≤◌}
use native.Mathlib.Nat.{add-zero, zero-add, add_assoc}
use native.Mathlib.Omega.{arith}
use borrow.Author.Tests.{eq-eqb, ne_eqb}
use lib.ListN.{length, take, drop, get_or, length-drop}
use lib.Seq.{take_all, length-take-le, drop-drop}
use Rattle.octets.specs.Run.{part}
use Rattle.numbers.specs.Number.{be}
use Rattle.rows.specs.declared.Listing.{Listing}
use Rattle.book.specs.State.{State, Outcome, Arrival, arrives}
use Rattle.book.specs.Calls.{listed, delivered}
use Rattle.tape.specs.Entries.{listing_letter, Lists, listing_in, arrival_in, delivery, head_of, entry_of}
use Rattle.tape.specs.Playing.{acted, Play, stopped, further, play_some, played}
use Rattle.tape.specs.declared.Stop.{Stop}
use Rattle.tape.specs.declared.Stop.TheVariants.{Ended}
use Rattle.tape.proofs.Heads.{never, standing_within}

-- ---- one entry, from what the book promises

-- all that lies from a place on
rest_all : (b : List ℕ) (at : ℕ) → take (length b - at) (drop at b) ≡ drop at b
rest_all b at =
    let l : length (drop at b) ≤ length b - at = omega (arith, length-drop at b) in
    take_all (length b - at) (drop at b) l

listing_is : (b symbol : List ℕ) (close : ℕ) → symbol ≡ part b 1 8 → close ≡ be (part b 9 4)
    → record { symbol = symbol; close = close } ≡ listing_in b
listing_is b symbol close e f = rw (e, f)

arrival_is : (b : List ℕ) (number : ℕ) (m : List ℕ) → number ≡ be (part b 1 4) → m ≡ drop 5 b → arrives number m ≡ arrival_in b
arrival_is b number m e f = rw (e, f)

module _ (s : State) (b : List ℕ) where
  pub listing_acted : (symbol : List ℕ) (close : ℕ) → symbol ≡ part b 1 8 → close ≡ be (part b 9 4) → (o : Outcome)
      → o ≡ listed s (record { symbol = symbol; close = close }) → o.state ≡ acted s (Lists (listing_in b))
  unfolding acted
  listing_acted symbol close e f o h =
      ap (λ (x : Outcome). x.state) h ∙ ap (λ (l : Listing). (listed s l).state) (listing_is b symbol close e f)

  pub message_acted : (number : ℕ) → number ≡ be (part b 1 4) → (o : Outcome)
      → o ≡ delivered s (arrives number (take (length b - 5) (drop 5 b))) → o.state ≡ acted s (delivery b)
  unfolding acted
  message_acted number e o h =
      ap (λ (x : Outcome). x.state) h ∙ ap (λ (a : Arrival). (delivered s a).state) (arrival_is b number _ e (rest_all b 5))

  -- which of the two the kind says
  module _ (x : ℕ) (is : x ≡ get_or b 0 0) (t : State) where
    pub listing_played : x ≡ listing_letter → t ≡ acted s (Lists (listing_in b)) → t ≡ acted s (entry_of b)
    unfolding entry_of
    listing_played e h = rw (eq-eqb (get_or b 0 0) listing_letter (sym is ∙ e)) h

    pub message_played : (x ≡ listing_letter → ⊥) → t ≡ acted s (delivery b) → t ≡ acted s (entry_of b)
    unfolding entry_of
    message_played e h = rw (ne_eqb (get_or b 0 0) listing_letter (λ q. e (is ∙ q))) h

-- ---- how many entries are allowed does not matter

pub shorter : (b : List ℕ) (n k : ℕ) → head_of b ≡ Ok n → length b ≤ suc k → length (drop n b) ≤ k
shorter b n k e l = omega (arith, length-drop n b, standing_within b n e)

pub enough : (k j : ℕ) (s : State) (b : List ℕ) → length b ≤ k → length b ≤ j → play_some k s b ≡ play_some j s b
unfolding play_some head_of
enough zero zero s b l m = refl
enough zero (suc j) s [] l m = refl
enough zero (suc j) s (x ∷ b) l m = absurd (omega arith)
enough (suc k) zero s [] l m = refl
enough (suc k) zero s (x ∷ b) l m = absurd (omega arith)
enough (suc k) (suc j) s b l m =
    go (head_of b) refl (λ n e. enough k j (acted s (entry_of (take n b))) (drop n b) (shorter b n k e l) (shorter b n j e m))
  where
    go : (h : Result ℕ Stop) → head_of b ≡ h
        →
        ((n : ℕ) → head_of b ≡ Ok n → play_some k (acted s (entry_of (take n b))) (drop n b) ≡ play_some j
        (acted s (entry_of (take n b))) (drop n b))
        → play_some (suc k) s b ≡ play_some (suc j) s b
    go (Err w) e r = rw e
    go (Ok n) e r = rw e (ap (further n) (r n e))

-- ---- a play, by what stands at the head

pub play_stops : (s : State) (b : List ℕ) (w : Stop) → head_of b ≡ Err w → played s b ≡ stopped s w
unfolding played play_some head_of
play_stops s [] w e = let f : Ended ≡ w = cc in ap (stopped s) f
play_stops s (x ∷ b) w e = rw e

pub play_whole : (s : State) (b : List ℕ) (n : ℕ) → head_of b ≡ Ok n
    → played s b ≡ further n (played (acted s (entry_of (take n b))) (drop n b))
unfolding played play_some head_of
play_whole s [] n e = absurd (never e)
play_whole s (x ∷ b) n e =
    let l : length (drop n (x ∷ b)) ≤ length b = shorter (x ∷ b) n (length b) e (omega arith) in
    rw e (ap (further n) (enough (length b) (length (drop n (x ∷ b))) _ _ l (omega arith)))

pub further_further : (n m : ℕ) (p : Play) → further n (further m p) ≡ further (n + m) p
further_further n m p = rw add_assoc

pub further_none : (p : Play) → further 0 p ≡ p
further_none p = rw zero-add

-- ---- the turns of `play`

-- an entry that stands at a place lies within
pub standing_at : (m : List ℕ) (at n : ℕ) → at ≤ length m → head_of (drop at m) ≡ Ok n → (11 ≤ n) × (at + n ≤ length m)
standing_at m at n l e =
    let w = standing_within (drop at m) n e in
    let d = length-drop at m in
    (w.0, omega arith)

pub standing_length : (m : List ℕ) (at n : ℕ) → at + n ≤ length m → length (take (at + n - at) (drop at m)) ≡ n
standing_length m at n l =
    let d = length-drop at m in
    let e : at + n - at ≡ n = omega arith in
    rw e (length-take-le n (drop at m) (omega arith))

module _ (s now : State) (m : List ℕ) (at : ℕ) (so : further at (played now (drop at m)) ≡ played s m) where
  pub play_returns : (w : Stop) → head_of (drop at m) ≡ Err w → record { state = now; used = at; stop = w } ≡ played s m
  play_returns w e = sym (ap (further at) (play_stops now (drop at m) w e) ∙ rw add-zero) ∙ so

  pub play_turn : (n k : ℕ) → head_of (drop at m) ≡ Ok n → k ≡ n → (t : State) → t ≡ acted now (entry_of (take k (drop at m)))
      → further (at + n) (played t (drop (at + n) m)) ≡ played s m
  play_turn n k e f t g =
      let x : t ≡ acted now (entry_of (take n (drop at m))) = g ∙ ap (λ (i : ℕ). acted now (entry_of (take i (drop at m)))) f in
      rw (x, ← drop-drop, ← further_further) (ap (further at) (sym (play_whole now (drop at m) n e)) ∙ so)
