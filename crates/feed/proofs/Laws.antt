-- What the moved bytes are, and what a call of `feed` comes to.
-- Assumes nothing.
use Rattle.std.proofs.Common.{◌≡◌, ℕ, ◌+◌, ◌-◌, ◌≤◌, min, Bool, true, false, leb, List, ◌++◌, length, take, drop, sym, refl, ap, ◌∙◌, arith, length-drop, take-append-drop, length-take-le, take_all, leb-false, leb-true}
use lib.Seq.{sets, take-length, drop-append-le}
use Rattle.octets.specs.Run.{part}
use Rattle.octets.proofs.Trips.{here}
use Rattle.tape.specs.declared.Played.{Played}
use Rattle.book.specs.State.{State}
use Rattle.tape.specs.Playing.{Play, came, played}
use Rattle.tape.proofs.Pieces.{used_within}
use Rattle.tape.specs.declared.Stop.{Stop}
use Rattle.feed.specs.declared.Fed.{Fed}
use Rattle.feed.specs.Feeding.{Feeding, came_of, left_over, fed}
use Rattle.feed.specs.Reading.{wrapped, Standing, gone}

-- the first n of a list, or all where it has fewer
pub first_of : (n : ℕ) (m : List ℕ) → take (min n (length m)) m ≡ take n m
first_of n m = go (leb n (length m)) refl
  where
    go : (t : Bool) → leb n (length m) ≡ t → take (min n (length m)) m ≡ take n m
    go true t =
        let h = leb-true n (length m) t in
        let e : min n (length m) ≡ n = omega arith in
        ap (λ (k : ℕ). take k m) e
    go false t =
        let h = leb-false n (length m) t in
        let e : min n (length m) ≡ length m = omega arith in
        ap (λ (k : ℕ). take k m) e ∙ take-length m ∙ sym (take_all n m (omega arith))

-- the bytes of a part from a place on, where they stand in the whole
part_of : (m : List ℕ) (u k : ℕ) → u ≤ k → k ≤ length m → part m u (k - u) ≡ drop u (take k m)
part_of m u k h f =
    let n : length (take k m) ≡ k = length-take-le k m f in
    let d : drop u m ≡ drop u (take k m) ++ drop k m
    = ap (drop u) (sym (take-append-drop k m)) ∙ drop-append-le u (take k m) (drop k m) (omega arith) in
    here m u (k - u) (drop u (take k m)) (drop k m) d (length-drop u (take k m) ∙ ap (λ (x : ℕ). x - u) n)

module _ (s : State) (n : ℕ) (m : List ℕ) (k : ℕ) (is : k ≡ min n (length m)) (p : Played) (t : State)
    (e : came p t ≡ played s (take k m)) where
  brought : take k m ≡ take n m
  brought = ap (λ (x : ℕ). take x m) is ∙ first_of n m

  used_is : p.used ≡ (played s (take k m)).used
  used_is = ap (λ (x : Play). x.used) e

  pub used_fits : p.used ≤ k
  used_fits = omega (arith, used_is, used_within s (take k m), length-take-le k m (omega arith))

  play_is : came p t ≡ played s (take n m)
  play_is = e ∙ ap (played s) brought

  left_is : drop p.used (take k m) ≡ left_over s (take n m)
  left_is = ap (drop p.used) brought ∙ ap (λ (x : Play). drop x.used (take n m)) play_is

  held_is : k - p.used ≡ length (left_over s (take n m))
  held_is =
      ap (λ (x : ℕ). x - p.used) (sym (length-take-le k m (omega arith))) ∙ sym (length-drop p.used (take k m)) ∙ ap length left_is

  moved : (out : List ℕ) → out ≡ sets m 0 (part m p.used (k - p.used)) → out ≡ sets m 0 (left_over s (take n m))
  moved out h = h ∙ ap (sets m 0) (part_of m p.used k used_fits (omega arith) ∙ left_is)

  pub fed_is : (out : List ℕ) → out ≡ sets m 0 (part m p.used (k - p.used))
      → record { play = came p t; held = k - p.used; piece = out } ≡ fed s n m
  unfolding fed
  fed_is out h = parts (came p t) (k - p.used) out play_is held_is (moved out h)
    where
      parts : (y : Play) (i : ℕ) (o : List ℕ) → y ≡ (fed s n m).play → i ≡ (fed s n m).held → o ≡ (fed s n m).piece
          → record { play = y; held = i; piece = o } ≡ fed s n m
      parts y i o f g q = rw (f, g, q)

-- what a call of `feed` came to, as the reading then stands
pub gone_is : (f : Fed) (t : State) (left : List ℕ) (at : ℕ) (s : State) (n : ℕ) (piece : List ℕ) → came_of f t left ≡ fed s n piece
    → (w : ℕ) → w ≡ wrapped (at + f.used)
    → record { state = t; held = f.held; at = w; stop = f.stop; piece = left } ≡ gone at s n piece
unfolding gone
gone_is f t left at s n piece e w h =
    parts t f.held w f.stop left
    (ap (λ (x : Feeding). x.play.state) e)
    (ap (λ (x : Feeding). x.held) e)
    (h ∙ ap (λ (x : Feeding). wrapped (at + x.play.used)) e)
    (ap (λ (x : Feeding). x.play.stop) e)
    (ap (λ (x : Feeding). x.piece) e)
  where
    parts : (y : State) (i j : ℕ) (k : Stop) (o : List ℕ) → y ≡ (gone at s n piece).state → i ≡ (gone at s n piece).held
        → j ≡ (gone at s n piece).at → k ≡ (gone at s n piece).stop → o ≡ (gone at s n piece).piece
        → record { state = y; held = i; at = j; stop = k; piece = o } ≡ gone at s n piece
    parts y i j k o f g q u v = rw (f, g, q, u, v)
