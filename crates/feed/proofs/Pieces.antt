-- A piece read behind what is held, and fed, is one step of the play by pieces: nothing is lost between two pieces and nothing is
-- played twice.
-- Assumes nothing.
use Rattle.std.proofs.Common.{◌≡◌, ℕ, ◌+◌, ◌^◌, ◌≤◌, List, ◌++◌, length, take, drop, ap, ◌∙◌, arith, length-drop, length-take}
use native.Mathlib.Nat.{mod-add-mod}
use lib.Seq.{take-append_seam}
use Rattle.octets.proofs.Laws.{sets_front}
use Rattle.tape.specs.declared.Stop.TheVariants.{NoKind}
use Rattle.book.specs.State.{State}
use Rattle.tape.specs.Playing.{played, Holding, feed}
use Rattle.tape.proofs.Pieces.{kept_short}
use Rattle.feed.specs.Feeding.{left_over, fed}
use Rattle.feed.specs.Reading.{wrapped, gone, StandsAt}

-- what is held stands at the front of the piece afterwards
pub front_held : (s : State) (n : ℕ) (piece : List ℕ) → take (fed s n piece).held (fed s n piece).piece ≡ left_over s (take n piece)
unfolding fed
front_held s n piece =
    let left = left_over s (take n piece) in
    let k : length left ≤ length piece = omega (arith, length-drop (played s (take n piece)).used (take n piece), length-take n piece) in
    ap (take (length left)) (sets_front left piece k) ∙ take-append_seam left (drop (length left) piece)

-- where the first n bytes are what was left over before, and then new ones: what a call leaves is what feeding the new ones leaves
pub record FeedsOn (h : Holding) (new : List ℕ) (n : ℕ) (piece : List ℕ) : Type 0 where
  pub state : (fed h.so.state n piece).play.state ≡ (feed h new).so.state
  pub used : h.so.used + (fed h.so.state n piece).play.used ≡ (feed h new).so.used
  pub stop : (fed h.so.state n piece).play.stop ≡ (feed h new).so.stop
  pub front : take (fed h.so.state n piece).held (fed h.so.state n piece).piece ≡ (feed h new).left

pub feeds_on : (h : Holding) (new : List ℕ) (n : ℕ) (piece : List ℕ) → take n piece ≡ h.left ++ new → FeedsOn h new n piece
unfolding fed feed
feeds_on h new n piece e =
    record {
      state = rw e;
      used = rw e;
      stop = rw e;
      front = front_held h.so.state n piece ∙ rw e;
    }

held_is : (h : Holding) (new : List ℕ) (n : ℕ) (piece : List ℕ) → take n piece ≡ h.left ++ new
    → (fed h.so.state n piece).held ≡ length (feed h new).left
unfolding fed feed
held_is h new n piece e = rw e

-- unless the tape stops for good, what is held is less than the longest entry
pub held_short : (s : State) (n : ℕ) (piece : List ℕ) → ((fed s n piece).play.stop ≡ NoKind → ⊥) → (fed s n piece).held ≤ 71
unfolding fed
held_short s n piece h = omega (arith, kept_short s (take n piece) h, length-drop (played s (take n piece)).used (take n piece))

-- where the first n bytes are what was left over before, and then new ones: the reading stands then where feeding the new ones leads
pub goes_on : (h : Holding) (new : List ℕ) (at n : ℕ) (piece : List ℕ) → take n piece ≡ h.left ++ new → at ≡ wrapped h.so.used
    → StandsAt (feed h new) (gone at h.so.state n piece)
unfolding gone
goes_on h new at n piece e w =
    let f = feeds_on h new n piece e in
    record {
      state = f.state;
      held = held_is h new n piece e;
      at =
          ap (λ (x : ℕ). wrapped (x + (fed h.so.state n piece).play.used)) w
          ∙ mod-add-mod h.so.used (2 ^ 64) (fed h.so.state n piece).play.used
          ∙ ap wrapped f.used;
      stop = f.stop;
      front = f.front;
    }
