-- The contracts of `feed`, `begin` and `go_on` leave one answer and one content for each lent byte.
-- Assumes nothing.
use Rattle.std.proofs.Common.{◌≡◌, ℕ, List, sym, refl, ap, ◌∙◌}
use contract.Lifetimes.{Lfts}
use borrow.Fn.World.{ArgsD}
use borrow.Fn.Kinds.{ended_of}
use denote.Triple.Clauses.{AtExit}
use Rattle.counters.specs.declared.Counters.{Counters}
use Rattle.book.specs.State.{State, lent}
use Rattle.tape.specs.declared.Stop.{Stop}
use Rattle.feed.specs.declared.Fed.{Fed}
use Rattle.feed.specs.Feeding.{Feeding, came_of, fed}
use Rattle.feed.specs.declared.reading.Reading.{Reading}
use Rattle.feed.specs.Reading.{nothing_read, Standing, standing, gone, GoneTyped}
use Rattle.feed.specs.contracts.feed as feed
use Rattle.feed.proofs.feed.Reads as feed-reads
use Rattle.feed.proofs.feed.Kinds as feed-kinds
use Rattle.feed.proofs.reading.begin.Reads as begin-reads
use Rattle.feed.specs.contracts.reading.go_on as go_on
use Rattle.feed.proofs.reading.go_on.Reads as go-on-reads
use Rattle.feed.proofs.reading.go_on.Kinds as go-on-kinds

-- two calls that came to the same told the same
told_same : (r r' : Fed) (s s' : State) (piece piece' : List ℕ) (f : Feeding) → came_of r s piece ≡ f → came_of r' s' piece' ≡ f
    → r.counters ≡ s.counters → s'.counters ≡ r'.counters → r ≡ r'
told_same r r' s s' piece piece' f h h' l l' =
    let e = h ∙ sym h' in
    same r.counters r.used r.held r.stop
    (l ∙ ap (λ (x : Feeding). x.play.state.counters) e ∙ l')
    (ap (λ (x : Feeding). x.play.used) e)
    (ap (λ (x : Feeding). x.held) e)
    (ap (λ (x : Feeding). x.play.stop) e)
  where
    same : (c : Counters) (n k : ℕ) (w : Stop) → c ≡ r'.counters → n ≡ r'.used → k ≡ r'.held → w ≡ r'.stop
        → record { counters = c; used = n; held = k; stop = w } ≡ r'
    same c n k w e f g q = rw (e, f, g, q)

module _ (κs : Lfts (feed.signature).lifetimes) (a : ArgsD feed.signature κs) where
  -- what the call is lent, and what it is given: how many bytes to play, and the piece
  abbrev pub feed_from : State
  feed_from = lent a.0 a.1.0.now a.1.1.0.now

  abbrev pub feed_piece : List ℕ
  feed_piece = a.1.1.1.0.now

  abbrev pub feed_count : ℕ
  feed_count = a.1.1.1.1.0

  -- what comes of it
  abbrev pub feed_left : Fed → AtExit (ended_of (feed.signature).lifetimes feed-kinds.ps feed-kinds.r) κs → Feeding
  feed_left r s = came_of r (lent r.counters s.1.0.now s.1.1.0.now) s.1.1.1.0.now

  pub feed_one : (r r' : Fed) (s s' : AtExit (ended_of (feed.signature).lifetimes feed-kinds.ps feed-kinds.r) κs)
      → feed-reads.Learnt κs a r s → feed-reads.Learnt κs a r' s'
      → (r ≡ r') × (s.1.0.now ≡ s'.1.0.now) × (s.1.1.0.now ≡ s'.1.1.0.now) × (s.1.1.1.0.now ≡ s'.1.1.1.0.now)
  feed_one r r' s s' h h' =
      let e = h ∙ sym h' in (
        told_same r r' _ _ _ _ _ h h' refl refl,
        ap (λ (x : Feeding). x.play.state.rows) e,
        ap (λ (x : Feeding). x.play.state.lines) e,
        ap (λ (x : Feeding). x.piece) e,
      )

  -- what a caller is told, and nothing else
  pub feed_says : (r : Fed) (s : AtExit (ended_of (feed.signature).lifetimes feed-kinds.ps feed-kinds.r) κs)
      → feed-reads.Learnt κs a r s ≡ (feed_left r s ≡ fed feed_from feed_count feed_piece)
  feed_says r s = refl

-- ---- a tape that is being read

pub begin_one : (r r' : Reading) → begin-reads.Learnt tt tt r tt → begin-reads.Learnt tt tt r' tt → r ≡ r'
begin_one r r' h h' = h ∙ sym h'

pub begin_says : (r : Reading) → begin-reads.Learnt tt tt r tt ≡ (r ≡ nothing_read)
begin_says r = refl

abbrev pub GoLfts : Type 0
GoLfts = Lfts (go_on.signature).lifetimes

abbrev pub GoArgs : GoLfts → Type 0
GoArgs κs = ArgsD go_on.signature κs

abbrev pub GoExit : GoLfts → Type 0
GoExit κs = AtExit (ended_of (go_on.signature).lifetimes go-on-kinds.ps go-on-kinds.r) κs

module _ (κs : GoLfts) (a : GoArgs κs) where
  -- how the reading stands before it, how many bytes of the piece are played, and how it stands after
  abbrev pub go_from : Standing
  go_from = standing a.0 (lent a.0.counters a.1.0.now a.1.1.0.now) a.1.1.1.0.now

  abbrev pub go_count : ℕ
  go_count = a.1.1.1.1.0

  abbrev pub go_left : Reading → GoExit κs → Standing
  go_left r x = standing r (lent r.counters x.1.0.now x.1.1.0.now) x.1.1.1.0.now

  pub go_on_one : (r r' : Reading) (x x' : GoExit κs) → go-on-reads.Learnt κs a r x → go-on-reads.Learnt κs a r' x'
      → (r ≡ r') × (go_left r x ≡ go_left r' x')
  go_on_one r r' x x' h h' =
      let e : go_left r x ≡ go_left r' x' = h.0 ∙ sym h'.0 in (
        same r.counters r.held r.at r.stop
            (ap (λ (y : Standing). y.state.counters) e)
            (ap (λ (y : Standing). y.held) e)
            (ap (λ (y : Standing). y.at) e)
            (ap (λ (y : Standing). y.stop) e),
        e,
      )
    where
      same : (c : Counters) (n k : ℕ) (w : Stop) → c ≡ r'.counters → n ≡ r'.held → k ≡ r'.at → w ≡ r'.stop
          → record { counters = c; held = n; at = k; stop = w } ≡ r'
      same c n k w e f g q = rw (e, f, g, q)

  pub go_on_says : (r : Reading) (x : GoExit κs)
      → go-on-reads.Learnt κs a r x
      ≡ ((go_left r x ≡ gone go_from.at go_from.state go_count go_from.piece) × GoneTyped go_from.state.lines go_from.piece)
  go_on_says r x = refl
