-- The contract of `play` leaves one possible answer and one possible content for each lent byte. `Learnt` is that contract as the
-- compiler hands it to a caller: of the arguments, of the result, and of the arguments again as the call returns.
-- Assumes nothing.
use Prim.Native.Nat.{ℕ}
use mathlib.Core.Path.{◌≡◌, refl, ap, sym, ◌∙◌}
use mathlib.Core.List.{List}
use Rattle.counters.specs.declared.Counters.{Counters}
use Rattle.book.specs.State.{State, lent}
use Rattle.tape.specs.declared.Stop.{Stop}
use Rattle.tape.specs.declared.Played.{Played}
use Rattle.tape.specs.Playing.{Play, came, played}
use contract.Lifetimes.{Lfts}
use borrow.Fn.World.{ArgsD}
use borrow.Fn.Kinds.{ended_of}
use denote.Triple.Clauses.{AtExit}
use Rattle.tape.specs.contracts.play as play
use Rattle.tape.proofs.play.Reads as play-reads
use Rattle.tape.proofs.play.Kinds as play-kinds

-- two plays that came to the same told the same
told_same : (r r' : Played) (s s' : State) (p : Play) → came r s ≡ p → came r' s' ≡ p → r.counters ≡ s.counters
    → s'.counters ≡ r'.counters → r ≡ r'
told_same r r' s s' p h h' l l' =
    let e = h ∙ sym h' in
    same r.counters r.used r.stop
    (l ∙ ap (λ (x : Play). x.state.counters) e ∙ l')
    (ap (λ (x : Play). x.used) e)
    (ap (λ (x : Play). x.stop) e)
  where
    same : (c : Counters) (n : ℕ) (w : Stop) → c ≡ r'.counters → n ≡ r'.used → w ≡ r'.stop
        → record { counters = c; used = n; stop = w } ≡ r'
    same c n w e f g = rw (e, f, g)

module _ (κs : Lfts (play.signature).lifetimes) (a : ArgsD play.signature κs) where
  -- what the call is lent, and what it is given
  abbrev pub play_from : State
  play_from = lent a.0 a.1.0.now a.1.1.0.now

  abbrev pub play_given : List ℕ
  play_given = a.1.1.1.0.now

  -- what comes of it
  abbrev pub play_left : Played → AtExit (ended_of (play.signature).lifetimes play-kinds.ps play-kinds.r) κs → Play
  play_left r s = came r (lent r.counters s.1.0.now s.1.1.0.now)

  pub play_one : (r r' : Played) (s s' : AtExit (ended_of (play.signature).lifetimes play-kinds.ps play-kinds.r) κs)
      → play-reads.Learnt κs a r s → play-reads.Learnt κs a r' s'
      → (r ≡ r') × (s.1.0.now ≡ s'.1.0.now) × (s.1.1.0.now ≡ s'.1.1.0.now)
  play_one r r' s s' h h' =
      (told_same r r' _ _ _ h h' refl refl, ap (λ (x : Play). x.state.rows) (h ∙ sym h'), ap (λ (x : Play). x.state.lines) (h ∙ sym h'))

  -- what a caller is told, and nothing else
  pub play_says : (r : Played) (s : AtExit (ended_of (play.signature).lifetimes play-kinds.ps play-kinds.r) κs)
      → play-reads.Learnt κs a r s ≡ (play_left r s ≡ played play_from play_given)
  play_says r s = refl
