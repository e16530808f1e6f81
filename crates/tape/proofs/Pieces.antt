-- A tape may be played in pieces of any size, each behind what the pieces before it left over; and that is little.
-- Assumes nothing.
use Rattle.std.specs.Prelude.{Err, Ok, Result, ℕ}
use mathlib.Core.Path.{◌≡◌, refl, ap, sym, ◌∙◌}
use mathlib.Core.Bool.{Bool, true, false}
use mathlib.Core.List.{List, [], ◌∷◌, ◌++◌, append-nil, append_assoc}
use Prim.Native.Nat.{ℕ, zero, suc, ◌+◌, ◌-◌, ◌≤◌, ◌<◌}
use native.Mathlib.Nat.{add-zero}
use native.Mathlib.Omega.{arith}
use borrow.Author.Tests.{eqb-false, leb-false}
use lib.Dec.{eqb, leb}
use lib.ListN.{length, take, drop, length-append, length-drop}
use lib.Seq.{drop-drop, take-append-le, drop-append-le}
use Rattle.tape.specs.Entries.{body_length, head_of, entry_of}
use Rattle.book.specs.State.{State}
use Rattle.tape.specs.Playing.{acted, Play, further, played, Holding, begun, held, feed, feed_all, joined}
use Rattle.tape.specs.declared.Stop.{Stop}
use Rattle.tape.specs.declared.Stop.TheVariants.{Ended, NoKind, CutShort}
use Rattle.tape.proofs.Heads.{entry_stands, stands, standing_within, body_some}
use Rattle.tape.proofs.Plays.{shorter, play_stops, play_whole, further_none, further_further}

-- ---- where a played stops

-- within its bytes, and where what stands says why
pub record Stopped (s : State) (b : List ℕ) : Type 0 where
  pub within : (played s b).used ≤ length b
  pub why : head_of (drop (played s b).used b) ≡ Err (played s b).stop

stopped_here : (s : State) (b : List ℕ) (w : Stop) → head_of b ≡ Err w → Stopped s b
stopped_here s b w e =
    let p = play_stops s b w e in
    record {
      within = rw p (omega arith);
      why = rw p e;
    }

stopped_later : (s : State) (b : List ℕ) (n : ℕ) → head_of b ≡ Ok n → Stopped (acted s (entry_of (take n b))) (drop n b) → Stopped s b
stopped_later s b n e r =
    let p = play_whole s b n e in
    let l = length-drop n b in
    let i = standing_within b n e in
    let h = r.within in
    record {
      within = rw p (omega arith);
      why = rw (p, ← drop-drop) r.why;
    }

stopped_for : (k : ℕ) (s : State) (b : List ℕ) → length b ≤ k → Stopped s b
unfolding head_of
stopped_for zero s [] l = stopped_here s [] Ended refl
stopped_for zero s (x ∷ b) l = absurd (omega arith)
stopped_for (suc k) s b l = go (head_of b) refl (λ n e. stopped_for k (acted s (entry_of (take n b))) (drop n b) (shorter b n k e l))
  where
    go : (h : Result ℕ Stop) → head_of b ≡ h → ((n : ℕ) → head_of b ≡ Ok n → Stopped (acted s (entry_of (take n b))) (drop n b)) → Stopped s b
    go (Err w) e r = stopped_here s b w e
    go (Ok n) e r = stopped_later s b n e (r n e)

pub play_rest : (s : State) (b : List ℕ) → Stopped s b
play_rest s b = stopped_for (length b) s b (omega arith)

pub used_within : (s : State) (b : List ℕ) → (played s b).used ≤ length b
used_within s b = (play_rest s b).within

-- ---- what is left over

-- a body that is not whole: its kind byte and fewer bytes than it asks
short_head : (b : List ℕ) → head_of b ≡ Err CutShort → length b < 72
unfolding head_of
short_head [] e = omega arith
short_head (k ∷ s) e = go (eqb (body_length k) 0) refl (leb (body_length k) (length s)) refl
  where
    go : (t : Bool) → eqb (body_length k) 0 ≡ t → (u : Bool) → leb (body_length k) (length s) ≡ u → suc (length s) < 72
    go true t u v = let f : Err NoKind ≡ Err CutShort = rw t at e in let z : ◌≡◌ {A = ℕ} 0 1 = cc in absurd (omega arith)
    go false t true v =
        let f : Ok (suc (body_length k)) ≡ Err CutShort = rw (t, v) at e in let z : ◌≡◌ {A = ℕ} 0 1 = cc in absurd (omega arith)
    go false t false v = omega (arith, leb-false (body_length k) (length s) v, body_some k (eqb-false (body_length k) 0 t))

-- nothing left
ended_head : (b : List ℕ) → head_of b ≡ Err Ended → b ≡ []
unfolding head_of
ended_head [] e = refl
ended_head (k ∷ s) e = go (eqb (body_length k) 0) refl (leb (body_length k) (length s)) refl
  where
    go : (t : Bool) → eqb (body_length k) 0 ≡ t → (u : Bool) → leb (body_length k) (length s) ≡ u → k ∷ s ≡ []
    go true t u v = let f : Err NoKind ≡ Err Ended = rw t at e in let z : ◌≡◌ {A = ℕ} 0 1 = cc in absurd (omega arith)
    go false t true v =
        let f : Ok (suc (body_length k)) ≡ Err Ended = rw (t, v) at e in let z : ◌≡◌ {A = ℕ} 0 1 = cc in absurd (omega arith)
    go false t false v = let f : Err CutShort ≡ Err Ended = rw (t, v) at e in let z : ◌≡◌ {A = ℕ} 0 1 = cc in absurd (omega arith)

pub left_short : (s : State) (b : List ℕ) → (played s b).stop ≡ CutShort → length (drop (played s b).used b) < 72
left_short s b e = short_head (drop (played s b).used b) ((play_rest s b).why ∙ ap Err e)

pub left_none : (s : State) (b : List ℕ) → (played s b).stop ≡ Ended → drop (played s b).used b ≡ []
left_none s b e = ended_head (drop (played s b).used b) ((play_rest s b).why ∙ ap Err e)

-- 71 bytes are room enough for what is kept between two pieces
pub kept_short : (s : State) (b : List ℕ) → ((played s b).stop ≡ NoKind → ⊥) → length b - (played s b).used < 72
kept_short s b h = go (played s b).stop refl
  where
    go : (w : Stop) → (played s b).stop ≡ w → length b - (played s b).used < 72
    go Ended e = omega (arith, length-drop (played s b).used b, ap length (left_none s b e))
    go NoKind e = absurd (h e)
    go CutShort e = omega (arith, length-drop (played s b).used b, left_short s b e)

-- ---- a tape and what follows it

-- a whole entry, or a byte that is no kind, stands at the head whatever follows
head_more : (a b : List ℕ) (n : ℕ) → head_of a ≡ Ok n → head_of (a ++ b) ≡ Ok n
head_more a b n e =
    let w = entry_stands a n e in
    let l : body_length w.kind ≤ length (w.after ++ b) = omega (arith, length-append w.after b, w.fits) in
    ap (λ (x : List ℕ). head_of (x ++ b)) w.bytes ∙ stands w.kind (w.after ++ b) w.known l ∙ ap Ok (sym w.size)

no_kind_more : (a b : List ℕ) → head_of a ≡ Err NoKind → head_of (a ++ b) ≡ Err NoKind
unfolding head_of
no_kind_more [] b e = let z : ◌≡◌ {A = ℕ} 0 1 = cc in absurd (omega arith)
no_kind_more (k ∷ s) b e = go (eqb (body_length k) 0) refl (leb (body_length k) (length s)) refl
  where
    go : (t : Bool) → eqb (body_length k) 0 ≡ t → (u : Bool) → leb (body_length k) (length s) ≡ u → head_of (k ∷ (s ++ b)) ≡ Err NoKind
    go true t u v = rw t
    go false t true v =
        let f : Ok (suc (body_length k)) ≡ Err NoKind = rw (t, v) at e in let z : ◌≡◌ {A = ℕ} 0 1 = cc in absurd (omega arith)
    go false t false v = let f : Err CutShort ≡ Err NoKind = rw (t, v) at e in let z : ◌≡◌ {A = ℕ} 0 1 = cc in absurd (omega arith)

-- a play of a that is gone on with, b being behind what it left over
abbrev pub gone_on : Play → List ℕ → List ℕ → Play
gone_on p a b = further p.used (played p.state (drop p.used a ++ b))

gone_further : (n : ℕ) (p : Play) (a b : List ℕ) → further n (gone_on p (drop n a) b) ≡ gone_on (further n p) a b
gone_further n p a b =
    further_further n p.used (played p.state (drop p.used (drop n a) ++ b))
    ∙ ap (λ (x : List ℕ). further (n + p.used) (played p.state (x ++ b))) (drop-drop p.used n a)

append_here : (s : State) (a b : List ℕ) (w : Stop) → head_of a ≡ Err w → played s (a ++ b) ≡ gone_on (played s a) a b
append_here s a b w e = rw (play_stops s a w e) (sym (further_none (played s (a ++ b))))

append_later : (s : State) (a b : List ℕ) (n : ℕ) → head_of a ≡ Ok n
    → played (acted s (entry_of (take n a))) (drop n a ++ b) ≡ gone_on (played (acted s (entry_of (take n a))) (drop n a)) (drop n a) b
    → played s (a ++ b) ≡ gone_on (played s a) a b
append_later s a b n e r =
    let l : n ≤ length a = (standing_within a n e).2 in
    play_whole s (a ++ b) n (head_more a b n e)
    ∙ rw (take-append-le n a b l, drop-append-le n a b l) (ap (further n) r)
    ∙ gone_further n (played (acted s (entry_of (take n a))) (drop n a)) a b
    ∙ ap (λ (p : Play). gone_on p a b) (sym (play_whole s a n e))

append_for : (k : ℕ) (s : State) (a b : List ℕ) → length a ≤ k → played s (a ++ b) ≡ gone_on (played s a) a b
unfolding head_of
append_for zero s [] b l = append_here s [] b Ended refl
append_for zero s (x ∷ a) b l = absurd (omega arith)
append_for (suc k) s a b l = go (head_of a) refl (λ n e. append_for k (acted s (entry_of (take n a))) (drop n a) b (shorter a n k e l))
  where
    go : (h : Result ℕ Stop) → head_of a ≡ h
        →
        ((n : ℕ) → head_of a ≡ Ok n → played (acted s (entry_of (take n a))) (drop n a ++ b) ≡ gone_on
        (played (acted s (entry_of (take n a))) (drop n a)) (drop n a) b)
        → played s (a ++ b) ≡ gone_on (played s a) a b
    go (Err w) e r = append_here s a b w e
    go (Ok n) e r = append_later s a b n e (r n e)

-- playing a and b is playing a, and then what a left over and b, from the book that a left
pub play_append : (s : State) (a b : List ℕ) → played s (a ++ b) ≡ gone_on (played s a) a b
play_append s a b = append_for (length a) s a b (omega arith)

-- after a byte that is no kind nothing that follows matters
pub no_kind_ends : (s : State) (a b : List ℕ) → (played s a).stop ≡ NoKind → played s (a ++ b) ≡ played s a
no_kind_ends s a b e =
    let h = no_kind_more (drop (played s a).used a) b ((play_rest s a).why ∙ ap Err e) in
    play_append s a b
    ∙ ap (further (played s a).used) (play_stops (played s a).state (drop (played s a).used a ++ b) NoKind h)
    ∙ rw (add-zero, ← e)

-- ---- pieces

-- one piece more
pub feed_one : (s : State) (a piece : List ℕ) → feed (held s a) piece ≡ held s (a ++ piece)
unfolding feed
feed_one s a piece = rw (play_append s a piece, ← drop-drop, drop-append-le (played s a).used a piece (used_within s a))

feed_from_lem : (s : State) (a : List ℕ) (ps : List (List ℕ)) → feed_all (held s a) ps ≡ held s (a ++ joined ps)
unfolding feed_all
feed_from_lem s a [] = rw (append-nil a)
feed_from_lem s a (piece ∷ ps) =
    ap (λ (h : Holding). feed_all h ps) (feed_one s a piece) ∙ feed_from_lem s (a ++ piece) ps ∙ ap (held s) (append_assoc a piece (joined ps))

-- before the first piece
pub begun_is : (s : State) → begun s ≡ held s []
unfolding played head_of
begun_is s = rw (play_stops s [] Ended refl)

-- any way of cutting a tape into pieces comes to the same book, the same bytes used, the same stop and the same bytes left over
pub pieces : (s : State) (ps : List (List ℕ)) → feed_all (begun s) ps ≡ held s (joined ps)
pieces s ps = ap (λ (h : Holding). feed_all h ps) (begun_is s) ∙ feed_from_lem s [] ps
