-- One piece more of a tape, read behind what is held, and the wall of a tape that was read.
-- Assumes nothing.
use Rattle.std.proofs.Common.{◌≡◌, ℕ, ◌+◌, ◌≤◌, List, [], ◌++◌, length, take, sym, ap, ◌∙◌, refl, subst, arith, rules, length-drop, length-take-le, append-nil, Option, true}
use Rattle.std.specs.Io.KnownBytes.{Consumes, Keeps, IsAtEnd}
use Rattle.std.proofs.KnownBytes.{Consumes-nil, Consumes-kept}
use Rattle.std.proofs.Math.Seq.{take-append-add}
use Rattle.std.proofs.lemmas.List.{take-append-le}
use Rattle.std.proofs.lemmas.Slice.{take-put_mid_below}
use borrow.Rule.Slice.PartMut.{put_mid}
use Rattle.editions.specs.declared.Edition.TheVariants.{NlsPlus}
use Rattle.counters.specs.Counting.{fresh_counters}
use Rattle.book.specs.State.{State, lent}
use Rattle.tape.specs.declared.Stop.{Stop}
use Rattle.tape.specs.declared.Stop.TheVariants.{Ended, NoKind, CutShort}
use Rattle.tape.specs.Playing.{Holding, played, held}
use Rattle.tape.proofs.Pieces.{begun_is, feed_one, kept_short}
use Rattle.feed.specs.declared.reading.Reading.{Reading}
use Rattle.feed.specs.Reading.{Standing, standing, gone, nothing_read, StandsAt}
use Rattle.feed.proofs.Pieces.{goes_on}
use Rattle.wall.specs.declared.input.Rest.{Rest}
use Rattle.wall.specs.declared.input.Rest.TheVariants.{Open, Closed, Unread}
use Rattle.wall.specs.Reads.{CanGoOn, RestSays, is_open, rest_after}

-- ---- the rest

pub open_goes : (r : Rest) (w : Stop) (left : Option (List ℕ)) → is_open r ≡ true → RestSays r w left → CanGoOn w
open_goes Open w left e h = h
open_goes Closed w left e h = search rules
open_goes Unread w left e h = search rules

ended_open : CanGoOn Ended
ended_open = search rules

after_is : (w : Stop) (left : Option (List ℕ)) → RestSays (rest_after w) w left
after_is Ended left = search rules
after_is CutShort left = search rules
after_is NoKind left = λ h. absurd (h refl)

pub closed_by : (r : Rest) (w : Stop) (left : Option (List ℕ)) → r ≡ rest_after w → RestSays r w left
closed_by r w left e = subst (λ (t : Rest). RestSays t w left) (sym e) (after_is w left)

pub closed_is : (r : Rest) (w : Stop) (left : Option (List ℕ)) → r ≡ Closed → RestSays r w left → CanGoOn w → IsAtEnd left
closed_is r w left e h = subst (λ (t : Rest). RestSays t w left) e h

-- ---- what stands

stands_with : {h h' : Holding} {s s' : Standing} → h ≡ h' → s ≡ s' → StandsAt h s → StandsAt h' s'
stands_with {h} {h'} {s} {s'} e f w = subst (λ (x : Standing). StandsAt h' x) f (subst (λ (x : Holding). StandsAt x s) e w)

-- nothing is read
pub at_first : (r : Reading) (rows lines piece : List ℕ) → r ≡ nothing_read
    → StandsAt (held (lent (fresh_counters NlsPlus) rows lines) []) (standing r (lent r.counters rows lines) piece)
at_first r rows lines piece h =
    stands_with (begun_is (lent (fresh_counters NlsPlus) rows lines))
    (ap (λ (x : Reading). standing x (lent x.counters rows lines) piece) (sym h))
    (record { state = refl; held = refl; at = refl; stop = refl; front = refl })

-- a call of `go_on` whose bytes are those that are held and then the new ones
pub one_more : (s : State) (tape more : List ℕ) (now then : Standing) (n : ℕ) (piece : List ℕ) → StandsAt (held s tape) now
    → take n piece ≡ take now.held now.piece ++ more → then ≡ gone now.at now.state n piece → StandsAt (held s (tape ++ more)) then
one_more s tape more now then n piece w e f =
    let q = goes_on (held s tape) more now.at n piece (e ∙ ap (λ (l : List ℕ). l ++ more) w.front) w.at in
    stands_with (feed_one s tape more) (ap (λ (y : State). gone now.at y n piece) (sym w.state) ∙ sym f) q

-- what is held is less than a piece has room for
pub held_few : (s : State) (tape : List ℕ) (now : Standing) → StandsAt (held s tape) now → CanGoOn now.stop → now.held ≤ 71
held_few s tape now w h =
    let k = kept_short s tape (λ e. h (w.stop ∙ e)) in
    omega (arith, k, w.held, length-drop (played s tape).used tape)

-- bytes put behind the first a, and n of them: the first a and then those n
pub behind : (a k n : ℕ) (xs ys : List ℕ) → a ≤ length xs → n ≤ length ys → take (a + n) (put_mid a k xs ys) ≡ take a xs ++ take n ys
behind a k n xs ys p q =
    ap (λ m. take (m + n) (put_mid a k xs ys)) (sym (length-take-le a xs p)) ∙ take-append-add (take a xs) _ n
    ∙ ap (λ l. take a xs ++ l) (take-append-le n ys _ q)

-- a reading that gave nothing leaves what is held where it was
abbrev pub moved : Standing → List ℕ → Standing
moved s piece = record { state = s.state; held = s.held; at = s.at; stop = s.stop; piece = piece }

pub nothing_more : (s : State) (tape : List ℕ) (now : Standing) (a k : ℕ) (ys : List ℕ) → a ≡ now.held → a ≤ length now.piece
    → StandsAt (held s tape) now → StandsAt (held s (tape ++ [])) (moved now (put_mid a k now.piece ys))
nothing_more s tape now a k ys e p w =
    let front = take-put_mid_below a k now.piece ys now.held (omega (arith, e)) p in
    subst (λ (b : List ℕ). StandsAt (held s b) (moved now (put_mid a k now.piece ys))) (sym (append-nil tape))
    (record { state = w.state; held = w.held; at = w.at; stop = w.stop; front = front ∙ w.front })

pub none_given : (old new : Option (List ℕ)) → Keeps old new → Consumes old new []
none_given old new h = Consumes-kept old old new [] (Consumes-nil old) h

pub none_read : (old new : Option (List ℕ)) (n : ℕ) (bytes : List ℕ) → n ≡ 0 → Consumes old new (take n bytes) → Consumes old new []
none_read old new n bytes e h = subst (λ (m : ℕ). Consumes old new (take m bytes)) e h

pub begun_open : (r : Reading) → r ≡ nothing_read → CanGoOn r.stop
begun_open r h = subst (λ (x : Reading). CanGoOn x.stop) (sym h) ended_open
