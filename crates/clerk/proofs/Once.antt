-- Of the clerk's book: taken messages name no key twice, the live lines are those that nothing named since they were made, and
-- the figures are those that the live lines mean.
-- Assumes nothing.
use Rattle.std.specs.Prelude.{None}
use Prim.Native.Nat.{ℕ, suc}
use mathlib.Core.Path.{◌≡◌, refl, sym, ap, subst, ◌∙◌}
use mathlib.Core.Logic.{◌↔◌, ⊎_elim}
use mathlib.Core.Bool.{Bool, true, false, cond, ◌||◌, true≢false}
use mathlib.Core.List.Memᴰ
use mathlib.Core.List.{List, [], ◌∷◌, ◌++◌, reverse_aux, Memᴰ}
use mathlib.Core.List.{map-append, append-nil, append_assoc}
use borrow.Author.Tests.{not-true}
use lib.Dec.{eqb}
use lib.ListN.{length}
use Rattle.octets.specs.Run.{same}
use Rattle.octets.proofs.Trips.{same_is}
use Rattle.editions.specs.declared.Edition.{Edition}
use Rattle.editions.specs.Editions.{reports}
use Rattle.message.specs.Reader.{read_of}
use Rattle.records.specs.declared.Record.{Record}
use Rattle.lines.specs.declared.Line.{Line}
use Rattle.rows.specs.declared.Listing.{Listing}
use Rattle.keys.specs.Keys.{old_key}
use Rattle.clerk.specs.Messages.{names_in, makes_in, key_in}
use Rattle.figures.specs.declared.Figures.{Figures}
use Rattle.walk.specs.Walking.{figures_of}
use Rattle.walk.specs.Meaning.{Are}
use Rattle.walk.proofs.Meaning.{figures_are, figures_one}
use Rattle.show.specs.Showing.{shown_of}
use Rattle.clerk.specs.Clerk.{is_in, basis_after, Taken, Origin, origin_of, names, trade, made, trades_but, trades_of, taken_of, row_of}
use Rattle.clerk.specs.Clerk.{answer_to, summary_of, reported_of, shown_by, book_by, clerk_book}
use Rattle.clerk.specs.Claims.{NoRepeat, keys_of, named_in, names_done, MadeLive}
use Rattle.clerk.proofs.Passing.{Passed}
use Rattle.clerk.proofs.Lines.{or_false_left, or_false_right, or_swap, listed_append, borne_is, named, named_hit, named_append}
use Rattle.clerk.proofs.Lines.{named_live}
use Rattle.clerk.proofs.Sim.{brings, keys_cut, keys_more, lively, Took, took}

-- ---- at most once

or-true : (a b : Bool) → (a || b) ≡ true → a ≡ false → b ≡ true
or-true true b h e = absurd (true≢false e)
or-true false b h e = h

-- a key that is not one of two lists is in neither
in_neither : (k : List ℕ) (xs ys : List (List ℕ)) → is_in k xs ≡ false → is_in k ys ≡ false → is_in k (xs ++ ys) ≡ false
in_neither k xs ys e f = listed_append k xs ys ∙ rw (e, f)

module _ (ed : Edition) (sheet : List Listing) (limit : ℕ) where
  -- the key that a taken message names is borne by a line
  names_borne : (es : List Taken) (r : Record) → Passed (basis_after sheet limit es) r → names_in r ≡ true
      → is_in (old_key r) (keys_of (trades_of es)) ≡ true
  names_borne es r p o = sym (borne_is (old_key r) (trades_of es)) ∙ p.is_borne o

  -- a key that no line bears is not the one that it names
  not_named : (k : List ℕ) (es : List Taken) (r : Record) → Passed (basis_after sheet limit es) r
      → is_in k (keys_of (trades_of es)) ≡ false → is_in k (names r) ≡ false
  not_named k es r p h = go (names_in r) refl
    where
      other : names_in r ≡ true → (t : Bool) → same (old_key r) k ≡ t → (t || false) ≡ false
      other o true t =
          let q : old_key r ≡ k = (same_is (old_key r) k).0 t in
          absurd (true≢false (sym (names_borne es r p o) ∙ ap (λ (x : List ℕ). is_in x (keys_of (trades_of es))) q ∙ h))
      other o false t = refl

      go : (t : Bool) → names_in r ≡ t → is_in k (cond t (old_key r ∷ []) []) ≡ false
      go true t = other t (same (old_key r) k) refl
      go false t = refl

  -- only a key that some line bears was named
  never_named : (k : List ℕ) (es : List Taken) → Took ed sheet limit es → is_in k (keys_of (trades_of es)) ≡ false
      → is_in k (named_in es) ≡ false
  unfolding named_in
  never_named k [] w h = refl
  never_named k (e ∷ es) w h =
      let f : is_in k (keys_of (trades_of es)) ≡ false
      = or_false_left _ (is_in k (brings e.message))
      (sym (listed_append k (keys_of (trades_of es)) (brings e.message)) ∙ ap (is_in k) (sym (keys_more [] e es)) ∙ h) in
      in_neither k (names e.message) (named_in es) (not_named k es e.message w.0 f) (never_named k es w.1 f)

  -- the line that one message made, if it bears the key and is live, was not named later
  made_live : (k : List ℕ) (e : Taken) (es : List Taken) (later : List (List ℕ)) → is_in k (keys_of (made e es later)) ≡ true
      → (named k (made e es later)).live ≡ true → is_in k later ≡ false
  made_live k e es later h v = go (makes_in e.message) h v
    where
      l : Line
      l = trade e (origin_of (e ∷ es) (key_in e.message)) later

      hit : (t : Bool) → same l.key k ≡ t → (t || false) ≡ true → (named k (l ∷ [])).live ≡ true → is_in k later ≡ false
      hit true t h v =
          let q : l.key ≡ k = (same_is l.key k).0 t in
          ap (λ (x : List ℕ). is_in x later) (sym q)
          ∙ not-true (is_in l.key later) (ap (λ (x : Line). x.live) (sym (named_hit k l [] t)) ∙ v)
      hit false t h v = absurd (true≢false (sym h))

      go : (t : Bool) → is_in k (keys_of (cond t (l ∷ []) [])) ≡ true → (named k (cond t (l ∷ []) [])).live ≡ true → is_in k later ≡ false
      go true h v = hit (same l.key k) refl h v
      go false h v = absurd (true≢false (sym h))

  -- a trade that is live was not named
  live_unnamed : (k : List ℕ) (later : List (List ℕ)) (es : List Taken) → Took ed sheet limit es
      → is_in k (keys_of (trades_but later es)) ≡ true → (named k (trades_but later es)).live ≡ true
      → (is_in k (named_in es) ≡ false) × (is_in k later ≡ false)
  unfolding trades_but named_in
  live_unnamed k later [] w h v = absurd (true≢false (sym h))
  live_unnamed k later (e ∷ es) w h v =
      go (is_in k (keys_of A)) refl (rw (named_append k A M) at v) (λ q u. live_unnamed k (ns ++ later) es w.1 q u)
    where
      ns : List (List ℕ)
      ns = names e.message

      A : List Line
      A = trades_but (ns ++ later) es

      M : List Line
      M = made e es later

      go : (t : Bool) → is_in k (keys_of A) ≡ t → (cond t (named k A) (named k M)).live ≡ true
          → (is_in k (keys_of A) ≡ true → (named k A).live ≡ true → (is_in k (named_in es) ≡ false) × (is_in k (ns ++ later) ≡ false))
          → (is_in k (ns ++ named_in es) ≡ false) × (is_in k later ≡ false)
      go true t v i =
          let q = i t v in
          let f : (is_in k ns || is_in k later) ≡ false = sym (listed_append k ns later) ∙ q.1 in
          (in_neither k ns (named_in es) (or_false_left (is_in k ns) (is_in k later) f) q.0, or_false_right (is_in k ns) (is_in k later) f)
      go false t v i =
          let f : is_in k (keys_of (trades_of es)) ≡ false = ap (is_in k) (keys_cut [] (ns ++ later) es) ∙ t in
          let g : is_in k (keys_of M) ≡ true
          = or-true (is_in k (keys_of A)) (is_in k (keys_of M))
          (sym (listed_append k (keys_of A) (keys_of M)) ∙ ap (is_in k) (sym (map-append (λ (l : Line). l.key) A M)) ∙ h) t in
          (in_neither k ns (named_in es) (not_named k es e.message w.0 f) (never_named k es w.1 f), made_live k e es later g v)

  once : (es : List Taken) → Took ed sheet limit es → NoRepeat (named_in es)
  unfolding named_in
  once [] w = tt
  once (e ∷ es) w = go (names_in e.message) refl (once es w.1)
    where
      k : List ℕ
      k = old_key e.message

      go : (t : Bool) → names_in e.message ≡ t → NoRepeat (named_in es) → NoRepeat (cond t (k ∷ []) [] ++ named_in es)
      go true t i =
          let live = named_live k (trades_of es) (w.0.is_borne t) (w.0.is_live t) in
          ((live_unnamed k [] es w.1 (names_borne es e.message w.0 t) live).0, i)
      go false t i = i

  -- the keys that taken X and C named have no repeat
  pub at_most_once : (ms : List (List ℕ)) → NoRepeat (named_in (taken_of ed sheet limit ms))
  at_most_once ms = once (taken_of ed sheet limit ms) (took ed sheet limit ms)

  -- one message more names what it names if it is answered 0, which turned about is itself
  pub named_more : (ms : List (List ℕ)) (m : List ℕ)
      → let es = taken_of ed sheet limit ms in
      named_in (taken_of ed sheet limit (m ∷ ms)) ≡ reverse_aux (names_done ed m (answer_to ed sheet limit es m)) (named_in es)
  unfolding taken_of named_in
  named_more ms m = go (answer_to ed sheet limit es m) (eqb (answer_to ed sheet limit es m) 0) refl
    where
      es : List Taken
      es = taken_of ed sheet limit ms

      r : Record
      r = (read_of ed m).found

      one : (u : Bool) → cond u (old_key r ∷ []) [] ++ named_in es ≡ reverse_aux (cond u (old_key r ∷ []) []) (named_in es)
      one true = refl
      one false = refl

      go : (k : ℕ) (t : Bool) → eqb k 0 ≡ t
          → named_in (cond (eqb k 0) (record { number = suc (length ms); message = r } ∷ es) es) ≡ reverse_aux (names_done ed m k) (named_in es)
      go k true e = rw e (one (names_in r))
      go k false e = rw e

-- ---- live exactly

-- a T or a C among the messages made the line, live if neither later ones nor `cut` named it
record Made (cut : List (List ℕ)) (es : List Taken) (l : Line) : Type 0 where
  pub later : List Taken
  pub maker : Taken
  pub earlier : List Taken
  pub whole : es ≡ later ++ (maker ∷ earlier)
  pub makes : makes_in maker.message ≡ true
  pub line : l ≡ trade maker (origin_of (maker ∷ earlier) (key_in maker.message)) (named_in later ++ cut)

-- only whether its key was named counts
trade_by_lem : (e : Taken) (o : Origin) (c d : List (List ℕ)) → is_in (key_in e.message) c ≡ is_in (key_in e.message) d
    → trade e o c ≡ trade e o d
trade_by_lem e o c d h = ap (lively e o) h

-- what one message named, before or after what others did
named_turn : (k : List ℕ) (xs ns cut : List (List ℕ)) → is_in k (xs ++ (ns ++ cut)) ≡ is_in k ((ns ++ xs) ++ cut)
named_turn k xs ns cut =
    listed_append k xs (ns ++ cut)
    ∙ ap (λ (t : Bool). is_in k xs || t) (listed_append k ns cut)
    ∙ or_swap (is_in k xs) (is_in k ns) (is_in k cut)
    ∙ ap (λ (t : Bool). is_in k ns || t) (sym (listed_append k xs cut))
    ∙ sym (listed_append k ns (xs ++ cut))
    ∙ ap (is_in k) (sym (append_assoc ns xs cut))

trade_turn : (e : Taken) (o : Origin) (xs ns cut : List (List ℕ)) → trade e o (xs ++ (ns ++ cut)) ≡ trade e o ((ns ++ xs) ++ cut)
trade_turn e o xs ns cut = trade_by_lem e o (xs ++ (ns ++ cut)) ((ns ++ xs) ++ cut) (named_turn (key_in e.message) xs ns cut)

made_of : (cut : List (List ℕ)) (es : List Taken) (l : Line) → Memᴰ l (trades_but cut es) → Made cut es l
unfolding trades_but named_in
made_of cut [] l m = absurd (Memᴰ.not-nil m)
made_of cut (e ∷ es) l m =
    ⊎_elim (λ i. before (made_of (names e.message ++ cut) es l i)) (λ i. here (makes_in e.message) refl i)
    (Memᴰ.append_cases (trades_but (names e.message ++ cut) es) m)
  where
    before : Made (names e.message ++ cut) es l → Made cut (e ∷ es) l
    before h =
        record {
          later = e ∷ h.later;
          maker = h.maker;
          earlier = h.earlier;
          whole = ap {B = List Taken} (λ x. e ∷ x) h.whole;
          makes = h.makes;
          line =
              h.line ∙ trade_turn h.maker (origin_of (h.maker ∷ h.earlier) (key_in h.maker.message)) (named_in h.later)
              (names e.message) cut;
        }

    here : (t : Bool) → makes_in e.message ≡ t
        → Memᴰ l (cond t (trade e (origin_of (e ∷ es) (key_in e.message)) cut ∷ []) []) → Made cut (e ∷ es) l
    here true t i = record { later = []; maker = e; earlier = es; whole = refl; makes = t; line = Memᴰ.eq_of_singleton i }
    here false t i = absurd (Memᴰ.not-nil i)

made_in : (cut : List (List ℕ)) (later : List Taken) (e : Taken) (es : List Taken) → makes_in e.message ≡ true
    → Memᴰ (trade e (origin_of (e ∷ es) (key_in e.message)) (named_in later ++ cut)) (trades_but cut (later ++ (e ∷ es)))
unfolding trades_but named_in
made_in cut [] e es h = Memᴰ.append_right (trades_but (names e.message ++ cut) es) (rw h (Memᴰ.head refl))
made_in cut (d ∷ later) e es h =
    let i = made_in (names d.message ++ cut) later e es h in
    let q = trade_turn e (origin_of (e ∷ es) (key_in e.message)) (named_in later) (names d.message) cut in
    Memᴰ.append_left _ (subst (λ (l : Line). Memᴰ l (trades_but (names d.message ++ cut) (later ++ (e ∷ es)))) q i)

-- of any list of taken messages
live_of : (es : List Taken) (l : Line) → (Memᴰ l (trades_of es) × (l.live ≡ true)) ↔ MadeLive es l
live_of es l = (λ h. there h, λ h. back h)
  where
    there : Memᴰ l (trades_of es) × (l.live ≡ true) → MadeLive es l
    there h =
        let g = made_of [] es l h.0 in
        let k = key_in g.maker.message in
        let u : is_in k (named_in g.later ++ []) ≡ false
        = not-true (is_in k (named_in g.later ++ [])) (ap (λ (x : Line). x.live) (sym g.line) ∙ h.1) in
        record {
          later = g.later;
          maker = g.maker;
          earlier = g.earlier;
          whole = g.whole;
          makes = g.makes;
          line = g.line ∙ trade_by_lem g.maker (origin_of (g.maker ∷ g.earlier) k) (named_in g.later ++ []) [] u;
          unnamed = ap (is_in k) (sym (append-nil (named_in g.later))) ∙ u;
        }

    back : MadeLive es l → Memᴰ l (trades_of es) × (l.live ≡ true)
    back h =
        let i = made_in [] h.later h.maker h.earlier h.makes in
        let u : is_in (key_in h.maker.message) (named_in h.later ++ []) ≡ false
        = ap (is_in (key_in h.maker.message)) (append-nil (named_in h.later)) ∙ h.unnamed in
        let q
        = trade_by_lem h.maker (origin_of (h.maker ∷ h.earlier) (key_in h.maker.message)) (named_in h.later ++ []) [] u
        ∙ sym h.line in (
          subst (λ (x : List Taken). Memᴰ l (trades_of x)) (sym h.whole)
              (subst (λ (x : Line). Memᴰ x (trades_of (h.later ++ (h.maker ∷ h.earlier)))) q i),
          ap (λ (x : Line). x.live) h.line,
        )

-- his live lines are exactly those that some taken message made and no taken message named since
pub live_exactly : (ed : Edition) (sheet : List Listing) (limit : ℕ) (ms : List (List ℕ)) (l : Line)
    → (Memᴰ l (clerk_book ed sheet limit ms).lines × (l.live ≡ true)) ↔ MadeLive (taken_of ed sheet limit ms) l
unfolding clerk_book book_by
live_exactly ed sheet limit ms l = live_of (taken_of ed sheet limit ms) l

-- ---- the figures

-- what the clerk shows of a listed symbol are the figures that his live trades of the symbol mean
pub clerk_figures : (ed : Edition) (es : List Taken) (l : Listing)
    → (f : Figures) × Are l.symbol (trades_of es) f × (shown_by ed es l ≡ shown_of (row_of ed es l) f)
unfolding shown_by
clerk_figures ed es l = (figures_of l.symbol (trades_of es), figures_are l.symbol (trades_of es), refl)

-- and no other figures
pub clerk_figures_one : (ed : Edition) (es : List Taken) (l : Listing) (f : Figures) → Are l.symbol (trades_of es) f
    → shown_by ed es l ≡ shown_of (row_of ed es l) f
unfolding shown_by
clerk_figures_one ed es l f a = ap (shown_of (row_of ed es l)) (figures_one (figures_are l.symbol (trades_of es)) a)

-- in an edition whose messages do not report, no row that he shows has a reported volume, and none agrees
pub never_reported : (ed : Edition) (es : List Taken) (l : Listing) → reports ed ≡ false
    → ((shown_by ed es l).reported ≡ None) × ((shown_by ed es l).agrees ≡ false)
unfolding shown_by row_of summary_of reported_of shown_of
never_reported ed es l none = (rw none, rw none)
