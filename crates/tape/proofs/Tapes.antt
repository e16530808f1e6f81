-- Each run of bytes is entries and a rest in exactly one way, and the play of it is what the entries do, in order.
-- Assumes nothing.
use Rattle.std.specs.Prelude.{Err, Ok, Result, ℕ}
use mathlib.Core.Path.{◌≡◌, refl, ap, sym, subst, ◌∙◌}
use mathlib.Core.Bool.{Bool, true, false}
use mathlib.Core.List.{List, [], ◌∷◌, ◌++◌, append-nil, append_assoc}
use Prim.Native.Nat.{ℕ, zero, suc, ◌+◌, ◌≤◌, ◌<◌, ◌^◌}
use native.Mathlib.Omega.{arith}
use borrow.Author.Tests.{eqb-true, eqb-false, ne_eqb}
use lib.Dec.{eqb, leb, lit<}
use lib.ListN.{length, take, drop, length-append, length-drop, take-append-drop}
use lib.Seq.{get_or-drop, get_or-append-add, take-append_seam, drop-append_seam, length-take-le}
use Rattle.octets.specs.Run.{part, Bytes}
use Rattle.kinds.specs.Kinds.{kind_of}
use Rattle.numbers.specs.Number.{be, digits}
use Rattle.octets.proofs.Laws.{part_length}
use Rattle.numbers.proofs.Laws.{be_below, digits_length}
use Rattle.numbers.proofs.Trips.{be_digits, digits_part}
use Rattle.octets.proofs.Trips.{join, walk, here, last}
use Rattle.tape.specs.Entries.{message_length, body_length, Entry, Lists, Delivers, entry_bytes, EntryFits, head_of, listing_in, delivery}
use Rattle.tape.specs.Entries.{entry_of, EntriesFit, tape_of, Tape, end_of}
use Rattle.book.specs.State.{State, arrives}
use Rattle.tape.specs.Playing.{acted, acted_all, further, played}
use Rattle.tape.specs.declared.Stop.{Stop}
use Rattle.tape.specs.declared.Stop.TheVariants.{Ended, NoKind, CutShort}
use Rattle.tape.proofs.Heads.{never, entry_stands, stands}
use Rattle.tape.proofs.Plays.{shorter, play_stops, play_whole}

-- ---- a kind of message is no listing

module _ (k : ℕ) (some : 0 < message_length k) where
  pub not_listing : k ≡ 76 → ⊥
  unfolding kind_of
  not_listing e = let z : 0 < message_length 76 = rw e at some in omega arith

  pub message_body : body_length k ≡ 4 + message_length k
  unfolding body_length
  message_body =
      let z : message_length k ≡ 0 → ⊥ = λ e. omega arith in
      rw (ne_eqb k 76 not_listing, ne_eqb (message_length k) 0 z)

-- ---- an entry, from its bytes

module _ (symbol : List ℕ) (close : ℕ) (long : length symbol ≡ 8) (small : close < 256 ^ 4) where
  abbrev listing_bytes : List ℕ
  listing_bytes = 76 ∷ symbol ++ digits 4 close

  listing_there : entry_of listing_bytes ≡ Lists (record { symbol = symbol; close = close })
  unfolding entry_of
  listing_there =
      let d : drop 9 listing_bytes ≡ digits 4 close = walk listing_bytes 1 8 9 symbol (digits 4 close) refl long refl in
      let p : part listing_bytes 1 8 ≡ symbol = here listing_bytes 1 8 symbol (digits 4 close) refl long in
      let q : part listing_bytes 9 4 ≡ digits 4 close = last listing_bytes 9 4 (digits 4 close) d (digits_length 4 close) in
      rw (p, q, be_digits 4 close small)

  listing_length : length listing_bytes ≡ 13
  listing_length = omega (arith, length-append symbol (digits 4 close), digits_length 4 close)

  listing_head : (more : List ℕ) → head_of (listing_bytes ++ more) ≡ Ok 13
  unfolding body_length
  listing_head more =
      let l : 12 ≤ length ((symbol ++ digits 4 close) ++ more)
      = omega (arith, length-append (symbol ++ digits 4 close) more, listing_length) in
      stands 76 ((symbol ++ digits 4 close) ++ more) (λ z. omega arith) l

module _ (k number : ℕ) (m : List ℕ) (long : length m ≡ message_length k) (some : 0 < message_length k) (small : number < 256 ^ 4) where
  abbrev message_bytes : List ℕ
  message_bytes = k ∷ digits 4 number ++ m

  message_there : entry_of message_bytes ≡ Delivers k (arrives number m)
  unfolding entry_of
  message_there =
      let d : drop 5 message_bytes ≡ m = walk message_bytes 1 4 5 (digits 4 number) m refl (digits_length 4 number) refl in
      let p : part message_bytes 1 4 ≡ digits 4 number = here message_bytes 1 4 (digits 4 number) m refl (digits_length 4 number) in
      rw (ne_eqb k 76 (not_listing k some), p, d, be_digits 4 number small)

  message_long : length message_bytes ≡ suc (body_length k)
  message_long = omega (arith, length-append (digits 4 number) m, digits_length 4 number, message_body k some)

  message_head : (more : List ℕ) → head_of (message_bytes ++ more) ≡ Ok (length message_bytes)
  message_head more =
      let b = message_body k some in
      let l : body_length k ≤ length ((digits 4 number ++ m) ++ more)
      = omega (arith, length-append (digits 4 number ++ m) more, message_long) in
      stands k ((digits 4 number ++ m) ++ more) (λ z. omega arith) l ∙ ap Ok (sym message_long)

-- the bytes of an entry say which entry it is
pub entry_again : (e : Entry) → EntryFits e → entry_of (entry_bytes e) ≡ e
unfolding entry_bytes
entry_again (Lists l) z = listing_there l.symbol l.close z.0 z.1
entry_again (Delivers k a) z = message_there k a.number a.message z.0 z.1 z.2

-- and it stands at the head of its bytes, whatever follows
pub entry_head : (e : Entry) (more : List ℕ) → EntryFits e → head_of (entry_bytes e ++ more) ≡ Ok (length (entry_bytes e))
unfolding entry_bytes
entry_head (Lists l) more z =
    listing_head l.symbol l.close z.0 z.1 more ∙ ap Ok (sym (listing_length l.symbol l.close z.0 z.1))
entry_head (Delivers k a) more z = message_head k a.number a.message z.0 z.1 z.2 more

-- ---- and its bytes, from an entry that stands

bytes_drop : (b : List ℕ) (n : ℕ) → Bytes b → Bytes (drop n b)
bytes_drop b n h i = rw get_or-drop (h (n + i))

pub bytes_behind : (a b : List ℕ) → Bytes (a ++ b) → Bytes b
bytes_behind a b h i = rw get_or-append-add at (h (length a + i))

pub bytes_take : (b : List ℕ) (n : ℕ) → Bytes b → Bytes (take n b)
bytes_take [] zero h i = h i
bytes_take [] (suc n) h i = h i
bytes_take (x ∷ b) zero h i = lit< tt
bytes_take (x ∷ b) (suc n) h zero = h zero
bytes_take (x ∷ b) (suc n) h (suc i) = bytes_take b n (λ j. h (suc j)) i

-- what is known of the bytes of an entry
module _ (k : ℕ) (body : List ℕ) (known : body_length k ≡ 0 → ⊥) (long : length body ≡ body_length k) (h : Bytes (k ∷ body)) where
  abbrev all : List ℕ
  all = k ∷ body

  -- a listing
  listing_back : k ≡ 76 → (entry_bytes (Lists (listing_in all)) ≡ all) × EntryFits (Lists (listing_in all))
  unfolding entry_bytes body_length
  listing_back e =
      let l : length body ≡ 12 = long ∙ rw e in
      let d : digits 4 (be (part all 9 4)) ≡ part all 9 4 = digits_part all 9 4 h in
      let j : part all 1 8 ++ part all 9 4 ≡ part all 1 12 = join all 1 8 4 9 refl in
      let b : part all 1 12 ≡ body = last all 1 12 body refl l in
      let f : part all 1 8 ++ digits 4 (be (part all 9 4)) ≡ body = ap (λ (x : List ℕ). part all 1 8 ++ x) d ∙ j ∙ b in
      (rw (f, e), (part_length all 1 8, be_below all 9 4 h))

  some_message : (k ≡ 76 → ⊥) → 0 < message_length k
  unfolding body_length
  some_message e = go (eqb (message_length k) 0) refl
    where
      go : (t : Bool) → eqb (message_length k) 0 ≡ t → 0 < message_length k
      go true t = absurd (known (rw (ne_eqb k 76 e, t)))
      go false t = let z = eqb-false (message_length k) 0 t in omega arith

  message_back : (k ≡ 76 → ⊥) → (entry_bytes (delivery all) ≡ all) × EntryFits (delivery all)
  unfolding entry_bytes
  message_back e =
      let s = some_message e in
      let b : body_length k ≡ 4 + message_length k = message_body k s in
      let r : length (drop 5 all) ≡ message_length k = omega (arith, length-drop 5 all) in
      let d : digits 4 (be (part all 1 4)) ≡ part all 1 4 = digits_part all 1 4 h in
      let t : part all 5 (message_length k) ≡ drop 5 all = last all 5 (message_length k) (drop 5 all) refl r in
      let j : part all 1 4 ++ part all 5 (message_length k) ≡ part all 1 (4 + message_length k) = join all 1 4 (message_length k) 5 refl in
      let w : part all 1 (4 + message_length k) ≡ body = last all 1 (4 + message_length k) body refl (long ∙ b) in
      let f : digits 4 (be (part all 1 4)) ++ drop 5 all ≡ body
      = ap (λ (x : List ℕ). x ++ drop 5 all) d ∙ ap (λ (x : List ℕ). part all 1 4 ++ x) (sym t) ∙ j ∙ w in
      (ap (λ (x : List ℕ). k ∷ x) f, (r, s, be_below all 1 4 h))

  pub entry_back : (entry_bytes (entry_of all) ≡ all) × EntryFits (entry_of all)
  unfolding entry_of
  entry_back = go (eqb k 76) refl
    where
      go : (t : Bool) → eqb k 76 ≡ t → (entry_bytes (entry_of all) ≡ all) × EntryFits (entry_of all)
      go true t = rw t (listing_back (eqb-true k 76 t))
      go false t = rw t (message_back (eqb-false k 76 t))

-- an entry that stands at the head of bytes: those bytes are its, and it has its size
pub entry_found : (b : List ℕ) (n : ℕ) → Bytes b → head_of b ≡ Ok n
    → (entry_bytes (entry_of (take n b)) ≡ take n b) × EntryFits (entry_of (take n b))
entry_found b n h e =
    let w = entry_stands b n e in
    let t : take n b ≡ w.kind ∷ take (body_length w.kind) w.after
    = ap (λ (x : List ℕ). take n x) w.bytes ∙ ap (λ (x : ℕ). take x (w.kind ∷ w.after)) w.size in
    let l : length (take (body_length w.kind) w.after) ≡ body_length w.kind
    = length-take-le (body_length w.kind) w.after w.fits in
    rw t (entry_back w.kind (take (body_length w.kind) w.after) w.known l (rw t at (bytes_take b n h)))

-- ---- entries and a rest

-- where a play would stop no entry stands
stops_ends : (b : List ℕ) (w : Stop) → head_of b ≡ Err w → (e : Entry) (more : List ℕ) → EntryFits e → b ≡ entry_bytes e ++ more → ⊥
stops_ends b w h e more z f = never (sym h ∙ ap head_of f ∙ entry_head e more z)

-- bytes with an entry before them
tape_more : {b : List ℕ} {es : List Entry} {rest : List ℕ} (e : Entry) → EntryFits e → Tape b es rest
    → Tape (entry_bytes e ++ b) (e ∷ es) rest
tape_more {b} {es} {rest} e z t =
    record {
      bytes = ap (λ (x : List ℕ). entry_bytes e ++ x) t.bytes ∙ sym (append_assoc (entry_bytes e) (tape_of es) rest);
      each = (z, t.each);
      ends = t.ends;
    }

-- entries and a rest that the bytes are
pub record Cut (b : List ℕ) : Type 0 where
  pub entries : List Entry
  pub rest : List ℕ
  pub whole : Tape b entries rest

cut_here : (b : List ℕ) (w : Stop) → head_of b ≡ Err w → Cut b
cut_here b w e = record { entries = []; rest = b; whole = record { bytes = refl; each = tt; ends = stops_ends b w e } }

cut_later : (b : List ℕ) (n : ℕ) → Bytes b → head_of b ≡ Ok n → Cut (drop n b) → Cut b
cut_later b n h e r =
    let f = entry_found b n h e in
    let g : entry_bytes (entry_of (take n b)) ++ drop n b ≡ b = ap (λ (x : List ℕ). x ++ drop n b) f.0 ∙ take-append-drop n b in
    record {
      entries = entry_of (take n b) ∷ r.entries;
      rest = r.rest;
      whole = rw g at (tape_more (entry_of (take n b)) f.1 r.whole);
    }

cut_for : (k : ℕ) (b : List ℕ) → length b ≤ k → Bytes b → Cut b
unfolding head_of
cut_for zero [] l h = cut_here [] Ended refl
cut_for zero (x ∷ b) l h = absurd (omega arith)
cut_for (suc k) b l h = go (head_of b) refl (λ n e. cut_for k (drop n b) (shorter b n k e l) (bytes_drop b n h))
  where
    go : (x : Result ℕ Stop) → head_of b ≡ x → ((n : ℕ) → head_of b ≡ Ok n → Cut (drop n b)) → Cut b
    go (Err w) e r = cut_here b w e
    go (Ok n) e r = cut_later b n h e (r n e)

-- there is a way
pub split : (b : List ℕ) → Bytes b → Cut b
split b h = cut_for (length b) b (omega arith) h

-- two entries at the head of the same bytes are one, and the same bytes follow
same_entry : (e e' : Entry) (more more' : List ℕ) → EntryFits e → EntryFits e' → entry_bytes e ++ more ≡ entry_bytes e' ++ more'
    → (e ≡ e') × (more ≡ more')
same_entry e e' more more' z z' f =
    let h : Ok (length (entry_bytes e)) ≡ Ok (length (entry_bytes e'))
    = sym (entry_head e more z) ∙ ap head_of f ∙ entry_head e' more' z' in
    let n : length (entry_bytes e) ≡ length (entry_bytes e') = cc in
    let t : take (length (entry_bytes e)) (entry_bytes e ++ more) ≡ take (length (entry_bytes e')) (entry_bytes e' ++ more')
    = ap (λ (x : List ℕ). take (length (entry_bytes e)) x) f ∙ ap (λ (x : ℕ). take x (entry_bytes e' ++ more')) n in
    let d : drop (length (entry_bytes e)) (entry_bytes e ++ more) ≡ drop (length (entry_bytes e')) (entry_bytes e' ++ more')
    = ap (λ (x : List ℕ). drop (length (entry_bytes e)) x) f ∙ ap (λ (x : ℕ). drop x (entry_bytes e' ++ more')) n in
    let b : entry_bytes e ≡ entry_bytes e' = sym (take-append_seam (entry_bytes e) more) ∙ t ∙ take-append_seam (entry_bytes e') more' in (
      sym (entry_again e z) ∙ ap entry_of b ∙ entry_again e' z',
      sym (drop-append_seam (entry_bytes e) more) ∙ d
          ∙ drop-append_seam (entry_bytes e') more',
    )

cons_same : {e e' : Entry} {es es' : List Entry} → e ≡ e' → es ≡ es' → e ∷ es ≡ e' ∷ es'
cons_same p q = cc

-- there is one way only
one_for : (es es' : List Entry) (rest rest' : List ℕ) → EntriesFit es → EntriesFit es'
    → ((e : Entry) (more : List ℕ) → EntryFits e → rest ≡ entry_bytes e ++ more → ⊥)
    → ((e : Entry) (more : List ℕ) → EntryFits e → rest' ≡ entry_bytes e ++ more → ⊥)
    → tape_of es ++ rest ≡ tape_of es' ++ rest' → (es ≡ es') × (rest ≡ rest')
one_for [] [] rest rest' z z' n n' f = (refl, f)
one_for [] (e ∷ es) rest rest' z z' n n' f = absurd (n e (tape_of es ++ rest') z'.0 (f ∙ append_assoc (entry_bytes e) (tape_of es) rest'))
one_for (e ∷ es) [] rest rest' z z' n n' f = absurd (n' e (tape_of es ++ rest) z.0 (sym f ∙ append_assoc (entry_bytes e) (tape_of es) rest))
one_for (e ∷ es) (e' ∷ es') rest rest' z z' n n' f =
    let g : entry_bytes e ++ (tape_of es ++ rest) ≡ entry_bytes e' ++ (tape_of es' ++ rest')
    = sym (append_assoc (entry_bytes e) (tape_of es) rest) ∙ f ∙ append_assoc (entry_bytes e') (tape_of es') rest' in
    let s = same_entry e e' (tape_of es ++ rest) (tape_of es' ++ rest') z.0 z'.0 g in
    let r = one_for es es' rest rest' z.1 z'.1 n n' s.1 in
    (cons_same s.0 r.0, r.1)

pub split_one : {b : List ℕ} {es es' : List Entry} {rest rest' : List ℕ} → Tape b es rest → Tape b es' rest' → (es ≡ es') × (rest ≡ rest')
split_one {b} {es} {es'} {rest} {rest'} t t' =
    one_for es es' rest rest' t.each t'.each t.ends t'.ends (sym t.bytes ∙ t'.bytes)

-- bytes are entries and a rest in one way, and in no other
pub record Exactly (b : List ℕ) : Type 0 where
  pub cut : Cut b
  pub only : (es : List Entry) (rest : List ℕ) → Tape b es rest → (es ≡ cut.entries) × (rest ≡ cut.rest)

pub split_is : (b : List ℕ) → Bytes b → Exactly b
split_is b h = record { cut = split b h; only = λ es rest t. split_one t (split b h).whole }

-- ---- the play of a tape

-- where no entry stands, what stands says why
end_is : (b : List ℕ) (w : Stop) → head_of b ≡ Err w → w ≡ end_of b
unfolding head_of
end_is [] w e = cc
end_is (k ∷ s) w e = go (eqb (body_length k) 0) refl (leb (body_length k) (length s)) refl
  where
    go : (t : Bool) → eqb (body_length k) 0 ≡ t → (u : Bool) → leb (body_length k) (length s) ≡ u → w ≡ end_of (k ∷ s)
    go true t u v = let f : Err NoKind ≡ Err w = rw t at e in let g : w ≡ NoKind = cc in rw t g
    go false t true v = absurd (never (sym (rw (t, v) at e)))
    go false t false v = let f : Err CutShort ≡ Err w = rw (t, v) at e in let g : w ≡ CutShort = cc in rw t g

ends_stops : (b : List ℕ) → Bytes b
    → ((e : Entry) (more : List ℕ) → EntryFits e → b ≡ entry_bytes e ++ more → ⊥) → head_of b ≡ Err (end_of b)
ends_stops b h n = go (head_of b) refl
  where
    go : (x : Result ℕ Stop) → head_of b ≡ x → head_of b ≡ Err (end_of b)
    go (Err w) e = e ∙ ap Err (end_is b w e)
    go (Ok k) e =
        let f = entry_found b k h e in
        absurd (n (entry_of (take k b)) (drop k b) f.1 (sym (ap (λ (x : List ℕ). x ++ drop k b) f.0 ∙ take-append-drop k b)))

-- an entry, and then what follows
pub play_entry_lem : (s : State) (e : Entry) (more : List ℕ) → EntryFits e
    → played s (entry_bytes e ++ more) ≡ further (length (entry_bytes e)) (played (acted s e) more)
play_entry_lem s e more z =
    play_whole s (entry_bytes e ++ more) (length (entry_bytes e)) (entry_head e more z)
    ∙ rw (take-append_seam (entry_bytes e) more, drop-append_seam (entry_bytes e) more, entry_again e z)

play_entries : (s : State) (es : List Entry) (rest : List ℕ) → EntriesFit es → head_of rest ≡ Err (end_of rest)
    → played s (tape_of es ++ rest) ≡ record { state = acted_all s es; used = length (tape_of es); stop = end_of rest }
unfolding acted_all
play_entries s [] rest z h = play_stops s rest (end_of rest) h
play_entries s (e ∷ es) rest z h =
    ap (played s) (append_assoc (entry_bytes e) (tape_of es) rest)
    ∙ play_entry_lem s e (tape_of es ++ rest) z.0
    ∙ ap (further (length (entry_bytes e))) (play_entries (acted s e) es rest z.1 h)
    ∙ rw (length-append (entry_bytes e) (tape_of es))

-- the entries' effects in order; the entries' bytes used; and the rest says why it stopped
pub play_split : (s : State) (b : List ℕ) (es : List Entry) (rest : List ℕ) → Bytes b → Tape b es rest
    → played s b ≡ record { state = acted_all s es; used = length (tape_of es); stop = end_of rest }
play_split s b es rest h t =
    let g : Bytes (tape_of es ++ rest) = λ i. rw t.bytes at (h i) in
    ap (played s) t.bytes ∙ play_entries s es rest t.each (ends_stops rest (bytes_behind (tape_of es) rest g) t.ends)

-- entries, and behind them something at whose head no entry stands
pub cut_tape : (es : List Entry) (rest : List ℕ) (w : Stop) → EntriesFit es → head_of rest ≡ Err w → Tape (tape_of es ++ rest) es rest
cut_tape es rest w f h =
    record { bytes = refl; each = f; ends = λ e more z q. never (sym h ∙ ap head_of q ∙ entry_head e more z) }

-- entries and nothing behind them
pub whole_tape : (es : List Entry) → EntriesFit es → Tape (tape_of es) es []
unfolding head_of
whole_tape es f = subst (λ (b : List ℕ). Tape b es []) (append-nil (tape_of es)) (cut_tape es [] Ended f refl)
