-- The book after any used messages, on any sheet without a symbol twice, is the one that the clerk works out.
-- Assumes nothing.
use Rattle.std.specs.Prelude.{None, Option, Some, ℕ}
use Prim.Native.Nat.{ℕ, suc, ◌+◌}
use mathlib.Core.Path.{◌≡◌, refl, sym, ap, ap₂, subst, ◌∙◌}
use mathlib.Core.Bool.{Bool, true, false, cond, not, ◌&&◌, ◌||◌, true≢false}
use mathlib.Core.List.{List, [], ◌∷◌, ◌++◌, map, map-append, append-nil}
use native.Mathlib.Numerals.{add-one}
use native.Mathlib.Omega.{arith}
use borrow.Author.Tests.{eqb-true}
use lib.Dec.{eqb}
use lib.ListN.{length, length-map, length-append}
use Rattle.octets.specs.Run.{same}
use Rattle.octets.proofs.Trips.{same_is}
use Rattle.editions.specs.declared.Edition.{Edition}
use Rattle.editions.specs.Editions.{reports}
use Rattle.records.specs.declared.Record.{Record}
use Rattle.lines.specs.declared.Line.{Line}
use Rattle.rows.specs.declared.Row.{Row}
use Rattle.cells.specs.Search.{first}
use Rattle.lines.specs.Lines.{line_with}
use Rattle.rows.specs.Rows.{is_of, sheet_in, listing_of}
use Rattle.lines.specs.Changed.{dead}
use Rattle.rows.specs.Changed.{listed_row}
use Rattle.rows.specs.declared.Listing.{Listing}
use Rattle.kinds.proofs.Laws.{summary_sets}
use Rattle.phases.specs.Phases.{phase_of}
use Rattle.keys.specs.Keys.{kind_in, old_key}
use Rattle.clerk.specs.Messages.{event_in, summary_in, sets_in, names_in, makes_in, key_in, sale_in}
use Rattle.answers.specs.Cases.{given}
use Rattle.table.specs.Table.{searched, content_table}
use Rattle.book.specs.Calls.{list_table}
use Rattle.take.specs.Taking.{made_line, corrected_line}
use Rattle.clerk.specs.Steps.{Book, line_found, kill_found, lines_for, keeping, summing, change_found, rows_for}
use Rattle.clerk.specs.Steps.{taken_into, using_up, content, wanted_done}
use Rattle.clerk.specs.Clerk.{is_in, symbols_in, sheet_from, Taken, phase_after, Origin, origin_of, names, trade, made, trades_but}
use Rattle.clerk.specs.Clerk.{trades_of, basis_after, clerk_reading, answer_to, taken_of, summary_of, reported_of, row_of, book_by, clerk_book}
use Rattle.clerk.specs.Arrivals.{play}
use Rattle.clerk.specs.Claims.{NoRepeat, keys_of}
use Rattle.clerk.proofs.Passing.{Passed, passed, listable}
use Rattle.clerk.proofs.Lines.{or_false_left, or_false_right, or_swap, same_refl, same_comm, listed_append, no_repeat_snoc}
use Rattle.clerk.proofs.Lines.{no_repeat_left, no_repeat_last, up, first_hit, first_miss, borne_is, listed_is_in, named, named_hit}
use Rattle.clerk.proofs.Lines.{named_miss, named_none, named_append, kill, kill_found_lem}

-- ---- the keys of the trades

-- the key that a T or a C brings
abbrev pub brings : Record → List (List ℕ)
brings r = cond (makes_in r) (key_in r ∷ []) []

made_keys : (e : Taken) (es : List Taken) (later : List (List ℕ)) → keys_of (made e es later) ≡ brings e.message
made_keys e es later = go (makes_in e.message)
  where
    go : (t : Bool) → keys_of (cond t (trade e (origin_of (e ∷ es) (key_in e.message)) later ∷ []) []) ≡ cond t (key_in e.message ∷ []) []
    go true = refl
    go false = refl

-- which keys there are does not go by what was named later
pub keys_cut : (later least : List (List ℕ)) (es : List Taken) → keys_of (trades_but later es) ≡ keys_of (trades_but least es)
unfolding trades_but
keys_cut later least [] = refl
keys_cut later least (e ∷ es) =
    map-append (λ (l : Line). l.key) (trades_but (names e.message ++ later) es) (made e es later)
    ∙ ap₂ {C = List (List ℕ)} (λ a b. a ++ b) (keys_cut (names e.message ++ later) (names e.message ++ least) es)
    (made_keys e es later ∙ sym (made_keys e es least))
    ∙ sym (map-append (λ (l : Line). l.key) (trades_but (names e.message ++ least) es) (made e es least))

pub keys_more : (later : List (List ℕ)) (e : Taken) (es : List Taken)
    → keys_of (trades_but later (e ∷ es)) ≡ keys_of (trades_of es) ++ brings e.message
unfolding trades_but
keys_more later e es =
    map-append (λ (l : Line). l.key) (trades_but (names e.message ++ later) es) (made e es later)
    ∙ ap₂ {C = List (List ℕ)} (λ a b. a ++ b) (keys_cut (names e.message ++ later) [] es) (made_keys e es later)

-- ---- one more key named later: that key's trade is dead

-- a trade, live or not
abbrev pub lively : Taken → Origin → Bool → Line
lively e o b =
    record {
      key = key_in e.message;
      symbol = e.message.symbol;
      price = (sale_in e.message).price;
      size = (sale_in e.message).size;
      condition = (sale_in e.message).condition;
      place = o.place;
      time = o.time;
      live = not b;
    }

trade_kill : (key : List ℕ) (e : Taken) (o : Origin) (c d : List (List ℕ))
    → is_in (key_in e.message) d ≡ (same key (key_in e.message) || is_in (key_in e.message) c)
    → trade e o d ≡ kill key (trade e o c)
unfolding kill
trade_kill key e o c d h =
    ap (lively e o) (h ∙ ap (λ (t : Bool). t || there) (same_comm key (key_in e.message))) ∙ go (same (key_in e.message) key)
  where
    there : Bool
    there = is_in (key_in e.message) c

    go : (t : Bool) → lively e o (t || there) ≡ cond t (dead (lively e o there)) (lively e o there)
    go true = refl
    go false = refl

made_kill : (key : List ℕ) (e : Taken) (es : List Taken) (c d : List (List ℕ))
    → ((x : List ℕ) → is_in x d ≡ (same key x || is_in x c)) → made e es d ≡ map (kill key) (made e es c)
made_kill key e es c d h = go (makes_in e.message)
  where
    o : Origin
    o = origin_of (e ∷ es) (key_in e.message)

    go : (t : Bool) → cond t (trade e o d ∷ []) [] ≡ map (kill key) (cond t (trade e o c ∷ []) [])
    go true = ap {B = List Line} (λ l. l ∷ []) (trade_kill key e o c d (h (key_in e.message)))
    go false = refl

cut_more : (key : List ℕ) (c d : List (List ℕ)) (es : List Taken) → ((x : List ℕ) → is_in x d ≡ (same key x || is_in x c))
    → trades_but d es ≡ map (kill key) (trades_but c es)
unfolding trades_but
cut_more key c d [] h = refl
cut_more key c d (e ∷ es) h =
    ap₂ {C = List Line} (λ a b. a ++ b) (cut_more key (names e.message ++ c) (names e.message ++ d) es more)
    (made_kill key e es c d h)
    ∙ sym (map-append (kill key) (trades_but (names e.message ++ c) es) (made e es c))
  where
    more : (x : List ℕ) → is_in x (names e.message ++ d) ≡ (same key x || is_in x (names e.message ++ c))
    more x =
        let ns = names e.message in
        listed_append x ns d
        ∙ ap (λ (t : Bool). is_in x ns || t) (h x)
        ∙ or_swap (is_in x ns) (same key x) (is_in x c)
        ∙ ap (λ (t : Bool). same key x || t) (sym (listed_append x ns c))

-- an X or a C of a key: what the clerk works out anew is what the book does to its lines
cut_first : (key : List ℕ) (es : List Taken) → NoRepeat (keys_of (trades_of es))
    → trades_but (key ∷ []) es ≡ kill_found (trades_of es) (line_with key (trades_of es))
cut_first key es u = cut_more key [] (key ∷ []) es (λ x. refl) ∙ sym (kill_found_lem key (trades_of es) u)

-- ---- the place and time that the clerk works out are those of the line that bears the key

abbrev origin_in : Line → Origin
origin_in l = record { place = l.place; time = l.time }

origin_none : (e : Taken) (es : List Taken) (key : List ℕ) → (makes_in e.message && same (key_in e.message) key) ≡ false
    → origin_of (e ∷ es) key ≡ origin_of es key
unfolding origin_of
origin_none e es key h = rw h

-- what a taken message makes, by its test
made_is : (e : Taken) (es : List Taken) (later : List (List ℕ)) (t : Bool) → makes_in e.message ≡ t
    → made e es later ≡ cond t (trade e (origin_of (e ∷ es) (key_in e.message)) later ∷ []) []
made_is e es later t h =
    ap (λ (x : Bool). cond {A = List Line} x (trade e (origin_of (e ∷ es) (key_in e.message)) later ∷ []) []) h

-- the same line, found among one more line
origin_step : (key : List ℕ) (e : Taken) (es : List Taken) (later : List (List ℕ)) (A : List Line)
    → NoRepeat (keys_of (A ++ made e es later))
    → origin_in (named key A) ≡ origin_of es key → origin_in (named key (A ++ made e es later)) ≡ origin_of (e ∷ es) key
origin_step key e es later A u i = go (makes_in e.message) refl (same (key_in e.message) key) refl
  where
    l : Line
    l = trade e (origin_of (e ∷ es) (key_in e.message)) later

    -- the new line bears the key
    hit : NoRepeat (keys_of (A ++ (l ∷ []))) → same l.key key ≡ true → origin_in (named key (A ++ (l ∷ []))) ≡ origin_of (e ∷ es) key
    hit v s =
        let q : l.key ≡ key = (same_is l.key key).0 s in
        let f : is_in l.key (keys_of A) ≡ false
        = no_repeat_last (keys_of A) l.key (rw (map-append (λ (x : Line). x.key) A (l ∷ [])) at v) in
        let g : is_in key (keys_of A) ≡ false = ap (λ (k : List ℕ). is_in k (keys_of A)) (sym q) ∙ f in
        ap origin_in (named_append key A (l ∷ []) ∙ ap (λ (t : Bool). cond t (named key A) (named key (l ∷ []))) g ∙ named_hit key l [] s)
        ∙ ap (origin_of (e ∷ es)) q

    -- it bears another
    miss : same l.key key ≡ false → named key (A ++ (l ∷ [])) ≡ named key A
    miss s =
        named_append key A (l ∷ []) ∙ ap (cond (is_in key (keys_of A)) (named key A)) (named_miss key l [] s)
        ∙ either (is_in key (keys_of A)) refl
      where
        either : (t : Bool) → is_in key (keys_of A) ≡ t → cond t (named key A) (named key []) ≡ named key A
        either true t = refl
        either false t = named_none key [] refl ∙ sym (named_none key A t)

    in_made : {ls : List Line} → made e es later ≡ ls → origin_in (named key (A ++ ls)) ≡ origin_of (e ∷ es) key
        → origin_in (named key (A ++ made e es later)) ≡ origin_of (e ∷ es) key
    in_made q h = ap (λ (x : List Line). origin_in (named key (A ++ x))) q ∙ h

    go : (t : Bool) → makes_in e.message ≡ t → (s : Bool) → same (key_in e.message) key ≡ s
        → origin_in (named key (A ++ made e es later)) ≡ origin_of (e ∷ es) key
    go true t true s =
        let one = made_is e es later true t in
        in_made one (hit (subst (λ (x : List Line). NoRepeat (keys_of (A ++ x))) one u) s)
    go true t false s =
        let other = origin_none e es key (ap₂ {C = Bool} (λ x y. x && y) t s) in
        in_made (made_is e es later true t) (ap origin_in (miss s) ∙ i ∙ sym other)
    go false t s q =
        let other = origin_none e es key (ap (λ (x : Bool). x && same (key_in e.message) key) t) in
        in_made (made_is e es later false t) (rw append-nil (i ∙ sym other))

origin_is : (key : List ℕ) (later : List (List ℕ)) (es : List Taken) → NoRepeat (keys_of (trades_but later es))
    → origin_in (named key (trades_but later es)) ≡ origin_of es key
unfolding trades_but origin_of
origin_is key later [] u = ap origin_in (named_none key [] refl)
origin_is key later (e ∷ es) u =
    let A = trades_but (names e.message ++ later) es in
    let v : NoRepeat (keys_of A) = no_repeat_left (keys_of A) _ (rw (map-append (λ (x : Line). x.key) A (made e es later)) at u) in
    origin_step key e es later A u (origin_is key (names e.message ++ later) es v)

-- ---- what a taken message does to the lines, the rows and the phase

module _ (n : ℕ) (r : Record) (es : List Taken) where
  abbrev e : Taken
  e = record { number = n; message = r }

  trade_is : names_in r ≡ false → makes_in r ≡ true → trade e (origin_of (e ∷ es) (key_in r)) [] ≡ made_line n r
  unfolding origin_of
  trade_is o m = rw (o, m, same_refl (old_key r))

  correction_is : names_in r ≡ true → makes_in r ≡ true → NoRepeat (keys_of (trades_of es))
      → trade e (origin_of (e ∷ es) (key_in r)) [] ≡ corrected_line (line_found (trades_of es) (line_with (old_key r) (trades_of es))) r
  unfolding origin_of named
  correction_is o m u =
      let p : origin_of es (old_key r) ≡ origin_in (named (old_key r) (trades_of es)) = sym (origin_is (old_key r) [] es u) in
      rw (o, m, same_refl (r.centre ∷ r.new.control), p)

  -- the lines after it, by its two tests
  for : (ls : List Line) (o t : Bool) → names_in r ≡ o → makes_in r ≡ t
      → lines_for (kind_in r) n r ls
      ≡ cond (o && t) (kill_found ls (line_with (old_key r) ls) ++ (corrected_line (line_found ls (line_with (old_key r) ls)) r ∷ []))
      (cond o (kill_found ls (line_with (old_key r) ls)) (cond t (ls ++ (made_line n r ∷ [])) ls))
  unfolding lines_for
  for ls o t h g = rw (h, g)

  lines_step : NoRepeat (keys_of (trades_of es)) → lines_for (kind_in r) n r (trades_of es) ≡ trades_of (e ∷ es)
  unfolding lines_for trades_but
  lines_step u = go (names_in r) refl (makes_in r) refl
    where
      old : List Line
      old = trades_of es

      -- T and C put a line behind the others, X and C kill one
      behind : (l : Line) → names_in r ≡ false → makes_in r ≡ true → trade e (origin_of (e ∷ es) (key_in r)) [] ≡ l
          → old ++ (l ∷ []) ≡ trades_of (e ∷ es)
      behind l o m q = rw (o, m) (ap {B = List Line} (λ x. old ++ (x ∷ [])) (sym (rw o at q)))

      killed : names_in r ≡ true → makes_in r ≡ false → kill_found old (line_with (old_key r) old) ≡ trades_of (e ∷ es)
      killed o m = rw (o, m) (sym (append-nil _ ∙ cut_first (old_key r) es u))

      both : (l : Line) → names_in r ≡ true → makes_in r ≡ true → trade e (origin_of (e ∷ es) (key_in r)) [] ≡ l
          → kill_found old (line_with (old_key r) old) ++ (l ∷ []) ≡ trades_of (e ∷ es)
      both l o m q = rw (o, m) (sym (ap₂ {C = List Line} (λ x y. x ++ (y ∷ [])) (cut_first (old_key r) es u) (rw (o, m) at q)))

      neither : names_in r ≡ false → makes_in r ≡ false → old ≡ trades_of (e ∷ es)
      neither o m = rw (o, m) (sym (append-nil _))

      go : (o : Bool) → names_in r ≡ o → (t : Bool) → makes_in r ≡ t → lines_for (kind_in r) n r old ≡ trades_of (e ∷ es)
      go true o true t = for old true true o t ∙ both _ o t (correction_is o t u)
      go true o false t = for old true false o t ∙ killed o t
      go false o true t = for old false true o t ∙ behind (made_line n r) o t (trade_is o t)
      go false o false t = for old false false o t ∙ neither o t

  lines_count : length (trades_of (e ∷ es)) ≡ cond (makes_in r) (length (trades_of es) + 1) (length (trades_of es))
  lines_count =
      sym (length-map (trades_of (e ∷ es)) (λ (l : Line). l.key))
      ∙ ap length (keys_more [] e es)
      ∙ length-append (keys_of (trades_of es)) (brings r)
      ∙ rw (length-map (trades_of es) (λ (l : Line). l.key)) (go (makes_in r))
    where
      go : (t : Bool)
          → length (trades_of es) + length {A = List ℕ} (cond t (key_in r ∷ []) []) ≡ cond t (length (trades_of es) + 1) (length (trades_of es))
      go true = refl
      go false = omega arith

  phase_step : cond (event_in r) (phase_of r.event) (phase_after es) ≡ phase_after (e ∷ es)
  unfolding phase_after
  phase_step = refl

-- ---- rows

pub sheet_is : (ed : Edition) (es : List Taken) (sheet : List Listing) → sheet_in (map (row_of ed es) sheet) ≡ sheet
unfolding row_of
sheet_is ed es [] = refl
sheet_is ed es (l ∷ sheet) = ap {B = List Listing} (λ x. l ∷ x) (sheet_is ed es sheet)

row_up : (change : Row → Row) (w : Row) (ws : List Row) (f : Option ℕ) → change_found change (w ∷ ws) (up f) ≡ w ∷ change_found change ws f
row_up change w ws None = refl
row_up change w ws (Some i) = refl

-- one row changed, that of the message's symbol: g and h are what the clerk works out for the rows before and after
module _ (r : Record) (change : Row → Row) (g h : Listing → Row)
    (hit : (l : Listing) → same l.symbol r.symbol ≡ true → change (g l) ≡ h l)
    (miss : (l : Listing) → same l.symbol r.symbol ≡ false → g l ≡ h l) where
  others : (sheet : List Listing) → is_in r.symbol (symbols_in sheet) ≡ false → map g sheet ≡ map h sheet
  others [] d = refl
  others (l ∷ sheet) d =
      ap₂ {C = List Row} (λ a b. a ∷ b) (miss l (or_false_left (same l.symbol r.symbol) _ d))
      (others sheet (or_false_right (same l.symbol r.symbol) _ d))

  row_step : (sheet : List Listing) → NoRepeat (symbols_in sheet)
      → change_found change (map g sheet) (listing_of r.symbol sheet) ≡ map h sheet
  unfolding first
  row_step [] d = refl
  row_step (l ∷ sheet) d = go (same l.symbol r.symbol) refl (row_step sheet d.1)
    where
      go : (t : Bool) → same l.symbol r.symbol ≡ t → change_found change (map g sheet) (listing_of r.symbol sheet) ≡ map h sheet
          → change_found change (g l ∷ map g sheet) (listing_of r.symbol (l ∷ sheet)) ≡ h l ∷ map h sheet
      go true t i =
          ap (change_found change (g l ∷ map g sheet)) (first_hit (is_of r.symbol) l sheet t)
          ∙ ap₂ {C = List Row} (λ a b. a ∷ b) (hit l t) (others sheet (rw ((same_is l.symbol r.symbol).0 t) at d.0))
      go false t i =
          ap (change_found change (g l ∷ map g sheet)) (first_miss (is_of r.symbol) l sheet t)
          ∙ row_up change (g l) (map g sheet) (listing_of r.symbol sheet)
          ∙ ap₂ {C = List Row} (λ a b. a ∷ b) (miss l t) i

module _ (ed : Edition) (n : ℕ) (r : Record) (es : List Taken) where
  abbrev before : Listing → Row
  before = row_of ed es

  abbrev behind : Listing → Row
  behind = row_of ed (e n r es ∷ es)

  -- in an edition whose messages do not report
  unreported : reports ed ≡ false → (sheet : List Listing) → map before sheet ≡ map behind sheet
  unfolding row_of
  unreported p [] = refl
  unreported p (l ∷ sheet) = ap₂ {C = List Row} (λ a b. a ∷ b) (rw p) (unreported p sheet)

  -- in one whose messages do
  module _ (p : reports ed ≡ true) where
    -- a message that is no J and sets no volume
    silent : summary_in r ≡ false → sets_in r ≡ false → (sheet : List Listing) → map before sheet ≡ map behind sheet
    unfolding row_of summary_of reported_of
    silent j s [] = refl
    silent j s (l ∷ sheet) = ap₂ {C = List Row} (λ a b. a ∷ b) (rw (p, j, s)) (silent j s sheet)

    -- one that sets a volume, and is no J, or is one
    sets : summary_in r ≡ false → sets_in r ≡ true → (l : Listing)
        → (same l.symbol r.symbol ≡ true → keeping r (before l) ≡ behind l)
        × (same l.symbol r.symbol ≡ false → before l ≡ behind l)
    unfolding row_of summary_of reported_of
    sets j s l = (λ q. rw (p, j, s, q), λ q. rw (p, j, s, q))

    sums : summary_in r ≡ true → sets_in r ≡ true → (l : Listing)
        → (same l.symbol r.symbol ≡ true → summing r (before l) ≡ behind l)
        × (same l.symbol r.symbol ≡ false → before l ≡ behind l)
    unfolding row_of summary_of reported_of
    sums j s l = (λ q. rw (p, j, s, q), λ q. rw (p, j, s, q))

  rows_step : (sheet : List Listing) → NoRepeat (symbols_in sheet) → rows_for ed (kind_in r) r (map before sheet) ≡ map behind sheet
  unfolding rows_for
  rows_step sheet d = by (reports ed) refl
    where
      in_row : (change : Row → Row) → ((l : Listing)
          → (same l.symbol r.symbol ≡ true → change (before l) ≡ behind l)
          × (same l.symbol r.symbol ≡ false → before l ≡ behind l))
          → change_found change (map before sheet) (listing_of r.symbol (sheet_in (map before sheet))) ≡ map behind sheet
      in_row change k = rw (sheet_is ed es sheet) (row_step r change before behind (λ l. (k l).0) (λ l. (k l).1) sheet d)

      go : reports ed ≡ true → (j : Bool) → summary_in r ≡ j → (t : Bool) → sets_in r ≡ t
          → rows_for ed (kind_in r) r (map before sheet) ≡ map behind sheet
      go p true j true t = rw (p, j) (in_row (summing r) (sums p j t))
      go p true j false t = absurd (true≢false (sym (summary_sets (kind_in r) j) ∙ t))
      go p false j true t = rw (p, j, t) (in_row (keeping r) (sets p j t))
      go p false j false t = rw (p, j, t) (silent p j t sheet)

      by : (b : Bool) → reports ed ≡ b → rows_for ed (kind_in r) r (map before sheet) ≡ map behind sheet
      by true p = go p (summary_in r) refl (sets_in r) refl
      by false p = rw p (unreported p sheet)

-- ---- what the clerk takes, the table does not refuse

module _ (ed : Edition) (sheet : List Listing) (limit : ℕ) where
  -- each message of the list, after those before it
  abbrev pub Took : List Taken → Type 0
  Took [] = Unit {0}
  Took (e ∷ es) = Passed (basis_after sheet limit es) e.message × Took es

  pub took : (ms : List (List ℕ)) → Took (taken_of ed sheet limit ms)
  unfolding taken_of
  took [] = tt
  took (m ∷ ms) = go (eqb (answer_to ed sheet limit (taken_of ed sheet limit ms) m) 0) refl (took ms)
    where
      es : List Taken
      es = taken_of ed sheet limit ms

      go : (t : Bool) → eqb (answer_to ed sheet limit es m) 0 ≡ t → Took es
          → Took (cond t (record { number = suc (length ms); message = (clerk_reading ed m).found } ∷ es) es)
      go true t i = (passed (basis_after sheet limit es) (clerk_reading ed m) (eqb-true (answer_to ed sheet limit es m) 0 t), i)
      go false t i = i

  -- no two trades bear one key
  unique : (es : List Taken) → Took es → NoRepeat (keys_of (trades_of es))
  unfolding trades_but
  unique [] w = tt
  unique (e ∷ es) w = rw (keys_more [] e es) (go (makes_in e.message) refl (unique es w.1))
    where
      go : (t : Bool) → makes_in e.message ≡ t → NoRepeat (keys_of (trades_of es))
          → NoRepeat (keys_of (trades_of es) ++ cond t (key_in e.message ∷ []) [])
      go true t u =
          no_repeat_snoc (keys_of (trades_of es)) (key_in e.message) u (sym (borne_is (key_in e.message) (trades_of es)) ∙ w.0.is_new t)
      go false t u = rw append-nil u

  pub one_trade_per_key : (ms : List (List ℕ)) → NoRepeat (keys_of (trades_of (taken_of ed sheet limit ms)))
  one_trade_per_key ms = unique (taken_of ed sheet limit ms) (took ms)

  -- ---- one used message

  pub content_is : (es : List Taken) (n : ℕ) (m : List ℕ) → content limit (book_by ed sheet es n) m ≡ answer_to ed sheet limit es m
  unfolding content book_by
  content_is es n m =
      ap (λ (x : List Listing). (given (content_table
      (record { phase = phase_after es; sheet = x; ledger = searched (trades_of es) limit }) (clerk_reading ed m))).number)
      (sheet_is ed es sheet)

  module _ (d : NoRepeat (symbols_in sheet)) (es : List Taken) (n : ℕ) (m : List ℕ) (u : NoRepeat (keys_of (trades_of es))) where
    abbrev more : List Taken
    more = record { number = suc n; message = (clerk_reading ed m).found } ∷ es

    taking_is : taken_into (clerk_reading ed m).found (book_by ed sheet es n) ≡ book_by ed sheet more (suc n)
    unfolding taken_into book_by
    taking_is =
        let r = (clerk_reading ed m).found in
        rw (
          phase_step (suc n) r es,
          rows_step ed (suc n) r es sheet d,
          lines_step (suc n) r es u,
          add-one (suc n),
          add-one (length es),
          sym (lines_count (suc n) r es),
        )

    after_is : wanted_done limit (book_by ed sheet es n) m ≡ book_by ed sheet (cond (eqb (answer_to ed sheet limit es m) 0) more es) (suc n)
    unfolding wanted_done using_up book_by
    after_is = rw (content_is es n m) (go (eqb (answer_to ed sheet limit es m) 0))
      where
        go : (t : Bool)
            → cond t (taken_into (clerk_reading ed m).found (book_by ed sheet es n)) (using_up (book_by ed sheet es n))
            ≡ book_by ed sheet (cond t more es) (suc n)
        go true = taking_is
        go false = rw (add-one (suc n))

  -- his book after one more used message is what the step makes of his book before it
  pub clerk_after : NoRepeat (symbols_in sheet) → (ms : List (List ℕ)) (m : List ℕ)
      → wanted_done limit (clerk_book ed sheet limit ms) m ≡ clerk_book ed sheet limit (m ∷ ms)
  unfolding clerk_book taken_of
  clerk_after d ms m = after_is d (taken_of ed sheet limit ms) (length ms) m (one_trade_per_key ms)

  -- the book after any used messages is the clerk's
  plays : NoRepeat (symbols_in sheet) → (b : Book) → b ≡ clerk_book ed sheet limit [] → (ms : List (List ℕ))
      → play limit b ms ≡ clerk_book ed sheet limit ms
  unfolding play
  plays d b e [] = e
  plays d b e (m ∷ ms) = ap (λ (x : Book). wanted_done limit x m) (plays d b e ms) ∙ clerk_after d ms m

-- ---- from the listed sheet

-- the book on which a sheet is listed and nothing else was done
abbrev pub listed_book : Edition → List Listing → Book
listed_book ed sheet =
    record {
      edition = ed;
      wanted = 1;
      phase = 0;
      rows = map listed_row sheet;
      lines = [];
      listed = length sheet;
      used = 0;
      taken = 0;
    }

-- a row as it was listed is that of no taken message
row_listed : (ed : Edition) (l : Listing) → listed_row l ≡ row_of ed [] l
unfolding row_of summary_of reported_of
row_listed ed l = go (reports ed)
  where
    go : (b : Bool) → let told = cond b [] [] in
        listed_row l ≡ record { listing = l; summary = summary_of told l.symbol; reported = reported_of told l.symbol }
    go true = refl
    go false = refl

rows_listed : (ed : Edition) (sheet : List Listing) → map listed_row sheet ≡ map (row_of ed []) sheet
rows_listed ed [] = refl
rows_listed ed (l ∷ sheet) = ap₂ {C = List Row} (λ a b. a ∷ b) (row_listed ed l) (rows_listed ed sheet)

pub listed_is : (ed : Edition) (sheet : List Listing) (limit : ℕ) → listed_book ed sheet ≡ clerk_book ed sheet limit []
unfolding clerk_book taken_of book_by phase_after trades_but
listed_is ed sheet limit = rw (rows_listed ed sheet)

pub book_is_clerks : (ed : Edition) (sheet : List Listing) (limit : ℕ) → NoRepeat (symbols_in sheet) → (ms : List (List ℕ))
    → play limit (listed_book ed sheet) ms ≡ clerk_book ed sheet limit ms
book_is_clerks ed sheet limit d ms = plays ed sheet limit d (listed_book ed sheet) (listed_is ed sheet limit) ms

-- ---- no symbol is on a sheet twice

pub sheet_once : (limit : ℕ) (sheet ls : List Listing) → NoRepeat (symbols_in sheet) → NoRepeat (symbols_in (sheet_from limit sheet ls))
unfolding sheet_from
sheet_once limit sheet [] d = d
sheet_once limit sheet (l ∷ ls) d = sheet_once limit (cond (eqb told 0) (sheet ++ (l ∷ [])) sheet) ls (go (eqb told 0) refl)
  where
    told : ℕ
    told = (given (list_table 1 sheet limit l)).number

    go : (t : Bool) → eqb told 0 ≡ t → NoRepeat (symbols_in (cond t (sheet ++ (l ∷ [])) sheet))
    go true t =
        rw (map-append (λ (x : Listing). x.symbol) sheet (l ∷ []))
        (no_repeat_snoc (symbols_in sheet) l.symbol d
        (sym (listed_is_in l.symbol sheet) ∙ (listable 1 sheet limit l (eqb-true told 0 t)).is_new))
    go false t = d
