-- A call, as its contract tells it, is a step on lists: what `book_of` reads after it is what the step makes of what it read before.
-- A sound book stays sound.
-- Assumes nothing.
use Rattle.std.specs.Prelude.{None, Option, Some, ℕ}
use Prim.Native.Nat.{ℕ, ◌+◌, ◌^◌, ◌≤◌, ◌<◌, min}
use mathlib.Core.Path.{◌≡◌, refl, ap, sym, ◌∙◌}
use mathlib.Core.List.{List, [], ◌∷◌, ◌++◌}
use mathlib.Core.Bool.{Bool, true, false, cond, true≢false}
use native.Mathlib.Omega.{arith}
use native.Mathlib.Numerals.{add-one}
use borrow.Author.Tests.{eqb-true, eqb-false, le-leb, lt-leb, leb-false}
use lib.Dec.{eqb}
use lib.ListN.{length, get_or, set, length-map}
use lib.Seq.{get_or-set_same, set-set}
use Rattle.octets.specs.Run.{Bytes}
use Rattle.bounds.proofs.Laws.{up_is}
use Rattle.answers.specs.Cases.{Case, given, in_book}
use Rattle.records.specs.Fits.{RecordFits}
use Rattle.editions.specs.declared.Edition.{Edition}
use Rattle.editions.specs.Editions.{reports}
use Rattle.records.specs.declared.Record.{Record}
use Rattle.message.proofs.Fitting.{read_fits}
use Rattle.cells.proofs.Slabs.{found_below}
use Rattle.kinds.proofs.Laws.{event_makes, sets_event, summary_sets}
use Rattle.lines.specs.declared.Line.{Line}
use Rattle.lines.specs.Lines.{line_limit, used_lines, bears, line_with, no_line, line_in, with_line, with_dead}
use Rattle.lines.specs.Changed.{dead}
use Rattle.lines.proofs.Slabs.{lines_put, lines_kill, line_in_lem, dead_length, used_lines_length}
use Rattle.rows.specs.declared.Listing.{Listing}
use Rattle.rows.specs.declared.Row.{Row}
use Rattle.rows.specs.Cell.{at_summary}
use Rattle.rows.specs.Rows.{row_limit, used_rows, sheet_in, is_of, listing_of, no_row, with_row, with_report, with_summary}
use Rattle.rows.specs.Changed.{listed_row, summarised, ListingFits}
use Rattle.rows.proofs.Slabs.{rows_put, rows_report, rows_summary, row_length, used_rows_length}
use Rattle.counters.specs.declared.Counters.{Counters}
use Rattle.phases.specs.Phases.{phase_of, last_phase}
use Rattle.counters.specs.Counting.{last_number, fresh_counters, used_up, one_row_more, taken_by}
use Rattle.counters.specs.Counting.{with_wanted, with_phase, with_row_count, with_line_count, with_taken}
use Rattle.sound.specs.Sound.{sound}
use Rattle.sound.proofs.Sound.{Within, sound_gives}
use Rattle.keys.specs.Keys.{kind_in, old_key}
use Rattle.table.specs.Table.{is_found, is_listed, number_table}
use Rattle.table.proofs.Tables.{rows_full, Wanted, number_wanted}
use Rattle.take.specs.Taking.{made_line, corrected_line, corrected, lines_by, reported_by, rows_by, index_of}
use Rattle.book.specs.State.{State, Arrival, edition_of, wanted_in, rows_in, sheet_of, lines_in, basis_of, sound_in}
use Rattle.book.specs.Calls.{list_table, list_answer, with_listing, listed, reading_in, message_given, spent, delivered}
use Rattle.book.specs.Calls as Calls
use Rattle.book.proofs.Demand1.{refused_keeps, answer_content}
use Rattle.upheld.proofs.Touches.{touches_only, made_fits, corrected_fits}
use Rattle.clerk.specs.Messages.{event_in, summary_in, sets_in, names_in, makes_in}
use Rattle.clerk.specs.Steps.{Book, book_of, lines_for, keeping, summing, rows_for, taken_into, using_up, content}
use Rattle.clerk.specs.Steps.{wanted_done, next, listing}
use Rattle.clerk.proofs.Passing.{Passed, passed, listable}

-- ---- what a search found

there : (f : Option ℕ) → is_found f ≡ true → (i : ℕ) × (f ≡ Some i)
there None e = absurd (true≢false (sym e))
there (Some i) e = (i, refl)

-- ---- a taken message: the counters

-- one number more used up and one message more taken, with that phase and so many lines
abbrev one_taken : ℕ → ℕ → Counters → Counters
one_taken phase lines c = with_wanted (c.wanted + 1) (with_phase phase (with_line_count lines (with_taken (c.taken + 1) c)))

-- what becomes of each counter of a sound book
abbrev moved : Record → Counters → Counters
moved r c =
    one_taken (cond (event_in r) (phase_of r.event) c.phase) (cond (makes_in r) (c.lines + 1) c.lines) c

-- a word of the counters of a sound book is far from the greatest number
record Small (c : Counters) : Type 0 where
  pub wanted : c.wanted ≤ 4294967296
  pub rows : c.rows ≤ 4294967296
  pub lines : c.lines ≤ 4294967296
  pub taken : c.taken ≤ 4294967296

small_is : (c : Counters) (rows lines : ℕ) → Within c rows lines → Small c
small_is c rows lines w =
    record {
      wanted = w.greatest;
      rows = omega (arith, w.rows_fit);
      lines = omega (arith, w.lines_fit);
      taken = omega (arith, w.taken_fit, w.greatest);
    }

module _ (c : Counters) (h : Small c) where
  used_up_is : used_up c ≡ with_wanted (c.wanted + 1) c
  used_up_is = rw (up_is c.wanted (omega (arith, h.wanted)))

  one_row_is : one_row_more c ≡ with_row_count (c.rows + 1) c
  one_row_is = rw (up_is c.rows (omega (arith, h.rows)))

  taken_is : (r : Record) → taken_by (kind_in r) r.event c ≡ moved r c
  unfolding taken_by
  taken_is r =
      rw (
        up_is c.wanted (omega (arith, h.wanted)),
        up_is c.taken (omega (arith, h.taken)),
        up_is c.lines (omega (arith, h.lines)),
      )
      (go (event_in r) refl (makes_in r) refl)
    where
      go : (t : Bool) → event_in r ≡ t → (u : Bool) → makes_in r ≡ u
          → cond t (one_taken (phase_of r.event) c.lines c)
          (cond u (one_taken c.phase (c.lines + 1) c) (one_taken c.phase c.lines c))
          ≡ one_taken (cond t (phase_of r.event) c.phase) (cond u (c.lines + 1) c.lines) c
      go true t true u = absurd (true≢false (sym u ∙ event_makes (kind_in r) t))
      go true t false u = refl
      go false t true u = refl
      go false t false u = refl

-- ---- a taken message: the lines

module _ (m : List ℕ) (used n : ℕ) (r : Record) (fits : RecordFits r) (small : n < 2 ^ 32) (bytes : Bytes m)
    (within : used ≤ line_limit (length m)) where
  abbrev old : List Line
  old = used_lines m used

  -- T
  line_made : length old < line_limit (length m) → used_lines (with_line m used (made_line n r)) (used + 1) ≡ old ++ (made_line n r ∷ [])
  line_made room =
      let e = used_lines_length m used in
      rw (add-one used) (lines_put m used (made_line n r) (made_fits r fits n small) (omega arith))

  module _ (i : ℕ) (found : line_with (old_key r) old ≡ Some i) where
    below : i < min used (line_limit (length m))
    below = omega (arith, found_below (bears (old_key r)) old i found, used_lines_length m used)

    -- X
    line_dead : used_lines (with_dead m i) used ≡ set old i (dead (get_or old i no_line))
    line_dead = lines_kill m used i below

    -- C
    line_corrected : length old < line_limit (length m)
        → used_lines (corrected m used r i) (used + 1) ≡ set old i (dead (get_or old i no_line)) ++ (corrected_line (get_or old i no_line) r ∷ [])
    line_corrected room =
        let e = used_lines_length m used in
        let d : length (with_dead m i) ≡ length m = dead_length m i in
        let l : corrected_line (line_in m i) r ≡ corrected_line (get_or old i no_line) r
        = ap (λ (x : Line). corrected_line x r) (sym (line_in_lem m used i below)) in
        let less : used < line_limit (length (with_dead m i)) = rw d (omega arith) in
        rw (add-one used, lines_put (with_dead m i) used (corrected_line (line_in m i) r) (corrected_fits r fits m i bytes) less, line_dead, l)

  -- what the message does to the lent lines, and to the lines
  lines_taken : (makes_in r ≡ true → length old < line_limit (length m)) → (names_in r ≡ true → is_found (line_with (old_key r) old) ≡ true)
      → used_lines (lines_by (kind_in r) m used n r (index_of (line_with (old_key r) old))) (cond (makes_in r) (used + 1) used)
      ≡ lines_for (kind_in r) n r old
  unfolding lines_by lines_for
  lines_taken room borne = go (names_in r) refl (makes_in r) refl
    where
      named : is_found (line_with (old_key r) old) ≡ true → (i : ℕ) × (line_with (old_key r) old ≡ Some i)
      named h = there (line_with (old_key r) old) h

      go : (o : Bool) → names_in r ≡ o → (t : Bool) → makes_in r ≡ t
          → used_lines (lines_by (kind_in r) m used n r (index_of (line_with (old_key r) old))) (cond (makes_in r) (used + 1) used)
          ≡ lines_for (kind_in r) n r old
      go true o true t = let f = named (borne o) in rw (o, t, f.1) (line_corrected f.0 f.1 (room t))
      go true o false t = let f = named (borne o) in rw (o, t, f.1) (line_dead f.0 f.1)
      go false o true t = rw (o, t) (line_made (room t))
      go false o false t = rw (o, t)

-- ---- a taken message: the rows

module _ (ed : Edition) (m : List ℕ) (used : ℕ) (r : Record) (fits : RecordFits r) where
  abbrev olds : List Row
  olds = used_rows m used

  module _ (i : ℕ) (found : listing_of r.symbol (sheet_in olds) ≡ Some i) where
    below_row : i < min used (row_limit (length m))
    below_row =
        let n : length (sheet_in olds) ≡ length olds = length-map olds (λ (x : Row). x.listing) in
        omega (arith, found_below (is_of r.symbol) (sheet_in olds) i found, used_rows_length m used)

    row_reported : used_rows (with_report m i r.consolidated) used ≡ set olds i (keeping r (get_or olds i no_row))
    row_reported = rows_report m used i r.consolidated fits.consolidated below_row

    -- J
    row_summed : used_rows (with_report (with_summary m i r.high r.low) i r.consolidated) used
        ≡ set olds i (summing r (get_or olds i no_row))
    row_summed =
        let w = with_summary m i r.high r.low in
        let same : length w ≡ length m = row_length m i at_summary _ in
        let new = summarised r.high r.low (get_or olds i no_row) in
        let s = rows_summary m used i r.high r.low fits.high fits.low below_row in
        let g = get_or-set_same olds i new no_row (omega (arith, below_row, used_rows_length m used)) in
        rows_report w used i r.consolidated fits.consolidated (rw same below_row) ∙ rw (s, g, set-set)

  rows_taken : (event_in r ≡ false → is_listed r.symbol (sheet_in olds) ≡ true)
      → used_rows (rows_by ed (kind_in r) m r (index_of (listing_of r.symbol (sheet_in olds)))) used ≡ rows_for ed (kind_in r) r olds
  unfolding rows_by reported_by rows_for
  rows_taken h = by (reports ed) refl
    where
      found : is_listed r.symbol (sheet_in olds) ≡ true → (i : ℕ) × (listing_of r.symbol (sheet_in olds) ≡ Some i)
      found e = there (listing_of r.symbol (sheet_in olds)) e

      go : reports ed ≡ true → (j : Bool) → summary_in r ≡ j → (t : Bool) → sets_in r ≡ t
          → used_rows (rows_by ed (kind_in r) m r (index_of (listing_of r.symbol (sheet_in olds)))) used ≡ rows_for ed (kind_in r) r olds
      go p true j t v =
          let f = found (h (sets_event (kind_in r) (summary_sets (kind_in r) j))) in
          rw (p, j, f.1) (row_summed f.0 f.1)
      go p false j true t =
          let f = found (h (sets_event (kind_in r) t)) in
          rw (p, j, t, f.1) (row_reported f.0 f.1)
      go p false j false t = rw (p, j, t)

      by : (b : Bool) → reports ed ≡ b
          → used_rows (rows_by ed (kind_in r) m r (index_of (listing_of r.symbol (sheet_in olds)))) used ≡ rows_for ed (kind_in r) r olds
      by true p = go p (summary_in r) refl (sets_in r) refl
      by false p = rw p

-- ---- a delivery

module _ (s : State) (a : Arrival) (safe : sound_in s ≡ true) where
  abbrev limit : ℕ
  limit = line_limit (length s.lines)

  abbrev b : Book
  b = book_of s

  abbrev r : Record
  r = (reading_in s a.message).found

  -- not the wanted number; refused, the number used up; taken
  data Ended : Type 0 where
    left : (delivered s a).state ≡ s → next limit b a ≡ b → Ended
    over : wanted_in s ≤ last_number → (delivered s a).state ≡ spent s → next limit b a ≡ using_up b → Ended
    took : wanted_in s ≤ last_number → Passed (basis_of s) r → (delivered s a).state ≡ Calls.taking s r → next limit b a ≡ taken_into r b → Ended

  wanted_here : (given (number_table (wanted_in s) a.number)).number ≡ 0 → Wanted true (wanted_in s) a.number
  wanted_here e = (number_wanted true (wanted_in s) a.number).0 e

  in_book_lem : Wanted true (wanted_in s) a.number → Wanted (sound_in s) (wanted_in s) a.number
  in_book_lem w = record { sound = safe; wanted = w.wanted; least = w.least; greatest = w.greatest }

  -- the content decides
  pub answer_is : Wanted true (wanted_in s) a.number → (message_given s a).number ≡ content limit b a.message
  unfolding content book_of
  answer_is w = ap (λ (x : Case). x.number) (answer_content s a (in_book_lem w))

  after_is : (given (number_table (wanted_in s) a.number)).number ≡ 0 → next limit b a ≡ wanted_done limit b a.message
  unfolding next book_of
  after_is e = rw e

  refused : Wanted true (wanted_in s) a.number → (content limit b a.message ≡ 0 → ⊥) → (delivered s a).state ≡ spent s
  unfolding delivered
  refused w z = (refused_keeps s).used a safe w.wanted w.greatest (λ q. z (sym (answer_is w) ∙ q))

  accepted : Wanted true (wanted_in s) a.number → content limit b a.message ≡ 0 → (delivered s a).state ≡ Calls.taking s r
  unfolding delivered
  accepted w z =
      let e : (message_given s a).number ≡ 0 = answer_is w ∙ z in
      rw e

  -- under the wanted number
  used : (t : Bool) → eqb (content limit b a.message) 0 ≡ t → (given (number_table (wanted_in s) a.number)).number ≡ 0 → Ended
  unfolding wanted_done content book_of
  used true t e =
      let w = wanted_here e in
      let z = eqb-true (content limit b a.message) 0 t in
      took (omega (arith, w.wanted, w.greatest)) (passed (basis_of s) (reading_in s a.message) z) (accepted w z) (after_is e ∙ rw t)
  used false t e =
      let w = wanted_here e in
      over (omega (arith, w.wanted, w.greatest)) (refused w (eqb-false (content limit b a.message) 0 t)) (after_is e ∙ rw t)

  ended : Ended
  unfolding next book_of
  ended = go (eqb (given (number_table (wanted_in s) a.number)).number 0) refl
    where
      number : ℕ
      number = (given (number_table (wanted_in s) a.number)).number

      go : (t : Bool) → eqb number 0 ≡ t → Ended
      go true t = used (eqb (content limit b a.message) 0) refl (eqb-true number 0 t)
      go false t =
          let g = sound_gives s.counters (length s.rows) (length s.lines) safe in
          let no : Wanted true (wanted_in s) a.number → ⊥
          = λ w. eqb-false number 0 t ((number_wanted true (wanted_in s) a.number).1 w) in
          let u
          = (refused_keeps s).unused a (λ h w f. no (record {
            sound = refl;
            wanted = w;
            least = omega
                (arith, g.least, w);
            greatest = f;
          })) in
          left u.1 (rw t)

-- ---- the calls as steps

module _ (s : State) (safe : sound_in s ≡ true) where
  abbrev bounds : Within s.counters (length s.rows) (length s.lines)
  bounds = sound_gives s.counters (length s.rows) (length s.lines) safe

  abbrev small : Small s.counters
  small = small_is s.counters (length s.rows) (length s.lines) bounds

  -- a number used up
  spent_is : book_of (spent s) ≡ using_up (book_of s)
  unfolding book_of using_up
  spent_is = rw (up_is (wanted_in s) (omega (arith, small.wanted)))

  -- a taken message: rows, lines and counters move together
  took_step : (m : List ℕ) → Bytes s.lines → Bytes m → wanted_in s ≤ last_number → Passed (basis_of s) (reading_in s m).found
      → book_of (Calls.taking s (reading_in s m).found) ≡ taken_into (reading_in s m).found (book_of s)
  unfolding book_of taken_into
  took_step m bl bm f p =
      let r = (reading_in s m).found in
      let fits = read_fits (edition_of s) m bm in
      let l
      = lines_taken s.lines s.counters.lines (wanted_in s) r fits (omega (arith, f)) bl bounds.lines_fit p.has_room
      p.is_borne in
      let o = rows_taken (edition_of s) s.rows s.counters.rows r fits p.on_sheet in
      rw (taken_is s.counters small r, l, o)

  pub deliver_step : (a : Arrival) → Bytes s.lines → Bytes a.message
      → book_of (delivered s a).state ≡ next (line_limit (length s.lines)) (book_of s) a
  deliver_step a bl bm = go (ended s a safe)
    where
      go : Ended s a safe → book_of (delivered s a).state ≡ next (line_limit (length s.lines)) (book_of s) a
      go (left e q) = ap book_of e ∙ sym q
      go (over f e q) = ap book_of e ∙ spent_is ∙ sym q
      go (took f p e q) = ap book_of e ∙ took_step a.message bl bm f p ∙ sym q

  -- ---- a listing

  module _ (l : Listing) where
    abbrev cases : List Case
    cases = list_table (wanted_in s) (sheet_of s) (row_limit (length s.rows)) l

    list_answer_lem : list_answer s l ≡ (given cases).number
    unfolding list_answer
    list_answer_lem = ap (λ (t : Bool). (given (in_book t cases)).number) safe

    -- where it is not refused, there is room
    list_room : (given cases).number ≡ 0 → s.counters.rows < row_limit (length s.rows)
    list_room e =
        let room = (listable (wanted_in s) _ _ l e).has_room in
        leb-false (row_limit (length s.rows)) s.counters.rows (sym (rows_full s.rows s.counters.rows) ∙ lt-leb _ _ room)

    -- the row is put behind the others
    list_put : ListingFits l → (given cases).number ≡ 0
        → used_rows (with_row s.rows s.counters.rows l) (s.counters.rows + 1) ≡ rows_in s ++ (listed_row l ∷ [])
    list_put h z = rw (add-one s.counters.rows) (rows_put s.rows s.counters.rows l h (list_room z))

    pub list_step : ListingFits l → book_of (listed s l).state ≡ listing (row_limit (length s.rows)) (book_of s) l
    unfolding book_of listed listing
    list_step h = rw list_answer_lem (go (eqb (given cases).number 0) refl)
      where
        more : Book
        more =
            record {
              edition = edition_of s;
              wanted = wanted_in s;
              phase = s.counters.phase;
              rows = rows_in s ++ (listed_row l ∷ []);
              lines = lines_in s;
              listed = s.counters.rows + 1;
              used = s.counters.lines;
              taken = s.counters.taken;
            }

        go : (t : Bool) → eqb (given cases).number 0 ≡ t → book_of (cond t (with_listing s l) s) ≡ cond t more (book_of s)
        go true t = rw (up_is s.counters.rows (omega (arith, small.rows)), list_put h (eqb-true (given cases).number 0 t))
        go false t = refl

-- ---- a sound book stays sound

within_sound : (c : Counters) (rows lines : ℕ) → Within c rows lines → sound c rows lines ≡ true
unfolding sound
within_sound c rows lines w =
    rw (
      le-leb _ _ w.least,
      le-leb _ _ w.greatest,
      le-leb _ _ w.rows_fit,
      le-leb _ _ w.lines_fit,
      le-leb _ _ w.phased,
      le-leb _ _ w.taken_fit,
    )

pub fresh_sound : (ed : Edition) (rows lines : ℕ) → sound (fresh_counters ed) rows lines ≡ true
fresh_sound ed rows lines =
    within_sound (fresh_counters ed) rows lines
    (record {
      least = omega arith;
      greatest = omega arith;
      rows_fit = omega arith;
      lines_fit = omega arith;
      phased = omega arith;
      taken_fit = omega arith;
    })

either_fits : (t : Bool) (a b n : ℕ) → (t ≡ true → a ≤ n) → b ≤ n → cond t a b ≤ n
either_fits true a b n f g = f refl
either_fits false a b n f g = g

-- every event's phase is one of the seven
phase_fits : (e : ℕ) → phase_of e ≤ last_phase
phase_fits e =
    either_fits (eqb e 79) 1 _ last_phase (λ t. omega arith)
    (either_fits (eqb e 83) 2 _ last_phase (λ t. omega arith)
    (either_fits (eqb e 81) 3 _ last_phase (λ t. omega arith)
    (either_fits (eqb e 77) 4 _ last_phase (λ t. omega arith)
    (either_fits (eqb e 69) 5 _ last_phase (λ t. omega arith)
    (either_fits (eqb e 67) 6 0 last_phase (λ t. omega arith) (omega arith))))))

module _ (s : State) (safe : sound_in s ≡ true) where
  abbrev R : ℕ
  R = length s.rows

  abbrev L : ℕ
  L = length s.lines

  -- taken: there is room for the line
  moved_sound : (r : Record) → wanted_in s ≤ last_number → (makes_in r ≡ true → length (lines_in s) < line_limit L)
      → sound (moved r s.counters) R L ≡ true
  moved_sound r f room =
      let c = s.counters in
      let w = bounds s safe in
      let n = used_lines_length s.lines c.lines in
      within_sound (moved r c) R L
      (record {
        least = omega arith;
        greatest = omega arith;
        rows_fit = w.rows_fit;
        lines_fit = either_fits (makes_in r) (c.lines + 1) c.lines _ (λ t. omega (arith, room t)) w.lines_fit;
        phased = either_fits (event_in r) (phase_of r.event) c.phase last_phase (λ t. phase_fits r.event) w.phased;
        taken_fit = omega arith;
      })

  used_sound : wanted_in s ≤ last_number → sound (used_up s.counters) R L ≡ true
  used_sound f =
      let w = bounds s safe in
      rw (used_up_is s.counters (small s safe))
      (within_sound _ R L
      (record {
        least = omega arith;
        greatest = omega arith;
        rows_fit = w.rows_fit;
        lines_fit = w.lines_fit;
        phased = w.phased;
        taken_fit = omega arith;
      }))

  pub deliver_sound : (a : Arrival) → sound_in (delivered s a).state ≡ true
  deliver_sound a = rw ((touches_only s).rows_length a, (touches_only s).lines_length a) (go (ended s a safe))
    where
      go : Ended s a safe → sound (delivered s a).state.counters R L ≡ true
      go (left e q) = ap (λ (t : State). sound t.counters R L) e ∙ safe
      go (over f e q) = ap (λ (t : State). sound t.counters R L) e ∙ used_sound f
      go (took f p e q) =
          ap (λ (t : State). sound t.counters R L) e
          ∙ ap (λ (c : Counters). sound c R L) (taken_is s.counters (small s safe) (reading_in s a.message).found)
          ∙ moved_sound (reading_in s a.message).found f p.has_room

  pub list_sound : (l : Listing) → sound_in (listed s l).state ≡ true
  unfolding listed
  list_sound l = rw ((touches_only s).listed_length l, (touches_only s).listed_lines l) (kept l)
    where
      go : (l : Listing) (t : Bool) → eqb (given (cases s safe l)).number 0 ≡ t → sound (cond t (with_listing s l) s).counters R L ≡ true
      go l true t =
          let w = bounds s safe in
          let room = list_room s safe l (eqb-true _ 0 t) in
          rw (one_row_is s.counters (small s safe))
          (within_sound _ R L
          (record {
            least = w.least;
            greatest = w.greatest;
            rows_fit = omega arith;
            lines_fit = w.lines_fit;
            phased = w.phased;
            taken_fit = w.taken_fit;
          }))
      go l false t = safe

      kept : (l : Listing) → sound (listed s l).state.counters R L ≡ true
      kept l = rw (list_answer_lem s safe l) (go l (eqb (given (cases s safe l)).number 0) refl)
