-- Of `list`, `deliver` and `row`, whatever state, listing, arrival and symbol is given: the answer is one of the call's list, and a
-- refusal keeps everything but the number that it uses up. Which lent bytes a call may change: `Touches`.
-- Assumes nothing.
use Prim.Native.Nat.{ℕ, ◌+◌, ◌≤◌}
use mathlib.Core.Path.{◌≡◌, refl, ap, sym, ◌∙◌}
use mathlib.Core.Logic.{◌⊎◌, ◌↔◌, ⊎_elim}
use mathlib.Core.List.Memᴰ
use mathlib.Core.List.{List, [], ◌∷◌, ◌++◌, Memᴰ}
use mathlib.Core.Bool.{Bool, true, false, cond, not, ◌&&◌, and-eq-true_iff, true≢false}
use native.Mathlib.Omega.{arith}
use borrow.Author.Tests.{eqb-true, ne_eqb}
use lib.Dec.{eqb, lit<}
use lib.ListN.{length}
use Rattle.answers.specs.Answers.{number_of, answer_of}
use Rattle.answers.specs.Cases.{Case, given, in_book}
use Rattle.answers.proofs.Cases.{Rising, numbers_of, given_among, given_uses}
use Rattle.records.specs.declared.Record.{Record}
use Rattle.rows.specs.declared.Listing.{Listing}
use Rattle.rows.specs.Rows.{row_limit}
use Rattle.bounds.proofs.Laws.{up_is}
use Rattle.counters.specs.Counting.{last_number, with_wanted}
use Rattle.sound.proofs.Sound.{sound_gives, sound_exactly}
use Rattle.table.specs.Table.{number_table, content_table}
use Rattle.table.proofs.Tables.{Wanted, number_content, number_refused, number_taken}
use Rattle.show.specs.Showing.{nothing_shown}
use Rattle.book.specs.State.{State, with_counters, Arrival, wanted_in, sheet_of, sound_in, UnsoundIn}
use Rattle.book.specs.Calls.{list_table, list_cases, list_answer, listed, number_cases, reading_in, content_cases, message_cases}
use Rattle.book.specs.Calls.{message_given, spent, after, delivered, row_table, row_cases, row_answer, shown}

-- ---- the numbers of a listing's cases rise, as those of a message's do (`message_rising`)

pub listing_rising : (wanted : ℕ) (sheet : List Listing) (limit : ℕ) (l : Listing) → Rising (list_table wanted sheet limit l)
unfolding list_table
listing_rising wanted sheet limit l = (lit< tt, (lit< tt, (lit< tt, (lit< tt, tt))))

-- ---- one of a list

-- n is one of the numbers
abbrev pub Among : ℕ → List ℕ → Type 0
Among n ns = Memᴰ n ns

-- each number of a list passes
abbrev each : (ℕ → Bool) → List ℕ → Bool
each passes [] = true
each passes (n ∷ ns) = passes n && each passes ns

each_among : (passes : ℕ → Bool) (ns : List ℕ) → each passes ns ≡ true → (n : ℕ) → Among n ns → passes n ≡ true
each_among passes [] e n m = absurd (Memᴰ.not-nil m)
each_among passes (k ∷ ns) e n m =
    let q = (and-eq-true_iff (passes k) (each passes ns)).0 e in
    ⊎_elim (λ (h : n ≡ k). ap passes h ∙ q.0) (λ (t : Among n ns). each_among passes ns q.1 n t) (Memᴰ.cases_cons m)

-- the answer of a number bears it, if that holds of each number of a list
told_among : (n : ℕ) (ns : List ℕ) → each (λ k. eqb (number_of (answer_of k)) k) ns ≡ true → Among n ns → number_of (answer_of n) ≡ n
told_among n ns e m = eqb-true (number_of (answer_of n)) n (each_among (λ k. eqb (number_of (answer_of k)) k) ns e n m)

module _ (s : State) where
  -- each call's list of answers
  pub record AnswersListed : Type 0 where
    pub list : (l : Listing) → Among (listed s l).answer (0 ∷ 17 ∷ 13 ∷ 14 ∷ 15 ∷ 16 ∷ [])
    pub deliver : (a : Arrival) → Among (delivered s a).answer (0 ∷ 17 ∷ 1 ∷ 2 ∷ 3 ∷ 4 ∷ 5 ∷ 6 ∷ 7 ∷ 8 ∷ 9 ∷ 10 ∷ 11 ∷ 12 ∷ [])
    pub row : (symbol : List ℕ) → Among (number_of (shown s symbol).answer) (0 ∷ 17 ∷ 7 ∷ [])

  -- the answer bears the number that was given
  pub list_told : (l : Listing) → number_of (answer_of (list_answer s l)) ≡ list_answer s l
  unfolding list_answer list_table
  list_told l = told_among (list_answer s l) _ refl (given_among (list_cases s l))

  pub message_told : (a : Arrival) → number_of (answer_of (message_given s a).number) ≡ (message_given s a).number
  unfolding message_given number_table content_table
  message_told a = told_among (message_given s a).number _ refl (given_among (message_cases s a))

  pub number_told : (n : ℕ) → number_of (answer_of (given (number_cases s n)).number) ≡ (given (number_cases s n)).number
  unfolding number_table
  number_told n = told_among (given (number_cases s n)).number _ refl (given_among (number_cases s n))

  pub row_told : (symbol : List ℕ) → number_of (answer_of (row_answer s symbol)) ≡ row_answer s symbol
  unfolding row_answer
  row_told symbol = told_among (row_answer s symbol) _ refl (given_among (row_cases s symbol))

  pub answers_listed : AnswersListed
  unfolding listed list_answer list_table delivered message_given number_table content_table shown row_answer
  answers_listed =
      record {
        list = λ l. given_among (list_cases s l);
        deliver = λ a. given_among (message_cases s a);
        row = λ symbol. rw (row_told symbol) (given_among (row_cases s symbol));
      }

  -- what each call leaves when it refuses
  pub record RefusedKeeps : Type 0 where
    pub list : (l : Listing) → ((listed s l).answer ≡ 0 → ⊥) → (listed s l).state ≡ s
    -- every room stays: but for the counters the state is the one that was lent
    pub deliver : (a : Arrival) → ((delivered s a).answer ≡ 0 → ⊥) → with_counters s.counters (delivered s a).state ≡ s
    -- refused at the wanted number, in a sound book: the number is used up, all else stays
    pub used : (a : Arrival) → sound_in s ≡ true → a.number ≡ wanted_in s → a.number ≤ last_number
        → ((delivered s a).answer ≡ 0 → ⊥) → (delivered s a).state ≡ spent s
    -- which in a sound book is: the wanted number up by one, all else equal
    pub by_one : sound_in s ≡ true → spent s ≡ with_counters (with_wanted (wanted_in s + 1) s.counters) s
    -- at any other number, or in an unsound book: refused, and nothing changes
    pub unused : (a : Arrival) → (sound_in s ≡ true → a.number ≡ wanted_in s → a.number ≤ last_number → ⊥)
        → ((delivered s a).answer ≡ 0 → ⊥) × ((delivered s a).state ≡ s)
    pub row : (symbol : List ℕ) → (number_of (shown s symbol).answer ≡ 0 → ⊥) → (shown s symbol).row ≡ nothing_shown

  module _ (a : Arrival) where
    abbrev cases : List Case
    cases = content_cases s a

    abbrev record_in_lem : Record
    record_in_lem = (reading_in s a.message).found

    pub answer_taken : (message_given s a).number ≡ 0 → Wanted (sound_in s) (wanted_in s) a.number
    unfolding message_given
    answer_taken e = number_taken (sound_in s) (wanted_in s) a.number cases e

    pub answer_content : Wanted (sound_in s) (wanted_in s) a.number → message_given s a ≡ given cases
    unfolding message_given
    answer_content h = number_content (sound_in s) (wanted_in s) a.number cases h

    pub answer_number : (Wanted (sound_in s) (wanted_in s) a.number → ⊥) → message_given s a ≡ given (number_cases s a.number)
    unfolding message_given
    answer_number h = number_refused (sound_in s) (wanted_in s) a.number cases h

    -- a refusal by the content uses up the number, one by the number or the book does not
    content_uses : ((given cases).number ≡ 0 → ⊥) → (given cases).uses ≡ true
    unfolding content_table
    content_uses z = given_uses true cases (refl, (refl, (refl, (refl, (refl, (refl, (refl, (refl, (refl, tt))))))))) z

    number_keeps : ((given (number_cases s a.number)).number ≡ 0 → ⊥) → (given (number_cases s a.number)).uses ≡ false
    unfolding number_table
    number_keeps z = given_uses false (number_cases s a.number) (refl, (refl, (refl, (refl, tt)))) z

    after_refused : (g : Case) → (g.number ≡ 0 → ⊥) → after s record_in_lem g ≡ cond g.uses (spent s) s
    after_refused g z = rw (ne_eqb g.number 0 z)

    used_is : Wanted (sound_in s) (wanted_in s) a.number → ((message_given s a).number ≡ 0 → ⊥)
        → after s record_in_lem (message_given s a) ≡ spent s
    used_is w z =
        let e = answer_content w in
        let f : (given cases).number ≡ 0 → ⊥ = λ q. z (ap (λ (g : Case). g.number) e ∙ q) in
        ap (after s record_in_lem) e ∙ after_refused (given cases) f ∙ ap (λ (u : Bool). cond u (spent s) s) (content_uses f)

    refused_unwanted : (Wanted (sound_in s) (wanted_in s) a.number → ⊥) → (message_given s a).number ≡ 0 → ⊥
    refused_unwanted h z = h (answer_taken z)

    unused_is : (Wanted (sound_in s) (wanted_in s) a.number → ⊥) → after s record_in_lem (message_given s a) ≡ s
    unused_is h =
        let e = answer_number h in
        let f : (given (number_cases s a.number)).number ≡ 0 → ⊥ = λ q. refused_unwanted h (ap (λ (g : Case). g.number) e ∙ q) in
        ap (after s record_in_lem) e
        ∙ after_refused (given (number_cases s a.number)) f
        ∙ ap (λ (u : Bool). cond u (spent s) s) (number_keeps f)

  -- a refusal keeps every room, whether or not it uses up the number
  kept_rooms : (r : Record) (g : Case) → (g.number ≡ 0 → ⊥) → with_counters s.counters (after s r g) ≡ s
  kept_rooms r g z = rw (ne_eqb g.number 0 z) (go g.uses)
    where
      go : (u : Bool) → with_counters s.counters (cond u (spent s) s) ≡ s
      go true = refl
      go false = refl

  pub refused_keeps : RefusedKeeps
  unfolding listed delivered shown
  refused_keeps =
      record {
        list = λ l z. rw (ne_eqb (list_answer s l) 0 z);
        deliver = λ a z. kept_rooms (reading_in s a.message).found (message_given s a) z;
        used = λ a h w f z. used_is a (wanted a.number h w f) z;
        by_one =
            λ h.
            let g = sound_gives s.counters (length s.rows) (length s.lines) h in
            rw (up_is (wanted_in s) (omega (arith, g.greatest)));
        unused =
            λ a h. (
              refused_unwanted a (λ w. h w.sound w.wanted w.greatest),
              unused_is a (λ w. h w.sound w.wanted w.greatest),
            );
        row = λ symbol z. rw (ne_eqb (row_answer s symbol) 0 (λ e. z (row_told symbol ∙ e)));
      }
    where
      wanted : (n : ℕ) → sound_in s ≡ true → n ≡ wanted_in s → n ≤ last_number → Wanted (sound_in s) (wanted_in s) n
      wanted n h w f =
          let g = sound_gives s.counters (length s.rows) (length s.lines) h in
          record { sound = h; wanted = w; least = omega (arith, g.least); greatest = f }

-- ---- 17 goes first

-- 17 is given exactly where a book is unsound, if no later case has that number
seventeen : (b : Bool) (cases : List Case) → ((given cases).number ≡ 17 → ⊥) → ((given (in_book b cases)).number ≡ 17) ↔ (b ≡ false)
seventeen true cases h = (λ e. absurd (h e), λ e. absurd (true≢false e))
seventeen false cases h = (λ e. refl, λ e. refl)

not_17 : (cases : List Case) → each (λ k. not (eqb k 17)) (numbers_of cases) ≡ true → (given cases).number ≡ 17 → ⊥
not_17 cases h e =
    let f = each_among (λ k. not (eqb k 17)) (0 ∷ numbers_of cases) h (given cases).number (given_among cases) in
    true≢false (sym (rw e at f))

module _ (s : State) where
  -- a call answers 17 exactly if the book is unsound
  pub record UnsoundFirst : Type 0 where
    pub list : (l : Listing) → ((listed s l).answer ≡ 17) ↔ UnsoundIn s
    pub deliver : (a : Arrival) → ((delivered s a).answer ≡ 17) ↔ UnsoundIn s
    pub row : (symbol : List ℕ) → (number_of (shown s symbol).answer ≡ 17) ↔ UnsoundIn s

  then_unsound : (cases : List Case) → each (λ k. not (eqb k 17)) (numbers_of cases) ≡ true
      → ((given (in_book (sound_in s) cases)).number ≡ 17) ↔ UnsoundIn s
  then_unsound cases h =
      let q = seventeen (sound_in s) cases (not_17 cases h) in
      let u = sound_exactly s.counters (length s.rows) (length s.lines) in
      (λ e. u.0 (q.0 e), λ e. q.1 (u.1 e))

  pub unsound_first : UnsoundFirst
  unfolding listed list_answer list_table delivered message_given number_table content_table shown row_answer
  unsound_first =
      record {
        list = λ l. then_unsound (list_table (wanted_in s) (sheet_of s) (row_limit (length s.rows)) l) refl;
        deliver = λ a. then_unsound (number_table (wanted_in s) a.number ++ content_cases s a) refl;
        row = λ symbol. rw (row_told s symbol) (then_unsound (row_table (sheet_of s) symbol) refl);
      }
