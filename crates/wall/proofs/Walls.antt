-- The wall's text stands whole at the front of a space for 64 rows, and of a tape that was read through it is the text of its bytes.
-- Assumes nothing.
use Rattle.std.specs.Prelude.{Option, ℕ}
use Rattle.std.proofs.Common.{◌≡◌, ℕ, ◌^◌, ◌<◌, ◌≤◌, List, length, take, drop, min, ap, ap₂, ◌∙◌, arith, rules, true, Result, Ok, Err, OnOk}
use Rattle.std.specs.Result.{is_ok}
use native.Mathlib.Nat.{mod-eq_of_lt}
use Rattle.std.proofs.Math.Seq.{take-append_seam}
use Rattle.std.proofs.lemmas.List.Edits.{sets}
use Rattle.octets.proofs.Laws.{sets_front}
use Rattle.rows.specs.Rows.{row_limit}
use Rattle.rows.proofs.Slabs.{used_rows_length}
use Rattle.editions.specs.declared.Edition.TheVariants.{NlsPlus}
use Rattle.counters.specs.Counting.{fresh_counters}
use Rattle.book.specs.State.{State, lent}
use Rattle.tape.specs.declared.Stop.{Stop}
use Rattle.tape.specs.Playing.{played}
use Rattle.tape.proofs.Pieces.{used_within}
use Rattle.feed.specs.Reading.{wrapped}
use Rattle.page.specs.Page.{wall_of, ending_at, wall_text}
use Rattle.page.specs.Printable.{Printable, wall_longest}
use Rattle.page.proofs.WallLongest.{wall_longest_lem}

pub whole : (s : State) (e e' : Option ℕ) (space out : List ℕ) (n : ℕ) → Printable s e → e ≡ e' → row_limit (length s.rows) ≤ 64
    → wall_longest 64 ≡ length space → out ≡ sets space 0 (wall_of s e) → n ≡ min (length (wall_of s e)) (length space)
    → take n out ≡ wall_of s e'
whole s e e' space out n p q limit room bytes count =
    let w = wall_of s e in
    let fits : length w ≤ length space =
    omega (arith, wall_longest_lem s e p, used_rows_length s.rows s.counters.rows, limit, room) in
    let all : n ≡ length w = omega (arith, count, fits) in
    ap₂ take all (bytes ∙ sets_front w space fits) ∙ take-append_seam w (drop (length w) space) ∙ ap (wall_of s) q

pub read_wall : (rows lines tape : List ℕ) (now : State) (w : Stop) (at : ℕ)
    → now ≡ (played (lent (fresh_counters NlsPlus) rows lines) tape).state
    → at ≡ wrapped (played (lent (fresh_counters NlsPlus) rows lines) tape).used
    → w ≡ (played (lent (fresh_counters NlsPlus) rows lines) tape).stop → length tape < 2 ^ 64
    → wall_of now (ending_at w at) ≡ wall_text (lent (fresh_counters NlsPlus) rows lines) tape
unfolding wall_text
read_wall rows lines tape now w at e f h short =
    let fits = mod-eq_of_lt (omega (arith, used_within (lent (fresh_counters NlsPlus) rows lines) tape)) in
    ap₂ wall_of e (ap₂ ending_at h (f ∙ fits))

-- what holds on Ok, of a result that is one
pub on_ok : {T E : Type 0} (r : Result T E) (P : Type 0) → is_ok r ≡ true → OnOk r P → P
on_ok (Ok x) P e h = h
on_ok (Err x) P e h = search rules
