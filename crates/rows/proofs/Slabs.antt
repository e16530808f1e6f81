-- Rows in lent bytes: what a row's cell holds, one row more, a row changed, and which bytes stay.
-- Assumes nothing.
use Rattle.std.specs.Prelude.{Option, Some, ℕ}
use Prim.Native.Nat.{ℕ, suc, ◌+◌, ◌*◌, ◌^◌, ◌≤◌, ◌<◌, min}
use mathlib.Core.Path.{◌≡◌, refl, ap, ◌∙◌}
use mathlib.Core.List.{List, [], ◌∷◌, ◌++◌, append_assoc}
use native.Mathlib.Nat.{add-zero}
use native.Mathlib.Omega.{arith}
use lib.ListN.{length, get_or, set, drop, replicate, length-append}
use Rattle.octets.specs.Run.{part}
use Rattle.numbers.specs.Number.{be, digits}
use Rattle.numbers.proofs.Laws.{digits_length}
use Rattle.octets.proofs.Trips as trips
use Rattle.rows.specs.declared.Listing.{Listing}
use Rattle.rows.specs.declared.Row.{Row}
use Rattle.rows.specs.Rows.{high_low}
use Rattle.rows.specs.Cell.{row_cell, at_close, at_summary, at_high, at_low, at_reported, at_volume}
use Rattle.rows.specs.Rows.{listing_from, summary_at, reported_at, row_from, new_row, report_bytes, summary_bytes, row_at, row_limit, used_rows}
use Rattle.rows.specs.Rows.{no_row, row_in, in_row, with_row, with_report, with_summary}
use Rattle.rows.specs.Changed.{listed_row, reporting, summarised, ListingFits}
use Rattle.cells.proofs.Slabs.{Agree, Kept, number_here, number_past, part_agree, stored_found, stored_kept, stored_length, stored_past}
use Rattle.cells.proofs.Slabs.{used_add, used_in_lem, used_length, used_set}
use Rattle.rows.specs.declared.HighLow.{HighLow}

-- ---- a row's cell

module _ (m w : List ℕ) (at : ℕ) where
  summary_agree : Agree m w (at + at_summary) (at + at_reported) → summary_at w at ≡ summary_at m at
  unfolding summary_at
  summary_agree h =
      let high : part w (at + at_high) 4 ≡ part m (at + at_high) 4
      = part_agree m w (at + at_high) 4 (λ j a b. h j (omega arith) (omega arith)) in
      let low : part w (at + at_low) 4 ≡ part m (at + at_low) 4 = part_agree m w (at + at_low) 4 (λ j a b. h j (omega arith) (omega arith)) in
      rw (h (at + at_summary) (omega arith) (omega arith), high, low)

  reported_agree : Agree m w (at + at_reported) (at + row_cell) → reported_at w at ≡ reported_at m at
  unfolding reported_at
  reported_agree h =
      let volume : part w (at + at_volume) 8 ≡ part m (at + at_volume) 8
      = part_agree m w (at + at_volume) 8 (λ j a b. h j (omega arith) (omega arith)) in
      rw (h (at + at_reported) (omega arith) (omega arith), volume)

  -- a row whose symbol and close are as before
  row_as : (s : Option HighLow) (r : Option ℕ) → Agree m w at (at + at_summary) → summary_at w at ≡ s → reported_at w at ≡ r
      → row_from w at ≡ record { listing = (row_from m at).listing; summary = s; reported = r }
  unfolding row_from listing_from
  row_as s r h es er =
      let symbol : part w at 8 ≡ part m at 8 = part_agree m w at 8 (λ j a b. h j a (omega arith)) in
      let close : part w (at + at_close) 4 ≡ part m (at + at_close) 4
      = part_agree m w (at + at_close) 4 (λ j a b. h j (omega arith) (omega arith)) in
      rw (symbol, close, es, er)

row_local : (m w : List ℕ) (at : ℕ) → Agree m w at (at + row_cell) → row_from w at ≡ row_from m at
unfolding row_from
row_local m w at h =
    row_as m w at (summary_at m at) (reported_at m at) (λ j a b. h j a (omega arith))
    (summary_agree m w at (λ j a b. h j (omega arith) (omega arith)))
    (reported_agree m w at (λ j a b. h j (omega arith) (omega arith)))

-- a new row is read as it was listed
row_back : (w rest : List ℕ) (at : ℕ) (l : Listing) → ListingFits l → drop at w ≡ new_row l ++ rest → row_from w at ≡ listed_row l
unfolding row_from listing_from new_row summary_at reported_at
row_back w rest at l f d =
    let symbol = l.symbol in
    let close = l.close in
    let zeros = replicate 9 0 ++ rest in
    let r2 = replicate 9 0 ++ zeros in
    let r1 = digits 4 close ++ r2 in
    let d0 : drop at w ≡ symbol ++ r1 = d ∙ simp append_assoc in
    let d1 : drop (at + at_close) w ≡ r1 = trips.walk w at 8 (at + at_close) symbol r1 d0 f.symbol refl in
    let d2 : drop (at + at_summary) w ≡ r2 = number_past w (at + at_close) 4 (at + at_summary) close r2 d1 (omega arith) in
    let d3 : drop (at + at_reported) w ≡ zeros
    = trips.walk w (at + at_summary) 9 (at + at_reported) (replicate 9 0) zeros d2 refl (omega arith) in
    let es : part w at 8 ≡ symbol = trips.here w at 8 symbol r1 d0 f.symbol in
    let ec : be (part w (at + at_close) 4) ≡ close = number_here w (at + at_close) 4 close r2 d1 f.close in
    let em : get_or w (at + at_summary) 0 ≡ 0 = trips.first w (at + at_summary) 0 (replicate 8 0 ++ zeros) d2 in
    let er : get_or w (at + at_reported) 0 ≡ 0 = trips.first w (at + at_reported) 0 (replicate 8 0 ++ rest) d3 in
    rw (es, ec, em, er)

pub new_row_length : (l : Listing) → length l.symbol ≡ 8 → length (new_row l) ≡ row_cell
unfolding new_row
new_row_length l h = simp length-append (omega (arith, digits_length 4 l.close))

-- a stored volume is read as it was
report_back : (w rest : List ℕ) (at v : ℕ) → v < 2 ^ 64 → drop (at + at_reported) w ≡ report_bytes v ++ rest → reported_at w at ≡ Some v
unfolding reported_at report_bytes
report_back w rest at v h d =
    let d1 : drop (at + at_volume) w ≡ digits 8 v ++ rest
    = trips.walk w (at + at_reported) 1 (at + at_volume) (1 ∷ []) (digits 8 v ++ rest) d refl (omega arith) in
    let e : get_or w (at + at_reported) 0 ≡ 1 = trips.first w (at + at_reported) 1 (digits 8 v ++ rest) d in
    let volume : be (part w (at + at_volume) 8) ≡ v = number_here w (at + at_volume) 8 v rest d1 h in
    rw (e, volume)

pub report_length : (v : ℕ) → length (report_bytes v) ≡ 9
unfolding report_bytes
report_length v = ap suc (digits_length 8 v)

-- a stored high and low are read as they were
summary_back : (w rest : List ℕ) (at h l : ℕ) → h < 2 ^ 32 → l < 2 ^ 32 → drop (at + at_summary) w ≡ summary_bytes h l ++ rest
    → summary_at w at ≡ Some (high_low h l)
unfolding summary_at summary_bytes
summary_back w rest at h l hh hl d =
    let r2 = digits 4 l ++ rest in
    let r1 = digits 4 h ++ r2 in
    let d0 : drop (at + at_summary) w ≡ 1 ∷ r1 = d ∙ simp append_assoc in
    let d1 : drop (at + at_high) w ≡ r1 = trips.walk w (at + at_summary) 1 (at + at_high) (1 ∷ []) r1 d0 refl (omega arith) in
    let d2 : drop (at + at_low) w ≡ r2 = number_past w (at + at_high) 4 (at + at_low) h r2 d1 (omega arith) in
    let e : get_or w (at + at_summary) 0 ≡ 1 = trips.first w (at + at_summary) 1 r1 d0 in
    let high : be (part w (at + at_high) 4) ≡ h = number_here w (at + at_high) 4 h r2 d1 hh in
    let low : be (part w (at + at_low) 4) ≡ l = number_here w (at + at_low) 4 l rest d2 hl in
    rw (e, high, low)

pub summary_length : (h l : ℕ) → length (summary_bytes h l) ≡ 9
unfolding summary_bytes
summary_length h l = simp length-append (omega (arith, digits_length 4 h, digits_length 4 l))

-- ---- rows

pub row_length : (m : List ℕ) (i from : ℕ) (bytes : List ℕ) → length (in_row m i from bytes) ≡ length m
unfolding in_row
row_length m i from bytes = stored_length (row_limit (length m)) m i (i * row_cell + from) bytes

-- a store in a row's cell keeps every byte outside the place it goes to
pub row_touches : (m : List ℕ) (i from : ℕ) (bytes : List ℕ) (j : ℕ) → from + length bytes ≤ row_cell
    → (j < i * row_cell + from → get_or (in_row m i from bytes) j 0 ≡ get_or m j 0)
    × (i * row_cell + from + length bytes ≤ j → get_or (in_row m i from bytes) j 0 ≡ get_or m j 0)
unfolding in_row
row_touches m i from bytes j f = stored_kept (row_limit (length m)) m i (i * row_cell + from) bytes j

-- bytes past the last whole cell never change
pub row_past : (m : List ℕ) (i from : ℕ) (bytes : List ℕ) (j : ℕ) → from + length bytes ≤ row_cell
    → row_limit (length m) * row_cell ≤ j → get_or (in_row m i from bytes) j 0 ≡ get_or m j 0
unfolding in_row
row_past m i from bytes j f h =
    stored_past (row_limit (length m)) m i (i * row_cell + from) bytes (row_limit (length m) * row_cell) j (λ c. omega arith) h

module _ (m : List ℕ) (n : ℕ) where
  pub used_rows_length : length (used_rows m n) ≡ min n (row_limit (length m))
  unfolding used_rows
  used_rows_length = used_length row_from row_cell row_limit m n

  pub row_in_lem : (k : ℕ) → k < min n (row_limit (length m)) → get_or (used_rows m n) k no_row ≡ row_in m k
  unfolding used_rows row_in
  row_in_lem k h = used_in_lem row_from row_cell row_limit m n no_row k h

-- a store in row k's cell
module _ (m : List ℕ) (k from : ℕ) (bytes : List ℕ) (fits : from + length bytes ≤ row_cell) where
  in_kept : Kept m (in_row m k from bytes) (k * row_cell) (k * row_cell + row_cell)
  in_kept j = (λ h. (row_touches m k from bytes j fits).0 (omega arith), λ h. (row_touches m k from bytes j fits).1 (omega arith))

  in_found : k < row_limit (length m)
      → drop (k * row_cell + from) (in_row m k from bytes) ≡ bytes ++ drop (k * row_cell + from + length bytes) m
  unfolding in_row
  in_found h = stored_found (row_limit (length m)) m k (k * row_cell + from) bytes h (omega arith)

  in_before : (a e : ℕ) → e ≤ k * row_cell + from → Agree m (in_row m k from bytes) a e
  in_before a e h j p q = (row_touches m k from bytes j fits).0 (omega arith)

  in_after : (a e : ℕ) → k * row_cell + from + length bytes ≤ a → Agree m (in_row m k from bytes) a e
  in_after a e h j p q = (row_touches m k from bytes j fits).1 (omega arith)

  -- what the used rows become, if the row becomes what the change says
  in_set : (n : ℕ) (change : Row → Row) → k < min n (row_limit (length m)) → row_at (in_row m k from bytes) k ≡ change (row_at m k)
      → used_rows (in_row m k from bytes) n ≡ set (used_rows m n) k (change (get_or (used_rows m n) k no_row))
  unfolding used_rows
  in_set n change h e =
      used_set row_from row_cell row_limit row_local m (in_row m k from bytes) k (row_length m k from bytes) in_kept n change no_row h e

-- a row stored behind the used ones
pub rows_put : (m : List ℕ) (n : ℕ) (l : Listing) → ListingFits l → n < row_limit (length m)
    → used_rows (with_row m n l) (suc n) ≡ used_rows m n ++ (listed_row l ∷ [])
unfolding used_rows
rows_put m n l f h =
    let e : length (new_row l) ≡ row_cell = new_row_length l f.symbol in
    let w = with_row m n l in
    let bytes = new_row l in
    let rest = drop (n * row_cell + length bytes) m in
    let d : drop (n * row_cell) w ≡ bytes ++ rest = rw add-zero at (in_found m n 0 bytes (omega arith) h) in
    used_add row_from row_cell row_limit row_local m w n (row_length m n 0 bytes) (in_kept m n 0 bytes (omega arith)) (listed_row l) h
    (row_back w rest (n * row_cell) l f d)

-- a used row's volume reported
pub rows_report : (m : List ℕ) (n k v : ℕ) → v < 2 ^ 64 → k < min n (row_limit (length m))
    → used_rows (with_report m k v) n ≡ set (used_rows m n) k (reporting v (get_or (used_rows m n) k no_row))
unfolding row_from
rows_report m n k v hv h =
    let at = k * row_cell in
    let bytes = report_bytes v in
    let w = with_report m k v in
    let e : length bytes ≡ 9 = report_length v in
    let fits : at_reported + length bytes ≤ row_cell = omega arith in
    let d = in_found m k at_reported bytes fits (omega arith) in
    let same : summary_at w at ≡ summary_at m at
    = summary_agree m w at (in_before m k at_reported bytes fits (at + at_summary) (at + at_reported) (omega arith)) in
    let new : reported_at w at ≡ Some v = report_back w (drop (at + at_reported + length bytes) m) at v hv d in
    in_set m k at_reported bytes fits n (reporting v) h
    (row_as m w at (summary_at m at) (Some v) (in_before m k at_reported bytes fits at (at + at_summary) (omega arith)) same new)

-- a used row's J taken
pub rows_summary : (m : List ℕ) (n k h l : ℕ) → h < 2 ^ 32 → l < 2 ^ 32 → k < min n (row_limit (length m))
    → used_rows (with_summary m k h l) n ≡ set (used_rows m n) k (summarised h l (get_or (used_rows m n) k no_row))
unfolding row_from
rows_summary m n k h l hh hl g =
    let at = k * row_cell in
    let bytes = summary_bytes h l in
    let w = with_summary m k h l in
    let e : length bytes ≡ 9 = summary_length h l in
    let fits : at_summary + length bytes ≤ row_cell = omega arith in
    let d = in_found m k at_summary bytes fits (omega arith) in
    let new : summary_at w at ≡ Some (high_low h l) = summary_back w (drop (at + at_summary + length bytes) m) at h l hh hl d in
    let same : reported_at w at ≡ reported_at m at
    = reported_agree m w at (in_after m k at_summary bytes fits (at + at_reported) (at + row_cell) (omega arith)) in
    in_set m k at_summary bytes fits n (summarised h l) g
    (row_as m w at (Some (high_low h l)) (reported_at m at) (in_before m k at_summary bytes fits at (at + at_summary) (omega arith)) new same)
