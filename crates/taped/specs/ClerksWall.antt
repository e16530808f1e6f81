-- The wall that the clerk would print of NLS Plus: from the sheet, the room and the used messages alone.
-- Assumes nothing.
use Rattle.std.specs.Prelude.{ℕ, suc, List, [], ◌∷◌, ◌++◌, map, length, Option}
use Rattle.octets.specs.Run.{Bytes}
use Rattle.editions.specs.declared.Edition.TheVariants.{NlsPlus}
use Rattle.rows.specs.declared.Listing.{Listing}
use Rattle.print.specs.Texts.{header_text, row_text, closing_text}
use Rattle.book.specs.State.{Arrival}
use Rattle.tape.specs.Entries.{Entry, Lists, Delivers}
use Rattle.tape.specs.Playing.{joined}
use Rattle.page.specs.Page.{end_lines}
use Rattle.clerk.specs.States.{Asked, to_list, to_deliver}
use Rattle.clerk.specs.Clerk.{Taken, taken_of, shown_by}

-- a line for each listing on the sheet, in its order; the counts; and where the tape stops, if it does
abbrev pub lines_by : List Listing → List Taken → ℕ → Option ℕ → List (List ℕ)
lines_by sheet es n e =
    header_text ∷ (map (λ (l : Listing). row_text (shown_by NlsPlus es l)) sheet ++ (closing_text (length es) (suc n) ∷ end_lines e))

-- `limit` is how many lines the room has; messages have the newest first
unfoldable pub clerk_wall : List Listing → ℕ → List (List ℕ) → Option ℕ → List ℕ
clerk_wall sheet limit ms e = joined (lines_by sheet (taken_of NlsPlus sheet limit ms) (length ms) e)

-- ---- what a tape asks of the book

abbrev pub asked_by : Entry → Asked
asked_by (Lists l) = to_list l
asked_by (Delivers kind a) = to_deliver a

abbrev pub asked_in : List Entry → List Asked
asked_in es = map asked_by es
