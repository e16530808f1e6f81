-- The wall of any tape in document 01's words: the columns' names, a row for each listing taken, in listing order, the closing line, and
-- where the tape stops.
-- Assumes nothing.
use Rattle.std.specs.Prelude.{ℕ, List, [], ◌∷◌, ◌++◌, map, cond, eqb, Option}
use Rattle.rows.specs.declared.Listing.{Listing}
use Rattle.print.specs.Texts.{header_text, row_text, closing_text}
use Rattle.book.specs.State.{State}
use Rattle.book.specs.Calls.{listed, shown}
use Rattle.tape.specs.Entries.{Entry, Lists, Delivers}
use Rattle.tape.specs.Playing.{acted, acted_all, joined}
use Rattle.page.specs.Page.{end_lines}

-- the listing of an entry, if the book answers 0 to it
abbrev pub taken_here : State → Entry → List Listing
taken_here s (Lists l) = cond (eqb (listed s l).answer 0) (l ∷ []) []
taken_here s (Delivers kind a) = []

-- the listings taken, in the order in which they stand on the tape
unfoldable pub listings_taken : State → List Entry → List Listing
listings_taken s [] = []
listings_taken s (e ∷ es) = taken_here s e ++ listings_taken (acted s e) es

-- each row is what `row` shows of the symbol once the tape has ended
unfoldable pub wall_said : State → List Entry → Option ℕ → List ℕ
wall_said s es e =
    let end = acted_all s es in
    joined
    (header_text
    ∷ (map (λ (l : Listing). row_text (shown end l.symbol).row) (listings_taken s es)
    ++ (closing_text end.counters.taken end.counters.wanted ∷ end_lines e)))
