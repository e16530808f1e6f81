-- What a book is asked, one thing after the other, in any order, and the state that is left then: a run of plain states. A run of calls,
-- in Rattle or in C, and a tape's entries all come to one.
-- Assumes nothing.
use Rattle.std.specs.Prelude.{List, [], ◌∷◌, cond, eqb}
use Rattle.octets.specs.Run.{Bytes}
use Rattle.rows.specs.declared.Listing.{Listing}
use Rattle.rows.specs.Changed.{ListingFits}
use Rattle.book.specs.State.{State, Arrival}
use Rattle.book.specs.Calls.{listed, delivered}

-- to list a symbol, or to take a message under its number
pub data Asked : Type 0 where
  to_list : Listing → Asked
  to_deliver : Arrival → Asked

-- the state that one leaves, whatever is answered
abbrev pub asked_one : State → Asked → State
asked_one s (to_list l) = (listed s l).state
asked_one s (to_deliver a) = (delivered s a).state

-- and all, one after the other
unfoldable pub asked_all : State → List Asked → State
asked_all s [] = s
asked_all s (q ∷ qs) = asked_all (asked_one s q) qs

-- the messages, in the order in which they come
abbrev pub arrivals_in : List Asked → List Arrival
arrivals_in [] = []
arrivals_in (to_list l ∷ qs) = arrivals_in qs
arrivals_in (to_deliver a ∷ qs) = a ∷ arrivals_in qs

-- the listings that come before the first message numbered 1: no later one can be in time
abbrev pub listings_in : List Asked → List Listing
listings_in [] = []
listings_in (to_list l ∷ qs) = l ∷ listings_in qs
listings_in (to_deliver a ∷ qs) = cond (eqb a.number 1) [] (listings_in qs)

-- each listing is what its type says, each message is bytes
abbrev pub AskedFit : List Asked → Type 0
AskedFit [] = Unit {0}
AskedFit (to_list l ∷ qs) = ListingFits l × AskedFit qs
AskedFit (to_deliver a ∷ qs) = Bytes a.message × AskedFit qs

-- as each comes, each listing is what its type says, and each message and the room for lines that it finds are bytes
abbrev pub AskedIn : State → List Asked → Type 0
AskedIn s [] = Unit {0}
AskedIn s (to_list l ∷ qs) = ListingFits l × AskedIn (listed s l).state qs
AskedIn s (to_deliver a ∷ qs) = (Bytes s.lines × Bytes a.message) × AskedIn (delivered s a).state qs
