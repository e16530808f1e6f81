-- The phases of a day, which its events begin, and which messages are due in each.
-- Assumes nothing.
use Rattle.std.specs.Prelude.{ℕ, suc, List, [], ◌∷◌, Bool, cond, ◌&&◌, eqb, ltb}
use Rattle.kinds.specs.declared.Kind.{Kind}
use Rattle.kinds.specs.Kinds.{is_event}

-- the events, in the order in which they come: O S Q M E C
abbrev pub events : List ℕ
events = 79 ∷ 83 ∷ 81 ∷ 77 ∷ 69 ∷ 67 ∷ []

-- which one of a list a byte is, counted from a number on; 0 if it is none
abbrev pub count_from : ℕ → List ℕ → ℕ → ℕ
count_from n [] event = 0
count_from n (e ∷ es) event = cond (eqb event e) n (count_from (suc n) es event)

-- the phase that an event begins: 1 to 6; 0, which is that of a day before any event, for a byte that is none
abbrev pub phase_of : ℕ → ℕ
phase_of event = count_from 1 events event

-- the phase that event C, the last, begins
abbrev pub last_phase : ℕ
last_phase = 6

-- after some event was taken and before event C was
abbrev pub trading : ℕ → Bool
trading phase = ltb 0 phase && ltb phase last_phase

-- an event is due if it comes strictly later than the last one taken; any other message while trading
abbrev pub due : ℕ → Kind → ℕ → Bool
due phase kind event = cond (is_event kind) (ltb phase (phase_of event)) (trading phase)
