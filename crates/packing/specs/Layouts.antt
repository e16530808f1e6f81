-- The five layouts of NLS Plus 2.0, line by line as document 01 prints them: time 0/4 is `at time 0 4`, with its form and its rule.
-- Assumes nothing.
use Rattle.std.specs.Prelude.{ℕ, List, [], ◌∷◌}
use Rattle.std.proofs.Math.Option.{Option, none, some}
use Rattle.editions.specs.declared.Edition.TheVariants.{NlsPlus}
use Rattle.kinds.specs.declared.Kind.{Kind}
use Rattle.kinds.specs.declared.Kind.TheVariants.{Event, Trade, Cancel, Correction, Summary, Other}
use Rattle.kinds.specs.Kinds.{letter_of, kind_of}
use Rattle.layout.specs.Values.{letter, time, event, centre, symbol, class, control, price, size, condition, new_control, new_price}
use Rattle.layout.specs.Values.{new_size, new_condition, high, low, close, consolidated}
use Rattle.layout.specs.Forms.{byte, big, chars}
use Rattle.layout.specs.Tables.{Item, at, Layout, the}
use Rattle.rules.specs.Rules as Rules

-- where every layout has its letter
abbrev pub letter_place : ℕ
letter_place = 4

-- S, 6 long
unfoldable pub layout_s : Layout
layout_s =
    record {
      size = 6;
      place = letter_place;
      entries =
          at time 0 4 (big Rules.time)
          ∷ at letter 4 1 (byte (the (letter_of Event)))
          ∷ at event 5 1 (byte Rules.event)
          ∷ [];
    }

-- T to offset 36, with a letter
abbrev pub to_condition : ℕ → List Item → List Item
to_condition k rest =
    at time 0 4 (big Rules.time)
    ∷ at letter 4 1 (byte (the k))
    ∷ at centre 5 1 (byte (Rules.centre NlsPlus))
    ∷ at symbol 6 8 (chars Rules.text)
    ∷ at class 14 1 (byte (Rules.class NlsPlus))
    ∷ at control 15 10 (chars Rules.text)
    ∷ at price 25 4 (big Rules.trade_price)
    ∷ at size 29 4 (big (Rules.size NlsPlus))
    ∷ at condition 33 4 (chars Rules.condition)
    ∷ rest

-- T, 45 long; X as T, with its letter
unfoldable pub layout_t : ℕ → Layout
layout_t k =
    record {
      size = 45;
      place = letter_place;
      entries = to_condition k (at consolidated 37 8 (big Rules.consolidated) ∷ []);
    }

-- C, 67 long: as T to offset 36, then the new trade
unfoldable pub layout_c : Layout
layout_c =
    record {
      size = 67;
      place = letter_place;
      entries =
          to_condition (letter_of Correction)
          (at new_control 37 10 (chars Rules.text)
          ∷ at new_price 47 4 (big Rules.trade_price)
          ∷ at new_size 51 4 (big (Rules.size NlsPlus))
          ∷ at new_condition 55 4 (chars Rules.condition)
          ∷ at consolidated 59 8 (big Rules.consolidated)
          ∷ []);
    }

-- J, 34 long
unfoldable pub layout_j : Layout
layout_j =
    record {
      size = 34;
      place = letter_place;
      entries =
          at time 0 4 (big Rules.time)
          ∷ at letter 4 1 (byte (the (letter_of Summary)))
          ∷ at symbol 5 8 (chars Rules.text)
          ∷ at class 13 1 (byte (Rules.class NlsPlus))
          ∷ at high 14 4 (big Rules.summary_price)
          ∷ at low 18 4 (big Rules.summary_price)
          ∷ at close 22 4 (big Rules.summary_price)
          ∷ at consolidated 26 8 (big Rules.consolidated)
          ∷ [];
    }

-- the layout of a type
abbrev pub layout_of : Kind → Option Layout
layout_of Event = some layout_s
layout_of Trade = some (layout_t (letter_of Trade))
layout_of Cancel = some (layout_t (letter_of Cancel))
layout_of Correction = some layout_c
layout_of Summary = some layout_j
layout_of Other = none

-- and of a letter
abbrev pub layout_by : ℕ → Option Layout
layout_by k = layout_of (kind_of k)

-- the lengths as document 01 prints them: S, T, X, C, J
abbrev pub printed_lengths : List ℕ
printed_lengths = 6 ∷ 45 ∷ 45 ∷ 67 ∷ 34 ∷ []
