-- The four layouts of PLS 1.1, the PSX ASCII feed, line by line: time 0/8 is `at time 0 8`, with its form and its rule. A number is
-- spelt in digits, a time and a size in at least one, a price in at least four: the last four digits of a price are its decimals, and the
-- number that all its digits spell counts ten-thousandths. No type has a consolidated volume.
-- Assumes nothing.
use Rattle.std.specs.Prelude.{ℕ, List, [], ◌∷◌}
use Rattle.std.proofs.Math.Option.{Option, none, some}
use Rattle.editions.specs.declared.Edition.TheVariants.{Pls}
use Rattle.kinds.specs.declared.Kind.{Kind}
use Rattle.kinds.specs.declared.Kind.TheVariants.{Event, Trade, Cancel, Correction, Summary, Other}
use Rattle.kinds.specs.Kinds.{letter_of}
use Rattle.layout.specs.Values.{letter, time, event, centre, symbol, class, control, price, size, condition, new_control, new_price}
use Rattle.layout.specs.Values.{new_size, new_condition}
use Rattle.layout.specs.Forms.{byte, numeral, chars}
use Rattle.layout.specs.Tables.{Item, at, Layout, the}
use Rattle.records.specs.Held.{size_in}
use Rattle.rules.specs.Rules as Rules

-- where every layout has its letter
abbrev pub letter_place : ℕ
letter_place = 8

-- S, 10 long
unfoldable pub layout_s : Layout
layout_s =
    record {
      size = 10;
      place = letter_place;
      entries =
          at time 0 8 (numeral 1 Rules.time)
          ∷ at letter 8 1 (byte (the (letter_of Event)))
          ∷ at event 9 1 (byte Rules.event)
          ∷ [];
    }

-- T to its end at offset 51, with a letter
abbrev pub to_condition : ℕ → List Item → List Item
to_condition k rest =
    at time 0 8 (numeral 1 Rules.time)
    ∷ at letter 8 1 (byte (the k))
    ∷ at centre 9 1 (byte (Rules.centre Pls))
    ∷ at symbol 10 8 (chars Rules.text)
    ∷ at class 18 1 (byte (Rules.class Pls))
    ∷ at control 19 10 (chars Rules.text)
    ∷ at price 29 10 (numeral 4 Rules.trade_price)
    ∷ at size 39 9 (numeral 1 (Rules.size Pls))
    ∷ at condition 48 4 (chars Rules.condition)
    ∷ rest

-- T, 52 long; X as T, with its letter
unfoldable pub layout_t : ℕ → Layout
layout_t k = record { size = 52; place = letter_place; entries = to_condition k [] }

-- C, 85 long: as T to its end, then the new trade
unfoldable pub layout_c : Layout
layout_c =
    record {
      size = 85;
      place = letter_place;
      entries =
          to_condition (letter_of Correction)
          (at new_control 52 10 (chars Rules.text)
          ∷ at new_price 62 10 (numeral 4 Rules.trade_price)
          ∷ at new_size 72 9 (numeral 1 (Rules.size Pls))
          ∷ at new_condition 81 4 (chars Rules.condition)
          ∷ []);
    }

-- the layout of a type; there is no J
abbrev pub layout_of : Kind → Option Layout
layout_of Event = some layout_s
layout_of Trade = some (layout_t (letter_of Trade))
layout_of Cancel = some (layout_t (letter_of Cancel))
layout_of Correction = some layout_c
layout_of Summary = none
layout_of Other = none

-- the lengths as document 02 prints them: S, T, X, C
abbrev pub printed_lengths : List ℕ
printed_lengths = 10 ∷ 52 ∷ 52 ∷ 85 ∷ []

-- the length of a type's messages; 0 of what is no type
abbrev pub length_of : Kind → ℕ
length_of k = size_in (layout_of k)
