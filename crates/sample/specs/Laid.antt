-- A message laid out field by field, each at its own place.
-- Assumes nothing.
use Rattle.std.specs.Prelude.{ℕ, ◌+◌, List, set}
use Rattle.std.proofs.lemmas.List.Edits.{sets}
use Rattle.numbers.specs.Number.{digits}
use Rattle.kinds.specs.declared.Kind.{Kind}
use Rattle.kinds.specs.declared.Kind.TheVariants.{Event, Trade, Cancel, Correction, Summary, Other}
use Rattle.records.specs.declared.Sale.{Sale}
use Rattle.records.specs.declared.Record.{Record}

-- time and letter, which stand alike in every type
abbrev pub head_laid : List ℕ → Record → List ℕ
head_laid l r = set (sets l 0 (digits 4 r.time)) 4 r.letter

-- a price, a size and a condition, from a place on
abbrev pub amounts_laid : List ℕ → ℕ → Sale → List ℕ
amounts_laid l at s = sets (sets (sets l at (digits 4 s.price)) (at + 4) (digits 4 s.size)) (at + 8) s.condition

-- what T, X and C have alike, from offset 5 to 36
abbrev pub original_laid : List ℕ → Record → List ℕ
original_laid l r = amounts_laid (sets (set (sets (set l 5 r.centre) 6 r.symbol) 14 r.class) 15 r.sale.control) 25 r.sale

-- ---- whole messages: S; T and X; C; J

abbrev pub event_laid : List ℕ → Record → List ℕ
event_laid l r = set (head_laid l r) 5 r.event

abbrev pub trade_laid : List ℕ → Record → List ℕ
trade_laid l r = sets (original_laid (head_laid l r) r) 37 (digits 8 r.consolidated)

abbrev pub correction_laid : List ℕ → Record → List ℕ
correction_laid l r =
    let old = original_laid (head_laid l r) r in
    sets (amounts_laid (sets old 37 r.new.control) 47 r.new) 59 (digits 8 r.consolidated)

abbrev pub summary_laid : List ℕ → Record → List ℕ
summary_laid l r =
    let named = set (sets (head_laid l r) 5 r.symbol) 13 r.class in
    sets (sets (sets (sets named 14 (digits 4 r.high)) 18 (digits 4 r.low)) 22 (digits 4 r.close)) 26 (digits 8 r.consolidated)

-- the message of a type; what is no type has none
abbrev pub laid_of : Kind → List ℕ → Record → List ℕ
laid_of Event l r = event_laid l r
laid_of Trade l r = trade_laid l r
laid_of Cancel l r = trade_laid l r
laid_of Correction l r = correction_laid l r
laid_of Summary l r = summary_laid l r
laid_of Other l r = l
