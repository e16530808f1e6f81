-- What it is for a record to keep the rules of the type that a layout has: those of the type's fields alone, or also that every other
-- field is zero.
-- Assumes nothing.
use Rattle.std.specs.Prelude.{ℕ, List, Bool, false, ◌&&◌}
use Rattle.std.proofs.Math.Option.{Option, none, some}
use Rattle.editions.specs.declared.Edition.{Edition}
use Rattle.layout.specs.Forms.{inside}
use Rattle.layout.specs.Tables.{Layout, the}
use Rattle.records.specs.declared.Record.{Record}
use Rattle.records.specs.Held.{kept, lawful}
use Rattle.rules.specs.Rules as Rules
use Rattle.formats.specs.Formats.{layout_by}

abbrev pub kept_in : Option Layout → Record → Bool
kept_in none r = false
kept_in (some l) r = kept l r

abbrev pub lawful_in : Option Layout → Record → Bool
lawful_in none r = false
lawful_in (some l) r = lawful l r

-- by the record's letter
unfoldable pub lawful_of : Edition → Record → Bool
lawful_of e r = lawful_in (layout_by e r.letter) r

-- ---- in pieces, as the code asks them

-- the rules of a trade, behind other tests: control, price, size, condition
unfoldable pub sale_rules : Edition → Bool → List ℕ → ℕ → ℕ → List ℕ → Bool
sale_rules e t c p s d = t && Rules.text c && inside Rules.trade_price p && inside (Rules.size e) s && Rules.condition d

-- the rules of T, X and C to the condition: time, letter, centre, symbol, class, and of the trade
unfoldable pub trade_rules : Edition → ℕ → Record → Bool
trade_rules e k r =
    sale_rules e
    (inside Rules.time r.time && the k r.letter && Rules.centre e r.centre && Rules.text r.symbol && Rules.class e r.class)
    r.sale.control
    r.sale.price
    r.sale.size
    r.sale.condition
