-- `cabinet::sorundappa_list` meets its contract.
-- Assumes nothing.
use mathlib.Core.Path.{sym, ◌∙◌}
use Rattle.cabinet.proofs.Calls.{list_said, list_none}
use Rattle.cabinet.proofs.sorundappa_list.Goals as goal

pub returns-in-None : goal.returns-in-None
returns-in-None c = record { left = list_none _ (sym c.counters.ensures.counters ∙ c.in-None.is) _ c.told.ensures _; types = record { count = c.counters.ensures.count; fits = c.listing-l.ensures.fits } }

pub returns-in-Some : goal.returns-in-Some
returns-in-Some c = record {
  left = list_said _ _ (sym c.counters.ensures.counters ∙ c.in-Some.is) c.list-listed.result _ _ _ _
      c.put_counters.ensures c.told-in-Some.ensures _ _ c.listing-l.ensures.made c.list-listed.ensures;
  types = record { count = c.counters.ensures.count; fits = c.listing-l.ensures.fits };
}
