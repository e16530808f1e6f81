-- The days to try by hand, one table under one proof: each line is computed from the book's promises and from the clerk's definitions.
-- Assumes nothing.
use mathlib.Core.Path.{refl}
use Rattle.trials.specs.Days.{DaysAsSaid, numbered, marked, summed, answered, bounded, spelt, figures_for, worked}

-- a `refl` for each day, a line for each part of the table
pub p_days : DaysAsSaid
unfolding worked figures_for numbered marked summed answered bounded spelt
p_days = (
  (refl, (refl, (refl, (refl, (refl, (refl, (refl, (refl, (refl, (refl, (refl, tt))))))))))),
  (refl, (refl, (refl, (refl, (refl, tt))))),
  (refl, (refl, (refl, (refl, (refl, (refl, (refl, (refl, tt)))))))),
  (refl, (refl, (refl, (refl, (refl, (refl, (refl, (refl, (refl, (refl, (refl, (refl, (refl, tt))))))))))))),
  (refl, (refl, (refl, (refl, (refl, (refl, (refl, (refl, (refl, (refl, (refl, tt))))))))))),
  (refl, (refl, (refl, (refl, tt)))),
)
