-- The editions of the feed, their numbers, and what is asked of an edition besides its layouts.
-- Assumes nothing.
use Rattle.std.specs.Prelude.{ℕ, Bool, true, false, cond, List, [], ◌∷◌, eqb, None, Option, Some}
use Rattle.editions.specs.declared.Edition.{Edition}
use Rattle.editions.specs.declared.Edition.TheVariants.{NlsPlus, Pls}

-- 0 NLS Plus 2.0, 1 PLS 1.1
abbrev pub edition_number : Edition → ℕ
edition_number NlsPlus = 0
edition_number Pls = 1

abbrev pub all_editions : List Edition
all_editions = NlsPlus ∷ Pls ∷ []

-- the edition of a list that has a number
abbrev pub edition_among : List Edition → ℕ → Option Edition
edition_among [] n = None
edition_among (e ∷ es) n = cond (eqb n (edition_number e)) (Some e) (edition_among es n)

-- the edition that a number names
unfoldable pub edition_named : ℕ → Option Edition
edition_named n = edition_among all_editions n

-- the messages of NLS Plus report a consolidated volume, those of PLS do not
abbrev pub reports : Edition → Bool
reports NlsPlus = true
reports Pls = false
