-- `judge::lawful` meets its contract.
-- Assumes nothing.
use mathlib.Core.Path.{◌≡◌, refl, sym, ◌∙◌}
use mathlib.Core.Bool.{Bool, false}
use mathlib.Core.List.{List, [], ◌∷◌}
use Rattle.std.proofs.Math.Option.{Option, none, some}
use Rattle.layout.specs.Tables.{Layout, all_from, lawful_by, lacked}
use Rattle.records.specs.declared.Record.{Record}
use Rattle.judge.specs.Judged.{kept_in, lawful_in}
use Rattle.judge.proofs.lawful.Goals as goal

-- what begins with a no stays one
none_from : {A : Type 0} (p : A → Bool) (xs : List A) → all_from p false xs ≡ false
none_from p [] = refl
none_from p (x ∷ xs) = none_from p xs

-- a record that breaks a rule of its type is not lawful
broken : (o : Option Layout) (r : Record) → kept_in o r ≡ false → lawful_in o r ≡ false
unfolding lawful_by
broken none r e = refl
broken (some l) r e = rw e (none_from _ (lacked l))

pub returns-else-kept : goal.returns-else-kept
returns-else-kept c = c.if-kept.false ∙ sym (broken _ _ (sym c.kept.ensures ∙ c.if-kept.false))
