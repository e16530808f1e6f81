-- What a call brings fits its types: the offset that an ending holds.
-- Assumes nothing.
use Rattle.std.specs.Prelude.{None, Option, Some, ℕ}
use mathlib.Core.Path.{refl}
use mathlib.Core.List.{List}
use native.Mathlib.Omega.{arith}
use mir.Val.{Val}
use denote.Builtin.{u64}
use denote.Laws.{Is}
use denote.Enum.Declared.{row, variants}
use denote.Enum.Laws.{owed, Fields, Lawsss, spellss}
use denote.Struct.Field.{u64-field}
use denote.Struct.Laws.{u64-laws, u64-copy}
use denote.Param.Laws.{of_field, field_told}
use denote.Param.Shared.{copy_shared}
use Rattle.std.specs.contracts.option.Option as option
use Rattle.std.proofs.option.Option.TheLaws as option-laws
use Rattle.page.specs.Printable.{EndingFits}

abbrev option_laws : Lawsss (option.the_type u64).parts
option_laws = option-laws.the_laws u64 (of_field u64-field u64-laws refl (copy_shared u64-field u64-copy)) (field_told u64-field u64-laws)

ending_told : (e : Option ℕ)
    → Fields (variants (option.the_type u64)) (spellss (option.the_type u64).parts option_laws) ((option.the_type u64).to e) → EndingFits e
ending_told None h = tt
ending_told (Some n) h = omega (arith, h)

pub ending_good : (e : Option ℕ) (vs : List Val) → Is (row (option.the_type u64)) e vs → EndingFits e
ending_good e vs h = ending_told e (owed (option.the_type u64) option_laws e vs h)
