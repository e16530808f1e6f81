-- `conditions::entry` is the code's digit of the word that it stands in.
use mathlib.Core.Path.{◌≡◌, refl}
use Prim.Native.Nat.{◌/◌}
use borrow.Author.Rules.{rules}
use Rattle.conditions.specs.Conditions.{entry_of}
use Rattle.conditions.proofs.entry.Goals as goal

pub returns : goal.returns
unfolding entry_of
returns c =
    let place : c.from.result ≡ c.args.code / 16 = search rules in
    simp place refl
