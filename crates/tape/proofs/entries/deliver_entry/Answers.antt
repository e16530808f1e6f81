-- `tape::entries::deliver_entry` meets its contract.
-- Assumes nothing.
use mathlib.Core.Path.{◌≡◌, ◌∙◌}
use borrow.Author.Rules.{rules}
use Rattle.tape.proofs.Plays.{message_acted}
use Rattle.tape.proofs.entries.deliver_entry.Goals as goal

pub returns : goal.returns
returns c =
    let number : c.from-number.result ≡ c.number.result = search rules in
    message_acted _ _ _ (number ∙ c.number.ensures) _ c.deliver.ensures
