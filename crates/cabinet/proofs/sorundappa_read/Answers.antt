-- `cabinet::sorundappa_read` meets its contract.
-- Assumes nothing.
use Rattle.std.specs.Prelude.{Option}
use mathlib.Core.Path.{ap, sym, ◌∙◌}
use Rattle.answers.specs.Answers.{number_of}
use Rattle.records.specs.Packed.{record_bytes}
use Rattle.records.proofs.Stores.{no_bytes}
use Rattle.cabinet.specs.Crossing.{read_by}
use borrow.Author.Rules.{rules}
use Rattle.octets.specs.Run.{Bytes}
use Rattle.cabinet.proofs.sorundappa_read.Goals as goal
use Rattle.cabinet.proofs.sorundappa_read.Goals.{After-edition_of}
use Rattle.editions.specs.declared.Edition.{Edition}

-- what a call lends are bytes
pub entered : (c : After-edition_of) → Bytes c.args.message.now
entered c = λ i. search rules

pub returns-in-None : goal.returns-in-None
returns-in-None c = let m = c.args.message.now in
    let e = sym c.in-None.is ∙ c.edition_of.ensures in record { answer = c.told.ensures ∙ ap (λ (n : Option Edition). number_of (read_by n m).answer) e; bytes = sym no_bytes ∙ ap (λ (n : Option Edition). record_bytes (read_by n m).found) e }
