-- `message::found` meets its contract.
-- Assumes nothing.
use mathlib.Core.Path.{◌≡◌, ap, sym, ◌∙◌}
use Rattle.records.specs.Packed.{record_of}
use Rattle.records.specs.Zeros.{no_record}
use Rattle.records.proofs.Again.{record_again}
use Rattle.records.proofs.Fitting.{no_record_fits}
use Rattle.records.proofs.Stores.{no_bytes}
use Rattle.message.specs.Reader.{Reading, reading_of}
use Rattle.message.proofs.found.Goals as goal

pub returns-in-Err : goal.returns-in-Err
returns-in-Err c =
    c.«record».ensures ∙ ap record_of (sym no_bytes) ∙ record_again no_record no_record_fits
    ∙ ap (λ x. (reading_of x).found) (sym c.in-Err.is)
