-- What writing a record by an edition says and leaves.
-- Assumes nothing.
use Rattle.std.specs.Prelude.{ℕ, List, ◌++◌, cond, leb, length, drop}
use Rattle.answers.specs.Answers.{Answer, answer_of}
use Rattle.editions.specs.declared.Edition.{Edition}
use Rattle.records.specs.declared.Record.{Record}
use Rattle.formats.specs.Formats.{length_by, bytes_of}
use Rattle.judge.specs.Judged.{lawful_of}

-- what writing a record into lent bytes answers: a broken rule goes before a short space
unfoldable pub write_answer : Edition → Record → List ℕ → Answer
write_answer e r out = answer_of (cond (lawful_of e r) (cond (leb (length_by e r.letter) (length out)) 0 18) 5)

-- what the lent bytes are then: the message and the rest as it was, or all as it was
unfoldable pub write_out : Edition → Record → List ℕ → List ℕ
write_out e r out =
    cond (lawful_of e r)
    (cond (leb (length_by e r.letter) (length out)) (bytes_of e r ++ drop (length (bytes_of e r)) out) out)
    out
