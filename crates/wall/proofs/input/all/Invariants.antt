-- What the reader gave so far is played, and the piece keeps its room.
use Rattle.std.proofs.Common.{◌<◌, [], length}
use Rattle.editions.specs.declared.Edition.TheVariants.{NlsPlus}
use Rattle.counters.specs.Counting.{fresh_counters}
use Rattle.book.specs.State.{lent}
use Rattle.feed.specs.Reading.{standing}
use Rattle.wall.specs.Reads.{ReadMore}
use Rattle.wall.proofs.input.all.Given as goal

abbrev pub invariant-loop : goal.invariant-loop
invariant-loop g l =
    (71 < length l.piece)
    × ReadMore (lent (fresh_counters NlsPlus) l.initial.rows l.initial.lines) [] (g.R.Read.remaining l.initial.input) (g.R.Read.remaining l.input)
    l.tape.rest (standing l.tape.reading (lent l.tape.reading.counters l.rows l.lines) l.piece)
