-- At first nothing is read.
use Rattle.std.proofs.Common.{[], rules}
use Rattle.std.proofs.KnownBytes.{Consumes-nil}
use Rattle.wall.proofs.Pieces.{at_first, begun_open}
use Rattle.wall.proofs.input.all.Goals as goal

pub loop-init : goal.loop-init
loop-init g c = (
  search rules,
  record {
    more = [];
    gave = Consumes-nil (g.R.Read.remaining c.args.input.now);
    to = record {
      stands = at_first c.begin.result c.args.rows.now c.args.lines.now _ c.begin.ensures;
      rest = begun_open c.begin.result c.begin.ensures;
    };
  },
)
