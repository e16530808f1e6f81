-- The text is the wall, and all of it is put out.
use Rattle.std.proofs.Common.{List, ℕ, OnOk, subst}
use Rattle.std.specs.Io.KnownBytes.{Appends}
use Rattle.book.specs.State.{lent}
use Rattle.page.specs.Page.{ending_at}
use Rattle.wall.proofs.Walls.{whole}
use Rattle.wall.proofs.paper.print.Goals as goal

pub returns : goal.returns
returns g c limit =
    let r = c.args.reading in
    let w = c.write-n.ensures in
    let text =
    whole (lent r.counters c.args.rows.now c.args.lines.now) c.ended-ending.result (ending_at r.stop r.at) c.space-text.result
    c.write-n.new.out c.write-n.result w.types c.ended-ending.ensures limit c.space-text.ensures w.bytes w.count in
    subst
    (λ (bs : List ℕ). OnOk c.put.result (Appends (g.W.Write.contents c.args.out.now) (g.W.Write.contents c.put.new.out) bs)) text
    c.put.ensures
