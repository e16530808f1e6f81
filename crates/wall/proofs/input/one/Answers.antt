-- A reading that gives bytes goes on with the tape; one that gives none, or fails, leaves it as it was.
use Rattle.std.proofs.Common.{◌≡◌, ℕ, [], ◌++◌, take, ap, ◌∙◌, arith, rules}
use Rattle.book.specs.State.{lent}
use Rattle.feed.specs.Reading.{standing}
use Rattle.wall.proofs.Pieces.{open_goes, closed_by, none_read, one_more, held_few, behind, nothing_more, none_given}
use Rattle.wall.proofs.input.one.Goals as goal

pub returns-in-Ok : goal.returns-in-Ok
returns-in-Ok g c s before room goes to =
    let r = c.args.tape.reading in
    let now = standing r (lent r.counters c.args.rows.now c.args.lines.now) c.args.piece.now in
    let few = held_few s before now to.stands (open_goes _ _ _ goes to.rest) in
    let from : c.min-from.result ≡ r.held = omega (arith, c.min-from.ensures, few, room) in
    let given = c.in-Ok.ensures in
    let front = behind c.min-from.result _ c.in-Ok.n c.args.piece.now c.read.new.buf (omega (arith, from, few, room)) given.bound.0 in
    record {
      more = take c.in-Ok.n c.read.new.buf;
      gave = given.bytes.0;
      to = record {
        stands =
            one_more s before _ now _ _ _ to.stands (front ∙ ap (λ (m : ℕ). take m c.args.piece.now ++ take c.in-Ok.n c.read.new.buf) from)
            c.play_on.ensures.stands;
        rest = closed_by c.play_on.result.rest c.play_on.result.reading.stop (g.R.Read.remaining c.read.new.self) c.play_on.ensures.rest;
      };
    }

pub returns-in-Ok-eq0 : goal.returns-in-Ok-eq0
returns-in-Ok-eq0 g c s before room goes to =
    let r = c.args.tape.reading in
    let now = standing r (lent r.counters c.args.rows.now c.args.lines.now) c.args.piece.now in
    let few = held_few s before now to.stands (open_goes _ _ _ goes to.rest) in
    let from : c.min-from.result ≡ r.held = omega (arith, c.min-from.ensures, few, room) in
    let given = c.in-Ok-eq0.ensures in
    let none : c.in-Ok-eq0.field-0 ≡ 0 = search rules in
    record {
      more = [];
      gave = none_read (g.R.Read.remaining c.args.input.now) (g.R.Read.remaining c.read.new.self) c.in-Ok-eq0.field-0 c.read.new.buf none given.bytes.0;
      to = record {
        stands = nothing_more s before now _ _ _ from (omega (arith, from, few, room)) to.stands;
        rest = λ h. given.bytes.1 none (search rules);
      };
    }

pub returns-in-Err : goal.returns-in-Err
returns-in-Err g c s before room goes to =
    let r = c.args.tape.reading in
    let now = standing r (lent r.counters c.args.rows.now c.args.lines.now) c.args.piece.now in
    let few = held_few s before now to.stands (open_goes _ _ _ goes to.rest) in
    let from : c.min-from.result ≡ r.held = omega (arith, c.min-from.ensures, few, room) in
    record {
      more = [];
      gave = none_given _ _ c.in-Err.ensures.bytes;
      to = record {
        stands = nothing_more s before now _ _ _ from (omega (arith, from, few, room)) to.stands;
        rest = open_goes _ _ _ goes to.rest;
      };
    }
