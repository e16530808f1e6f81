-- What was written is the wall of all that the reader gave.
use Rattle.std.proofs.Common.{◌≤◌, ℕ, length, sym, ◌∙◌, subst, rules, refl}
use Rattle.std.specs.Io.KnownBytes.{Appends}
use Rattle.rows.specs.Rows.{row_limit}
use Rattle.book.specs.State.{lent}
use Rattle.wall.proofs.Walls.{read_wall, on_ok}
use Rattle.wall.proofs.day.play.Goals as goal

pub returns-in-Closed : goal.returns-in-Closed
returns-in-Closed g c =
    let t = c.all-rest.ensures in
    let r = c.all-rest.result.reading in
    let rows = c.all-rest.new.rows in
    record {
      tape = t.tape;
      gave = t.gave;
      stop = t.stop;
      rest = t.rest;
      closed = λ _. c.in-Closed.is;
      wall = λ limit written short.
          let room : row_limit (length rows) ≤ 64 = subst (λ (n : ℕ). row_limit n ≤ 64) (search rules) limit in
          subst (Appends (g.W.Write.contents c.args.out.now) (g.W.Write.contents c.print.new.out))
          (read_wall c.args.rows.now c.args.lines.now t.tape (lent r.counters rows c.all-rest.new.lines) r.stop r.at t.state t.at t.stop short)
          (on_ok c.print.result _ (sym c.is_ok-written.ensures.value ∙ written) (c.print.ensures room));
      none = λ h. absurd (h c.in-Closed.is);
    }

pub returns-in_default : goal.returns-in_default
returns-in_default g c =
    let t = c.all-rest.ensures in
    record {
      tape = t.tape;
      gave = t.gave;
      stop = t.stop;
      rest = t.rest;
      closed = λ e. search rules;
      wall = λ limit written short. search rules;
      none = λ h. refl;
    }
