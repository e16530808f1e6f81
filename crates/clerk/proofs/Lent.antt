-- Lent bytes are bytes after a call too.
-- Assumes nothing.
use Prim.Native.Nat.{ℕ}
use mathlib.Core.List.{List}
use mathlib.Core.Bool.{cond}
use lib.Dec.{eqb}
use Rattle.octets.specs.Run.{Bytes}
use Rattle.octets.proofs.Bytes.{either_way, cons_bytes}
use Rattle.records.specs.declared.Record.{Record}
use Rattle.kinds.specs.declared.Kind.{Kind}
use Rattle.kinds.specs.Kinds.{is_correction, names_old, makes_new}
use Rattle.message.proofs.Fitting.{RecordBytes, read_bytes}
use Rattle.lines.specs.declared.Line.{Line}
use Rattle.lines.specs.Lines.{line_bytes, line_in, with_line, with_dead}
use Rattle.lines.proofs.Bytes.{line_bytes_lem, with_line_bytes, with_dead_bytes}
use Rattle.keys.specs.Keys.{kind_in}
use Rattle.take.specs.Taking.{made_line, corrected_line, corrected, lines_by}
use Rattle.book.specs.State.{State, Arrival, edition_of, wanted_in}
use Rattle.book.specs.Calls.{reading_in, message_given, line_named, taking, spent, delivered}

-- ---- what is stored

module _ (r : Record) (h : RecordBytes r) where
  made_bytes : (n : ℕ) → Bytes (line_bytes (made_line n r))
  made_bytes n =
      line_bytes_lem (made_line n r) (cons_bytes r.centre r.sale.control h.centre h.sale.control) h.symbol h.sale.condition

  corrected_bytes : (l : Line) → Bytes (line_bytes (corrected_line l r))
  corrected_bytes l =
      line_bytes_lem (corrected_line l r) (cons_bytes r.centre r.new.control h.centre h.new.control) h.symbol
      h.new.condition

  lines_bytes : (kind : Kind) (m : List ℕ) (used n k : ℕ) → Bytes m → Bytes (lines_by kind m used n r k)
  unfolding lines_by
  lines_bytes kind m used n k b =
      either_way Bytes (is_correction kind) (corrected m used r k) _
      (with_line_bytes (with_dead m k) used (corrected_line (line_in m k) r) (with_dead_bytes m k b) (corrected_bytes (line_in m k)))
      (either_way Bytes (names_old kind) (with_dead m k) _ (with_dead_bytes m k b)
      (either_way Bytes (makes_new kind) (with_line m used (made_line n r)) m (with_line_bytes m used (made_line n r) b (made_bytes n)) b))

-- the lent lines are bytes after a delivery, if they and the message were before
pub deliver_bytes : (s : State) (a : Arrival) → Bytes s.lines → Bytes a.message → Bytes (delivered s a).state.lines
unfolding delivered
deliver_bytes s a bl bm =
    let r = (reading_in s a.message).found in
    let P : State → Type 0 = λ t. Bytes t.lines in
    either_way P (eqb (message_given s a).number 0) (taking s r) (cond (message_given s a).uses (spent s) s)
    (lines_bytes r (read_bytes (edition_of s) a.message bm) (kind_in r) s.lines s.counters.lines (wanted_in s) (line_named s r) bl)
    (either_way P (message_given s a).uses (spent s) s bl bl)
