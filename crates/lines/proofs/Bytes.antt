-- A room of bytes stays one where a line of bytes is stored or a line is made dead.
-- Assumes nothing.
use Prim.Native.Nat.{ℕ, ◌+◌, ◌*◌, ◌<◌}
use mathlib.Core.List.{List, []}
use lib.Dec.{ltb, lit<}
use lib.ListN.{length}
use Rattle.octets.specs.Run.{Bytes}
use Rattle.octets.proofs.Bytes.{either_way, none_bytes, cons_bytes, append_bytes, set_bytes, sets_bytes}
use Rattle.numbers.specs.Number.{digits}
use Rattle.numbers.proofs.Bytes.{digits_bytes}
use Rattle.lines.specs.Cell.{line_cell, at_live}
use Rattle.lines.specs.declared.Line.{Line}
use Rattle.lines.specs.Lines.{line_limit, line_bytes, mark, with_line, with_dead}

pub line_bytes_lem : (l : Line) → Bytes l.key → Bytes l.symbol → Bytes l.condition → Bytes (line_bytes l)
unfolding line_bytes
line_bytes_lem l k s c =
    append_bytes l.key _ k
    (append_bytes l.symbol _ s
    (append_bytes (digits 4 l.price) _ (digits_bytes 4 l.price)
    (append_bytes (digits 4 l.size) _ (digits_bytes 4 l.size)
    (append_bytes l.condition _ c
    (append_bytes (digits 4 l.place) _ (digits_bytes 4 l.place)
    (append_bytes (digits 4 l.time) _ (digits_bytes 4 l.time)
    (cons_bytes (mark l.live) [] (either_way (λ (x : ℕ). x < 256) l.live 1 0 (lit< tt) (lit< tt)) none_bytes)))))))

pub with_line_bytes : (m : List ℕ) (i : ℕ) (l : Line) → Bytes m → Bytes (line_bytes l) → Bytes (with_line m i l)
unfolding with_line
with_line_bytes m i l b h = either_way Bytes (ltb i (line_limit (length m))) _ m (sets_bytes (line_bytes l) m (i * line_cell) h b) b

pub with_dead_bytes : (m : List ℕ) (i : ℕ) → Bytes m → Bytes (with_dead m i)
unfolding with_dead
with_dead_bytes m i b = either_way Bytes (ltb i (line_limit (length m))) _ m (set_bytes m (i * line_cell + at_live) 0 (lit< tt) b) b
