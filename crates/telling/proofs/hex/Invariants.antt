use Rattle.std.proofs.Common.{take}
use Rattle.std.specs.List.{flat_map}
use Rattle.std.specs.Io.KnownBytes.{Appends}
use Rattle.telling.specs.Told.{hex_byte}
use Rattle.telling.proofs.hex.Given as goal

abbrev pub invariant-loop-b : goal.invariant-loop-b
invariant-loop-b g l = Appends (g.W.Write.contents l.initial.out) (g.W.Write.contents l.out) (flat_map hex_byte (take l.b-index l.bytes))
