use Rattle.std.proofs.Common.{arith}
use Rattle.std.proofs.lemmas.Fmt.{hex_byte}
use Rattle.std.proofs.lemmas.Grind.{common_steps}
use Rattle.telling.proofs.hex_byte.Goals as goal

pub returns : goal.returns
returns g c = grind (arith, common_steps, hex_byte)
