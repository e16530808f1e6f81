-- What the type of a net change allows.
-- Assumes nothing.
use Rattle.std.specs.Prelude.{◌^◌, ◌<◌, None, Option, Some, ℤ}
use Rattle.std.specs.Int.Signed.{mag}

-- 64 signed bits: n and -(n + 1) for n below 2 ^ 63
abbrev pub NetFits : Option ℤ → Type 0
NetFits None = Unit
NetFits (Some z) = mag z < 2 ^ 63
