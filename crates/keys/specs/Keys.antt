-- The keys of a message's trades, and which line is the trade that a message names.
-- Assumes nothing.
use Rattle.std.specs.Prelude.{ℕ, List, ◌∷◌, Bool, cond, ◌&&◌, eqb}
use Rattle.kinds.specs.declared.Kind.{Kind}
use Rattle.kinds.specs.Kinds.{kind_of, is_correction}
use Rattle.records.specs.declared.Sale.{Sale}
use Rattle.records.specs.declared.Record.{Record}
use Rattle.octets.specs.Run.{same}
use Rattle.lines.specs.declared.Line.{Line}

-- a message's type
abbrev pub kind_in : Record → Kind
kind_in r = kind_of r.letter

-- a key is the centre and the control
abbrev pub key_of : Record → Sale → List ℕ
key_of r s = r.centre ∷ s.control

-- of what stands first in the message: of X and C the original that they name, of T its own trade, whose line gets this key
abbrev pub old_key : Record → List ℕ
old_key r = key_of r r.sale

-- what T and C put in: T its own trade, C what replaces the original
abbrev pub new_sale : Kind → Record → Sale
new_sale kind r = cond (is_correction kind) r.new r.sale

abbrev pub new_key : Kind → Record → List ℕ
new_key kind r = key_of r (new_sale kind r)

-- whether a line is the trade that X and C name: symbol, price, size and condition
unfoldable pub matches : Record → Line → Bool
matches r l =
    same l.symbol r.symbol && eqb l.price r.sale.price && eqb l.size r.sale.size
    && same l.condition r.sale.condition
