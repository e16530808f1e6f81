-- From one table to another: what code that copies and stores amounts to.
-- Assumes nothing.
use Rattle.std.specs.Prelude.{ℕ, List, [], ◌∷◌, ◌++◌, Bool, true, false, cond, ◌&&◌, eqb}
use Rattle.layout.specs.Values.{Field, zero_of, is}
use Rattle.layout.specs.Forms.{Form, byte, big, numeral, chars, writes}
use Rattle.layout.specs.Tables.{Item, at, field_of, offset_of, width_of, form_of, bytes_at, stands}

-- the same bytes serve for both forms; digits are always spelt anew
abbrev pub alike : Form → ℕ → Form → ℕ → Bool
alike (byte p) n (byte q) k = eqb k 1
alike (byte p) n (big q) k = false
alike (byte p) n (numeral d q) k = false
alike (byte p) n (chars q) k = false
alike (big p) n (byte q) k = false
alike (big p) n (big q) k = eqb n k
alike (big p) n (numeral d q) k = false
alike (big p) n (chars q) k = false
alike (numeral d p) n (byte q) k = false
alike (numeral d p) n (big q) k = false
alike (numeral d p) n (numeral c q) k = false
alike (numeral d p) n (chars q) k = false
alike (chars p) n (byte q) k = false
alike (chars p) n (big q) k = false
alike (chars p) n (numeral d q) k = false
alike (chars p) n (chars q) k = true

-- an entry's bytes as another form has them: copied, or spelt anew
abbrev pub moved : Form → ℕ → Item → List ℕ → List ℕ
moved j w e m = cond (alike j w (form_of e) (width_of e)) (bytes_at e m) (writes j w (stands e m))

-- the bytes of a field, in a form and a width, from a message of another table
abbrev pub fetch : List Item → List ℕ → Form → ℕ → Field → List ℕ
fetch [] m j w f = writes j w (zero_of f)
fetch (e ∷ es) m j w f = cond (is f (field_of e)) (moved j w e m) (fetch es m j w f)

-- a message of one table as a message of another
abbrev pub carried : List Item → List Item → List ℕ → List ℕ
carried [] from m = []
carried (e ∷ es) from m = fetch from m (form_of e) (width_of e) (field_of e) ++ carried es from m

-- the bytes of a field where a table has it, and of several, one behind the other
abbrev pub run_of : List Item → List ℕ → Field → List ℕ
run_of [] m f = []
run_of (e ∷ es) m f = cond (is f (field_of e)) (bytes_at e m) (run_of es m f)

abbrev pub runs : List Item → List ℕ → List Field → List ℕ
runs es m [] = []
runs es m (f ∷ fs) = run_of es m f ++ runs es m fs

-- a table in which a field is zero exactly if its bytes are
abbrev pub clear : List Item → Bool
clear [] = true
clear (at f o n (byte p) ∷ es) = eqb n 1 && clear es
clear (at f o n (big p) ∷ es) = clear es
clear (at f o n (numeral d p) ∷ es) = false
clear (at f o n (chars p) ∷ es) = clear es
