-- The layouts of an edition: by the type, and by the letter. What is said of messages and of records is said by these, of every edition.
-- Assumes nothing.
use Rattle.std.specs.Prelude.{ℕ, List, get_or}
use Rattle.std.proofs.Math.Option.{Option}
use Rattle.editions.specs.declared.Edition.{Edition}
use Rattle.editions.specs.declared.Edition.TheVariants.{NlsPlus, Pls}
use Rattle.kinds.specs.declared.Kind.{Kind}
use Rattle.kinds.specs.Kinds.{kind_of}
use Rattle.layout.specs.Tables.{Layout}
use Rattle.records.specs.declared.Record.{Record}
use Rattle.records.specs.Held.{size_in, filled_in, bytes_in}
use Rattle.packing.specs.Layouts as Plus
use Rattle.pls.specs.Layouts as Ascii

-- where every layout of an edition has its letter
abbrev pub letter_place : Edition → ℕ
letter_place NlsPlus = Plus.letter_place
letter_place Pls = Ascii.letter_place

-- the layout of a type
abbrev pub layout_of : Edition → Kind → Option Layout
layout_of NlsPlus k = Plus.layout_of k
layout_of Pls k = Ascii.layout_of k

-- those of S, of T and X by their letter, and of C, which every edition has
abbrev pub layout_s : Edition → Layout
layout_s NlsPlus = Plus.layout_s
layout_s Pls = Ascii.layout_s

abbrev pub layout_t : Edition → ℕ → Layout
layout_t NlsPlus k = Plus.layout_t k
layout_t Pls k = Ascii.layout_t k

abbrev pub layout_c : Edition → Layout
layout_c NlsPlus = Plus.layout_c
layout_c Pls = Ascii.layout_c

-- the length of a type's messages; 0 of what is no type of the edition
abbrev pub length_of : Edition → Kind → ℕ
length_of e k = size_in (layout_of e k)

-- ---- by the letter

abbrev pub layout_by : Edition → ℕ → Option Layout
layout_by e k = layout_of e (kind_of k)

-- the letter of a message is the byte at the edition's place
abbrev pub letter_in : Edition → List ℕ → ℕ
letter_in e m = get_or m (letter_place e) 0

-- the layout of a message
abbrev pub layout_for : Edition → List ℕ → Option Layout
layout_for e m = layout_by e (letter_in e m)

-- the length of the messages that bear a letter
unfoldable pub length_by : Edition → ℕ → ℕ
length_by e k = size_in (layout_by e k)

-- the record that a message fills, before any rule is asked
unfoldable pub fields_of : Edition → List ℕ → Record
fields_of e m = filled_in (layout_for e m) m

-- the message of a record
unfoldable pub bytes_of : Edition → Record → List ℕ
bytes_of e r = bytes_in (layout_by e r.letter) r
