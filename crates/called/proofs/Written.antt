-- Of any call of `sorundappa_write`, as its contract tells, whatever eighty bytes and whatever space it is lent: where it answers 0 the
-- message is read back as the record that those bytes are and each field of it stands at its place; the bytes past the message stay, and
-- where it answers otherwise every byte does. And of a reading whose record is then written, by one edition: the record always comes back.
-- Assumes nothing.
use Rattle.std.specs.Prelude.{None, Option, Some}
use Prim.Native.Nat.{ℕ, ◌≤◌}
use mathlib.Core.Path.{◌≡◌, refl, ap, sym, subst, ◌∙◌}
use mathlib.Core.Bool.{Bool, true, false}
use mathlib.Core.List.{List, ◌++◌}
use borrow.Author.Tests.{eqb-true, eqb-false}
use lib.Dec.{eqb}
use lib.ListN.{length, take, drop}
use Rattle.octets.specs.Run.{Bytes}
use Rattle.answers.specs.Answers.{number_of}
use Rattle.editions.specs.declared.Edition.{Edition}
use Rattle.editions.specs.declared.Edition.TheVariants.{NlsPlus}
use Rattle.editions.specs.Editions.{edition_named}
use Rattle.layout.specs.Tables.{field_of, stands, Each}
use Rattle.records.specs.declared.Record.{Record}
use Rattle.records.specs.Held.{holds}
use Rattle.records.specs.Packed.{record_of, record_bytes}
use Rattle.records.proofs.Again.{record_again}
use Rattle.formats.specs.Formats.{length_by}
use Rattle.message.specs.Reader.{accepted_of, read_of}
use Rattle.message.specs.Writer.{write_answer, write_out}
use Rattle.message.specs.Obeying.{Obeys, Lawful}
use Rattle.message.proofs.Fitting.{read_fits}
use Rattle.layouts.proofs.Demand2 as Layouts
use Rattle.layouts.proofs.Demand2.{write_exactly, long_is}
use Rattle.layouts.proofs.Trips.{ComesBack, BytesBack, read_then_written, read_again_exactly, read_again}
use Rattle.cabinet.specs.Crossing.{read_by, write_answer_by, write_out_by}
use Rattle.called.proofs.Given.{ReadLfts, ReadArgs, ReadExit, read_edition, read_message, read_left}
use Rattle.called.proofs.Given.{WriteLfts, WriteArgs, WriteExit, write_edition, write_given, write_from, write_left}
use Rattle.cabinet.proofs.sorundappa_read.Reads as read-reads
use Rattle.cabinet.proofs.sorundappa_write.Reads as write-reads

module _ (κs : WriteLfts) (a : WriteArgs κs) (r : ℕ) (x : WriteExit κs) (h : write-reads.Learnt κs a r x) where
  -- the record that the eighty bytes are, and the space before the call and after it
  abbrev meant : Record
  meant = record_of (write_given κs a)

  abbrev before : List ℕ
  before = write_from κs a

  abbrev after : List ℕ
  after = write_left κs x

  -- ---- by an edition

  module _ (e : Edition) (q : edition_named (write_edition κs a) ≡ Some e) where
    said : r ≡ number_of (write_answer e meant before)
    said = h.0 ∙ ap (λ (n : Option Edition). number_of (write_answer_by n meant before)) q

    left : after ≡ write_out e meant before
    left = h.1.0 ∙ ap (λ (n : Option Edition). write_out_by n meant before) q

    -- how many bytes a message of the record's letter has; what is no type has none
    abbrev long : ℕ
    long = length_by e meant.letter

    -- answered 0: the record keeps the rules of its type, and there is room
    lawful : r ≡ 0 → (w : Lawful e meant) × (w.type.size ≤ length before)
    lawful z = (write_exactly e meant before).zero.0 (sym said ∙ z)

    stays : (r ≡ 0 → ⊥) → after ≡ before
    stays n = left ∙ (write_exactly e meant before).stays (λ z. n (said ∙ z))

    -- whatever it answers, the bytes past the message stay
    pub past : drop long after ≡ drop long before
    past = go (eqb r 0) refl
      where
        go : (t : Bool) → eqb r 0 ≡ t → drop long after ≡ drop long before
        go true t =
            let w = (lawful (eqb-true r 0 t)).0 in
            let p = (write_exactly e meant before).past h.1.1 w in
            ap (drop long) left
            ∙ subst (λ (n : ℕ). drop n (write_out e meant before) ≡ drop n before) (sym (long_is e meant w)) p
        go false t = ap (drop long) (stays (eqb-false r 0 t))

    -- answered 0: the message that then stands at the front is read as the record
    pub write_again : r ≡ 0 → read_of e (take long after) ≡ accepted_of meant
    write_again z =
        let w = lawful z in
        let p = Layouts.write_again e meant before h.1.1 w.0 w.1 in
        ap (λ (out : List ℕ). read_of e (take long out)) left
        ∙ subst (λ (n : ℕ). read_of e (take n (write_out e meant before)) ≡ accepted_of meant) (sym (long_is e meant w.0)) p

    -- and it obeys its layout, each field of it standing for what the record holds
    pub written_stands : r ≡ 0
        → (o : Obeys e (take long after)) × Each (λ i. holds meant (field_of i) ≡ stands i (take long after)) o.type.entries
    written_stands z =
        let w = lawful z in
        let stood : List ℕ → Type 0
        = λ m. (o : Obeys e m) × Each (λ i. holds meant (field_of i) ≡ stands i m) o.type.entries in
        let p = Layouts.written_stands e meant before h.1.1 w.0 w.1 in
        subst (λ (out : List ℕ). stood (take long out)) (sym left)
        (subst (λ (n : ℕ). stood (take n (write_out e meant before))) (sym (long_is e meant w.0)) p)

  -- ---- by any number: answered otherwise than 0, every byte stays

  pub kept : (r ≡ 0 → ⊥) → after ≡ before
  kept n = go (edition_named (write_edition κs a)) refl
    where
      go : (m : Option Edition) → edition_named (write_edition κs a) ≡ m → after ≡ before
      go (Some e) q = stays e q n
      go None q = h.1.0 ∙ ap (λ (m : Option Edition). write_out_by m meant before) q

-- ---- there and back, of calls

-- a message was read by an edition, and by the same edition the eighty bytes of its record were written into a room where it fits
module _ (e : Edition) (κs : ReadLfts) (κs' : WriteLfts) (a : ReadArgs κs) (b : WriteArgs κs') (r : ℕ) (s : ReadExit κs) (w : ℕ)
    (x : WriteExit κs') (h : read-reads.Learnt κs a r s) (k : write-reads.Learnt κs' b w x)
    (by : edition_named (read_edition κs a) ≡ Some e) (also : edition_named (write_edition κs' b) ≡ Some e)
    (same : write_given κs' b ≡ read_left κs s) (m : Bytes (read_message κs a)) (z : r ≡ 0)
    (room : length (read_message κs a) ≤ length (write_from κs' b)) where
  abbrev message : List ℕ
  message = read_message κs a

  abbrev out : List ℕ
  out = write_from κs' b

  abbrev found : Record
  found = (read_of e message).found

  done : number_of (read_of e message).answer ≡ 0
  done = ap (λ (n : Option Edition). number_of (read_by n message).answer) (sym by) ∙ sym h.0 ∙ z

  -- the record that is written is the one that was read
  carried : record_of (write_given κs' b) ≡ found
  carried =
      ap record_of (same ∙ h.1 ∙ ap (λ (n : Option Edition). record_bytes (read_by n message).found) by)
      ∙ record_again found (read_fits e message m)

  told : w ≡ number_of (write_answer e found out)
  told = said κs' b w x k e also ∙ ap (λ (o : Record). number_of (write_answer e o out)) carried

  stored : write_left κs' x ≡ write_out e found out
  stored = left κs' b w x k e also ∙ ap (λ (o : Record). write_out e o out) carried

  -- the record comes back, in a message of the same length that is equal outside the numbers in digits; the bytes past it stay
  pub record_back : (w ≡ 0) × ComesBack e message out (write_answer e found out) (write_left κs' x)
  record_back =
      let c = read_then_written e message out m done room in
      (told ∙ c.answered, subst (ComesBack e message out (write_answer e found out)) (sym stored) c)

  -- the same bytes come back exactly if every number in digits is in our form
  pub bytes_back : BytesBack e message out (write_left κs' x)
  bytes_back = subst (BytesBack e message out) (sym stored) (read_again_exactly e message out m done room)

-- by NLS Plus the same bytes always come back
pub written_back : (κs : ReadLfts) (κs' : WriteLfts) (a : ReadArgs κs) (b : WriteArgs κs') (r : ℕ) (s : ReadExit κs) (w : ℕ)
    (x : WriteExit κs') → read-reads.Learnt κs a r s → write-reads.Learnt κs' b w x
    → edition_named (read_edition κs a) ≡ Some NlsPlus → edition_named (write_edition κs' b) ≡ Some NlsPlus
    → write_given κs' b ≡ read_left κs s → Bytes (read_message κs a) → r ≡ 0 → length (read_message κs a) ≤ length (write_from κs' b)
    → (w ≡ 0) × (write_left κs' x ≡ read_message κs a ++ drop (length (read_message κs a)) (write_from κs' b))
written_back κs κs' a b r s w x h k by also same m z room =
    let d = done NlsPlus κs κs' a b r s w x h k by also same m z room in
    let g = read_again (read_message κs a) (write_from κs' b) m d room in (
      (record_back NlsPlus κs κs' a b r s w x h k by also same m z room).0,
      stored NlsPlus κs κs' a b r s w x h k by also same m z room ∙ g.1,
    )
