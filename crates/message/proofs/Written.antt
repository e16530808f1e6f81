-- What the writer says and leaves, by its two tests: the rules of the record, and the room.
-- Assumes nothing.
use mathlib.Core.Path.{◌≡◌, refl, ap, sym, ◌∙◌}
use mathlib.Core.Bool.{true, false}
use mathlib.Core.List.{List}
use mathlib.Core.Option.{Option, none, some}
use Prim.Native.Nat.{ℕ, ◌≤◌, ◌<◌}
use native.Mathlib.Omega.{arith}
use borrow.Author.Tests.{le-leb, lt-leb}
use lib.Dec.{leb}
use lib.ListN.{length}
use lib.Seq.{sets}
use Rattle.octets.proofs.Laws.{sets_front}
use Rattle.editions.specs.declared.Edition.{Edition}
use Rattle.kinds.specs.declared.Kind.{Kind}
use Rattle.kinds.specs.Kinds.{kind_of}
use Rattle.std.specs.Prelude.{Ok, Err}
use Rattle.answers.specs.declared.Refusal.TheVariants.{FieldBroken, NoSpace}
use Rattle.layout.specs.Values.{Sized}
use Rattle.layout.specs.Tables.{Layout}
use Rattle.layout.proofs.Good.{Good, All}
use Rattle.records.specs.declared.Record.{Record}
use Rattle.records.specs.Held.{holds, size_in, bytes_in}
use Rattle.records.proofs.Held.{written_long}
use Rattle.formats.specs.Formats.{letter_place, layout_of, layout_by, length_by, bytes_of}
use Rattle.formats.proofs.Good.{good}
use Rattle.judge.specs.Judged.{lawful_in, lawful_of}
use Rattle.message.specs.Writer.{write_answer, write_out}

long_in : (e : Edition) (o : Option Layout) → All (Good (letter_place e)) o → (r : Record) → Sized (holds r)
    → length (bytes_in o r) ≡ size_in o
long_in e none h r y = refl
long_in e (some l) h r y = written_long l h.tiled r y

-- what is written is as long as its type's messages
pub bytes_length : (e : Edition) (r : Record) → Sized (holds r) → length (bytes_of e r) ≡ length_by e r.letter
unfolding bytes_of length_by
bytes_length e r y = long_in e (layout_by e r.letter) (good e (kind_of r.letter)) r y

-- by the type that a writer has found
module _ (e : Edition) (k : Kind) (r : Record) (out : List ℕ) (q : k ≡ kind_of r.letter) where
  lawful_found : lawful_in (layout_of e k) r ≡ lawful_of e r
  unfolding lawful_of
  lawful_found = ap (λ (j : Kind). lawful_in (layout_of e j) r) q

  long_found : size_in (layout_of e k) ≡ length_by e r.letter
  unfolding length_by
  long_found = ap (λ (j : Kind). size_in (layout_of e j)) q

  bytes_found : bytes_in (layout_of e k) r ≡ bytes_of e r
  unfolding bytes_of
  bytes_found = ap (λ (j : Kind). bytes_in (layout_of e j) r) q

  pub written_done : Sized (holds r) → lawful_in (layout_of e k) r ≡ true → size_in (layout_of e k) ≤ length out
      → ((Ok tt) ≡ write_answer e r out) × (sets out 0 (bytes_in (layout_of e k) r) ≡ write_out e r out)
  unfolding write_answer write_out
  written_done y t h =
      let o : lawful_of e r ≡ true = sym lawful_found ∙ t in
      let n : leb (length_by e r.letter) (length out) ≡ true = le-leb (length_by e r.letter) (length out) (omega (arith, long_found)) in
      let l : length (bytes_of e r) ≡ length_by e r.letter = bytes_length e r y in
      (simp (o, n), ap (sets out 0) bytes_found ∙ simp (o, n) (sets_front (bytes_of e r) out (omega (arith, long_found))))

  pub written_short : lawful_in (layout_of e k) r ≡ true → length out < size_in (layout_of e k)
      → ((Err NoSpace) ≡ write_answer e r out) × (out ≡ write_out e r out)
  unfolding write_answer write_out
  written_short t h =
      let o : lawful_of e r ≡ true = sym lawful_found ∙ t in
      let need = length_by e r.letter in
      let n : leb need (length out) ≡ false = lt-leb need (length out) (omega (arith, long_found)) in
      (simp (o, n) refl, simp (o, n) refl)

  pub written_broken : lawful_in (layout_of e k) r ≡ false → ((Err FieldBroken) ≡ write_answer e r out) × (out ≡ write_out e r out)
  unfolding write_answer write_out
  written_broken t =
      let o : lawful_of e r ≡ false = sym lawful_found ∙ t in
      (simp o, simp o)
