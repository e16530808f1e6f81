-- What a row shows as reported, in a book whose edition does not report: no message changes it, whatever state it finds.
-- Assumes nothing.
use Rattle.std.specs.Prelude.{Option, ℕ}
use Prim.Native.Nat.{ℕ}
use mathlib.Core.Path.{◌≡◌, refl, ap, sym, ◌∙◌}
use mathlib.Core.Bool.{Bool, true, false, true≢false}
use mathlib.Core.List.{List}
use borrow.Author.Tests.{eqb-true, eqb-false}
use lib.Dec.{eqb}
use Rattle.answers.specs.Cases.{given, in_book}
use Rattle.editions.specs.Editions.{reports}
use Rattle.show.specs.declared.RowShown.{RowShown}
use Rattle.book.specs.State.{State, Arrival, edition_of, sheet_of, sound_in}
use Rattle.book.specs.Calls.{delivered, row_table, row_answer, shown}
use Rattle.book.proofs.Demand1.{row_told, refused_keeps}
use Rattle.upheld.proofs.EditionStays.{row_keeps_reported, sheet_stays}
use Rattle.clerk.proofs.Steps.{deliver_sound}

module _ (s : State) (a : Arrival) (none : reports (edition_of s) ≡ false) where
  abbrev after : State
  after = (delivered s a).state

  -- a sound book stays sound, and an unsound one stays as it is
  sound_stays : sound_in after ≡ sound_in s
  sound_stays = go (sound_in s) refl
    where
      go : (b : Bool) → sound_in s ≡ b → sound_in after ≡ sound_in s
      go true e = deliver_sound s e a ∙ sym e
      go false e = ap sound_in ((refused_keeps s).unused a (λ h w f. true≢false (sym h ∙ e))).1

  answer_stays : (symbol : List ℕ) → row_answer after symbol ≡ row_answer s symbol
  unfolding row_answer
  answer_stays symbol =
      ap (λ (b : Bool). (given (in_book b (row_table (sheet_of after) symbol))).number) sound_stays
      ∙ ap (λ x. (given (in_book (sound_in s) (row_table x symbol))).number) (sheet_stays s a none)

  -- of each symbol, listed or not
  pub reported_stays : (symbol : List ℕ) → (shown after symbol).row.reported ≡ (shown s symbol).row.reported
  unfolding shown
  reported_stays symbol = go (eqb (row_answer s symbol) 0) refl
    where
      told : RowShown → Option ℕ
      told w = w.reported

      go : (b : Bool) → eqb (row_answer s symbol) 0 ≡ b → (shown after symbol).row.reported ≡ (shown s symbol).row.reported
      go true e =
          let z : row_answer s symbol ≡ 0 = eqb-true (row_answer s symbol) 0 e in
          (row_keeps_reported s a none).reported symbol (row_told s symbol ∙ z) (row_told after symbol ∙ answer_stays symbol ∙ z)
      go false e =
          let n = eqb-false (row_answer s symbol) 0 e in
          ap told ((refused_keeps after).row symbol (λ z. n (sym (row_told after symbol ∙ answer_stays symbol) ∙ z)))
          ∙ sym (ap told ((refused_keeps s).row symbol (λ z. n (sym (row_told s symbol) ∙ z))))
