-- `book::judge_listing` meets its contract.
-- Assumes nothing.
use Rattle.std.specs.Prelude.{None, is_some}
use mathlib.Core.Path.{◌≡◌, refl, sym, ◌∙◌}
use mathlib.Core.Bool.{Bool, true, false, ◌&&◌}
use borrow.Author.Tests.{le-leb, lt-leb}
use borrow.Author.Rules.{rules}
use Rattle.book.proofs.Steps.{list_unsound, list_broken, list_late, list_there, list_new}
use Rattle.book.proofs.judge_listing.Goals as goal

-- a test of two parts, the first as it was promised
as_promised : (x y b t : Bool) → x ≡ y → (x && b) ≡ t → (y && b) ≡ t
as_promised x y b t e h = rw e at h

pub returns-then-not-is_sound : goal.returns-then-not-is_sound
returns-then-not-is_sound c = list_unsound _ _ (sym c.is_sound.ensures ∙ c.if-not-is_sound.true)

pub returns-then-not-is_text-l : goal.returns-then-not-is_text-l
returns-then-not-is_text-l c = list_broken _ _ (sym c.is_sound.ensures ∙ c.if-not-is_sound.false)
    (as_promised _ _ _ _ c.is_text.ensures c.if-not-is_text-l.true)

pub returns-then-c-ne1 : goal.returns-then-c-ne1
returns-then-c-ne1 c = list_late _ _ (sym c.is_sound.ensures ∙ c.if-not-is_sound.false)
    (as_promised _ _ _ _ c.is_text.ensures c.if-not-is_text-l.false) c.if-c-ne1.true

pub returns-then-is_some : goal.returns-then-is_some
returns-then-is_some c =
    let there : is_some c.find.result ≡ true = search rules in
    list_there _ _ (sym c.is_sound.ensures ∙ c.if-not-is_sound.false)
    (as_promised _ _ _ _ c.is_text.ensures c.if-not-is_text-l.false) c.if-c-ne1.false _ (sym c.find.ensures) there

pub returns-then-limit-c : goal.returns-then-limit-c
returns-then-limit-c c =
    let none : c.find.result ≡ None = search rules in
    list_new _ _ (sym c.is_sound.ensures ∙ c.if-not-is_sound.false)
    (as_promised _ _ _ _ c.is_text.ensures c.if-not-is_text-l.false) c.if-c-ne1.false
    (sym c.find.ensures ∙ none) true (le-leb _ _ (rw c.limit.ensures at c.if-limit-c.true))

pub returns : goal.returns
returns c =
    let none : c.find.result ≡ None = search rules in
    list_new _ _ (sym c.is_sound.ensures ∙ c.if-not-is_sound.false)
    (as_promised _ _ _ _ c.is_text.ensures c.if-not-is_text-l.false) c.if-c-ne1.false
    (sym c.find.ensures ∙ none) false (lt-leb _ _ (rw c.limit.ensures at c.if-limit-c.false))
