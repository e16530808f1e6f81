-- `words::counters` meets its contract.
-- Assumes nothing.
use Rattle.std.specs.Prelude.{Option, None}
use mathlib.Core.Path.{◌≡◌, ap, sym, ◌∙◌}
use lib.ListN.{length}
use borrow.Author.Rules.{rules}
use Rattle.editions.specs.declared.Edition.{Edition}
use Rattle.words.specs.Words.{counter_count, counter_words, meant_for, counters_of}
use Rattle.words.proofs.counters.Goals as goal

pub returns-in_err-edition : goal.returns-in_err-edition
unfolding counters_of counter_words
returns-in_err-edition c =
    let none : c.from_residual.result ≡ None = search rules in
    let counted : length c.args.w ≡ counter_count = search rules in
    record {
      counters = none ∙ ap (λ (n : Option Edition). meant_for n c.args.w) (sym c.in_err-edition.was ∙ c.edition_of.ensures);
      count = counted;
    }

pub returns : goal.returns
unfolding counters_of counter_words
returns c =
    let counted : length c.args.w ≡ counter_count = search rules in
    record {
      counters = ap (λ (n : Option Edition). meant_for n c.args.w) (sym c.in_ok-edition.was ∙ c.edition_of.ensures);
      count = counted;
    }
