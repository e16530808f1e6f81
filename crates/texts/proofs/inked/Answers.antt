-- `texts::inked` meets its contract.
-- Assumes nothing.
use mathlib.Core.Path.{◌∙◌}
use borrow.Author.Rules.{rules}
use Rattle.std.proofs.Common.{tests}
use Rattle.std.proofs.lemmas.Iterator.{YieldsList-from_slice}
use Rattle.std.proofs.lemmas.Iterator.Consumers.{count_from_yields_List, YieldsList-at}
use Rattle.std.proofs.lemmas.Iterator.Search.{YieldsList-from_take_while}
use Rattle.std.proofs.lemmas.List.Folds.{length-prefix_len}
use Rattle.texts.specs.Text.{ink}
use Rattle.texts.proofs.Laws.{head_is}
use Rattle.texts.proofs.inked.Goals as goal

pub returns : goal.returns
returns c = let s = c.args.s.now in
    let t = c.take_while.ensures in
    count_from_yields_List _ _ c.count.ensures.ran
    (YieldsList-from_take_while _ ink (YieldsList-at t.source (YieldsList-from_slice s cc)) t.closure t.done
    (λ x b q k. search (rules, tests)))
    ∙ length-prefix_len ink s
    ∙ head_is s
