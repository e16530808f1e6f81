-- The rules of each type's fields, whatever the edition, as the code asks them.
-- Assumes nothing.
use mathlib.Core.Path.{◌≡◌, refl, sym}
use mathlib.Core.Bool.{◌&&◌, and-true}
use Prim.Native.Nat.{ℕ}
use Rattle.editions.specs.declared.Edition.{Edition}
use Rattle.editions.specs.declared.Edition.TheVariants.{NlsPlus, Pls}
use Rattle.kinds.specs.declared.Kind.TheVariants.{Trade, Cancel}
use Rattle.layout.specs.Forms.{inside}
use Rattle.layout.specs.Tables.{the, kept_by}
use Rattle.records.specs.declared.Record.{Record}
use Rattle.records.specs.Held.{holds, kept}
use Rattle.rules.specs.Rules as Rules
use Rattle.packing.specs.Layouts as Plus
use Rattle.pls.specs.Layouts as Ascii
use Rattle.formats.specs.Formats.{layout_s, layout_t, layout_c, layout_of}
use Rattle.judge.specs.Judged.{kept_in, sale_rules, trade_rules}

pub s_rules : (e : Edition) (r : Record)
    → inside Rules.time r.time && the 83 r.letter && Rules.event r.event ≡ kept (layout_s e) r
unfolding kept_by holds Plus.layout_s Ascii.layout_s
s_rules NlsPlus r = refl
s_rules Pls r = refl

t_rules : (e : Edition) (k : ℕ) (r : Record) → trade_rules e k r ≡ kept (layout_t e k) r
unfolding kept_by holds trade_rules sale_rules Plus.layout_t Ascii.layout_t
t_rules NlsPlus k r = sym (and-true _)
t_rules Pls k r = refl

pub c_rules : (e : Edition) (r : Record)
    → sale_rules e (trade_rules e 67 r) r.new.control r.new.price r.new.size r.new.condition ≡ kept (layout_c e) r
unfolding kept_by holds trade_rules sale_rules Plus.layout_c Ascii.layout_c
c_rules NlsPlus r = sym (and-true _)
c_rules Pls r = refl

-- those of a T and of an X, each by its type
pub t_kept : (e : Edition) (r : Record) → trade_rules e 84 r ≡ kept_in (layout_of e Trade) r
t_kept NlsPlus r = t_rules NlsPlus 84 r
t_kept Pls r = t_rules Pls 84 r

pub x_kept : (e : Edition) (r : Record) → trade_rules e 88 r ≡ kept_in (layout_of e Cancel) r
x_kept NlsPlus r = t_rules NlsPlus 88 r
x_kept Pls r = t_rules Pls 88 r
