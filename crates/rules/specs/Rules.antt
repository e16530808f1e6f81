-- The field rules, one definition each, in the order of document 01; those that differ between the editions are said of the edition. The
-- rule of a number is a range (`inside`), the rule of a byte or of a text is a test.
-- Assumes nothing.
use Rattle.std.specs.Prelude.{ℕ, List, [], ◌∷◌, Bool}
use Rattle.editions.specs.declared.Edition.{Edition}
use Rattle.editions.specs.declared.Edition.TheVariants.{NlsPlus, Pls}
use Rattle.texts.specs.Text as Texts
use Rattle.conditions.specs.Conditions.{among, condition_marks}
use Rattle.phases.specs.Phases.{events}
use Rattle.layout.specs.Forms.{Range, any, up_to, within}

-- 0 to 86,399,999 milliseconds past midnight
abbrev pub time : Range
time = up_to 86399999

-- one of O S Q M E C
abbrev pub event : ℕ → Bool
event e = among events e

-- NLS Plus: Q (Nasdaq), L (TRF), B (BX), X (PSX); PLS: X
abbrev pub centres : Edition → List ℕ
centres NlsPlus = 81 ∷ 76 ∷ 66 ∷ 88 ∷ []
centres Pls = 88 ∷ []

abbrev pub centre : Edition → ℕ → Bool
centre e c = among (centres e) c

-- NLS Plus: one of Q N A P Z B; PLS: one of Q N A P Z
abbrev pub classes : Edition → List ℕ
classes NlsPlus = 81 ∷ 78 ∷ 65 ∷ 80 ∷ 90 ∷ 66 ∷ []
classes Pls = 81 ∷ 78 ∷ 65 ∷ 80 ∷ 90 ∷ []

abbrev pub class : Edition → ℕ → Bool
class e c = among (classes e) c

-- symbol and control: one or more bytes 33 to 126, then spaces to the end
abbrev pub text : List ℕ → Bool
text xs = Texts.text xs

-- the highest price, in ten-thousandths
abbrev pub price_top : ℕ
price_top = 2000000000

-- a trade's price: 1 to 2,000,000,000 ten-thousandths
abbrev pub trade_price : Range
trade_price = within 1 price_top

-- each of J's three prices: 0 to 2,000,000,000
abbrev pub summary_price : Range
summary_price = up_to price_top

-- NLS Plus: 1 to 4,294,967,295; PLS: 1 to 999,999,999, which nine digits hold
abbrev pub size : Edition → Range
size NlsPlus = within 1 4294967295
size Pls = within 1 999999999

-- any
abbrev pub consolidated : Range
consolidated = any

-- four codes, one from each row of the sale condition sheet
abbrev pub condition : List ℕ → Bool
condition c = (condition_marks c).on_sheet
