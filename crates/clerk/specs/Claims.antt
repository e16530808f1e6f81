-- What the theorems say of lists: that nothing stands in one twice, which keys were named, which message made a trade that is live,
-- and which messages were used.
-- Assumes nothing.
use Rattle.std.specs.Prelude.{ℕ, zero, suc, ◌≡◌, List, [], ◌∷◌, ◌++◌, map, true, false, cond, eqb}
use Rattle.answers.specs.Answers.{Answer, answer_of}
use Rattle.editions.specs.declared.Edition.{Edition}
use Rattle.message.specs.Reader.{read_of}
use Rattle.lines.specs.declared.Line.{Line}
use Rattle.rows.specs.declared.Listing.{Listing}
use Rattle.clerk.specs.Messages.{makes_in, key_in}
use Rattle.clerk.specs.Clerk.{is_in, Taken, names, origin_of, trade, answer_to, taken_of}
use Rattle.clerk.specs.Arrivals.{upto}

-- no text stands in the list twice
abbrev pub NoRepeat : List (List ℕ) → Type 0
NoRepeat [] = Unit {0}
NoRepeat (k ∷ ks) = (is_in k ks ≡ false) × NoRepeat ks

abbrev pub keys_of : List Line → List (List ℕ)
keys_of ls = map (λ (l : Line). l.key) ls

-- the keys that taken X and C named
unfoldable pub named_in : List Taken → List (List ℕ)
named_in [] = []
named_in (e ∷ es) = names e.message ++ named_in es

-- the key that a message of an edition with that answer named: of an X or a C that was answered 0
abbrev pub names_done : Edition → List ℕ → ℕ → List (List ℕ)
names_done ed m answer = cond (eqb answer 0) (names (read_of ed m).found) []

-- a T or a C among the taken messages made the line, and no later X or C named it. Taken messages have the newest first
pub record MadeLive (es : List Taken) (l : Line) : Type 0 where
  pub later : List Taken
  pub maker : Taken
  pub earlier : List Taken
  pub whole : es ≡ later ++ (maker ∷ earlier)
  pub makes : makes_in maker.message ≡ true
  pub line : l ≡ trade maker (origin_of (maker ∷ earlier) (key_in maker.message)) []
  pub unnamed : is_in (key_in maker.message) (named_in later) ≡ false

-- a message that used up its number, and what was said back
pub record Used : Type 0 where
  pub number : ℕ
  pub message : List ℕ
  pub answer : Answer

-- the n messages after the first j, each answered as the clerk answers it, who knows those before it
unfoldable pub used_after : Edition → (ℕ → List ℕ) → List Listing → ℕ → ℕ → ℕ → List Used
used_after ed day sheet limit j zero = []
used_after ed day sheet limit j (suc n) =
    record {
      number = suc j;
      message = day (suc j);
      answer = answer_of (answer_to ed sheet limit (taken_of ed sheet limit (upto day j)) (day (suc j)));
    }
    ∷ used_after ed day sheet limit (suc j) n
