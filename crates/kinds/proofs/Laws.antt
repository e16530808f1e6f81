-- What holds of every type, computed over the list of all.
-- Assumes nothing.
use mathlib.Core.Path.{◌≡◌, refl, sym, ap, subst, ◌∙◌}
use mathlib.Core.Bool.{Bool, true, false, not, ◌&&◌, ◌||◌, true≢false, and-eq-true_iff}
use mathlib.Core.List.{List, [], ◌∷◌}
use Prim.Native.Nat.{ℕ, zero, suc}
use lib.ListN.{get_or}
use mathlib.Core.Logic.{◌⊎◌, inl, inr}
use denote.Enum.Declared.{tag_of}
use Rattle.kinds.specs.contracts.Kind.{the_type}
use Rattle.kinds.specs.declared.Kind.{Kind}
use Rattle.kinds.specs.declared.Kind.TheVariants.{Event, Trade, Cancel, Correction, Summary, Other}
use Rattle.kinds.specs.Kinds.{all_kinds, is_event, is_summary, names_old, makes_new, sets_volume}

-- a test passes for each of these types
abbrev pub passes : (Kind → Bool) → List Kind → Bool
passes test [] = true
passes test (k ∷ ks) = test k && passes test ks

-- then it passes for the one at any place; `Other` stands at all others
passes_at : (test : Kind → Bool) (ks : List Kind) (i : ℕ) → passes test ks ≡ true → test Other ≡ true → test (get_or ks i Other) ≡ true
passes_at test [] i h o = o
passes_at test (k ∷ ks) zero h o = ((and-eq-true_iff (test k) (passes test ks)).0 h).0
passes_at test (k ∷ ks) (suc i) h o = passes_at test ks i ((and-eq-true_iff (test k) (passes test ks)).0 h).1 o

-- what passes for each type of the list and for `Other` passes for any: each has its place in the list
pub every : (test : Kind → Bool) → passes test all_kinds ≡ true → test Other ≡ true → (k : Kind) → test k ≡ true
every test h o Event = passes_at test all_kinds 0 h o
every test h o Trade = passes_at test all_kinds 1 h o
every test h o Cancel = passes_at test all_kinds 2 h o
every test h o Correction = passes_at test all_kinds 3 h o
every test h o Summary = passes_at test all_kinds 4 h o
every test h o Other = o

-- ---- traits of one type

-- of two tests of which one fails, the second fails where the first passes
apart : (a b : Bool) → not (a && b) ≡ true → a ≡ true → b ≡ false
apart true true h e = absurd (true≢false (sym h))
apart true false h e = refl
apart false b h e = absurd (true≢false (sym e))

follows : (a b : Bool) → (not a || b) ≡ true → a ≡ true → b ≡ true
follows true b h e = h
follows false b h e = absurd (true≢false (sym e))

module _ (k : Kind) where
  -- an event names no original, makes no line, sets no volume and is no summary
  pub event_names : is_event k ≡ true → names_old k ≡ false
  event_names = apart (is_event k) (names_old k) (every (λ k. not (is_event k && names_old k)) refl refl k)

  pub event_makes : is_event k ≡ true → makes_new k ≡ false
  event_makes = apart (is_event k) (makes_new k) (every (λ k. not (is_event k && makes_new k)) refl refl k)

  pub event_sets : is_event k ≡ true → sets_volume k ≡ false
  event_sets = apart (is_event k) (sets_volume k) (every (λ k. not (is_event k && sets_volume k)) refl refl k)

  pub event_summary : is_event k ≡ true → is_summary k ≡ false
  event_summary = apart (is_event k) (is_summary k) (every (λ k. not (is_event k && is_summary k)) refl refl k)

  pub names_event : names_old k ≡ true → is_event k ≡ false
  names_event = apart (names_old k) (is_event k) (every (λ k. not (names_old k && is_event k)) refl refl k)

  pub sets_event : sets_volume k ≡ true → is_event k ≡ false
  sets_event = apart (sets_volume k) (is_event k) (every (λ k. not (sets_volume k && is_event k)) refl refl k)

  -- a summary sets the volume
  pub summary_sets : is_summary k ≡ true → sets_volume k ≡ true
  summary_sets = follows (is_summary k) (sets_volume k) (every (λ k. not (is_summary k) || sets_volume k) refl refl k)

-- ---- a type of which a `match` knows that it is one of two

-- the compiler numbers the types in the order of the list
placed : (k : Kind) → get_or all_kinds (tag_of the_type k) Other ≡ k
placed Event = refl
placed Trade = refl
placed Cancel = refl
placed Correction = refl
placed Summary = refl
placed Other = refl

-- what holds of the types at two places holds of a type that stands at one of them
pub one_of_two : (P : Kind → Type 0) (i j : ℕ) (k : Kind) → (tag_of the_type k ≡ i) ⊎ (tag_of the_type k ≡ j) → P (get_or all_kinds i Other)
    → P (get_or all_kinds j Other) → P k
one_of_two P i j k (inl e) p q = subst P (ap (λ (n : ℕ). get_or all_kinds n Other) (sym e) ∙ placed k) p
one_of_two P i j k (inr e) p q = subst P (ap (λ (n : ℕ). get_or all_kinds n Other) (sym e) ∙ placed k) q
