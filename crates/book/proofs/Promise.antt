-- The arguments of each call by name, and that each public function's contract leaves one possible answer and one possible content for
-- each lent byte. `Learnt` is that contract as the compiler hands it to a caller: of the arguments, of the result, and of the arguments
-- again as the call returns.
-- Assumes nothing.
use mathlib.Core.Path.{◌≡◌, refl, ap, sym, ◌∙◌}
use mathlib.Core.List.{List, []}
use Prim.Native.Nat.{ℕ, zero, suc}
use Rattle.editions.specs.declared.Edition.{Edition}
use Rattle.counters.specs.declared.Counters.{Counters}
use Rattle.book.specs.declared.Said.{Said}
use Rattle.std.specs.Prelude.{Result, Ok, Err}
use Rattle.answers.specs.declared.Refusal.{Refusal}
use Rattle.show.specs.declared.RowShown.{RowShown}
use Rattle.answers.specs.Answers.{Answer}
use Rattle.answers.proofs.Promise.{one_number_each}
use Rattle.rows.specs.declared.Listing.{Listing}
use Rattle.book.specs.State.{State, lent, Outcome, leaving, Arrival, arrives}
use Rattle.book.specs.Calls.{Shown, listed, delivered, row_told, shown}
use contract.Lifetimes.{Lfts}
use borrow.Fn.World.{ArgsD}
use borrow.Fn.Kinds.{ended_of}
use denote.Triple.Clauses.{AtExit}
use denote.Ref.{Bor}
use denote.MutBor.{MutBor}
use Rattle.book.proofs.fresh.Reads as fresh-reads
use Rattle.book.specs.contracts.list as list
use Rattle.book.proofs.list.Reads as list-reads
use Rattle.book.proofs.list.Kinds as list-kinds
use Rattle.book.specs.contracts.deliver as deliver
use Rattle.book.proofs.deliver.Reads as deliver-reads
use Rattle.book.proofs.deliver.Kinds as deliver-kinds
use Rattle.book.specs.contracts.row as row
use Rattle.book.proofs.row.Reads as row_reads
use Rattle.book.proofs.row.Kinds as row-kinds
use Rattle.book.proofs.shown_row.Reads as shown-row-reads

pub fresh_one : (e e₁ e₂ : Edition) (r r' : Counters)
    → fresh-reads.Learnt tt (e, tt) r (e₁, tt) → fresh-reads.Learnt tt (e, tt) r' (e₂, tt) → r ≡ r'
fresh_one e e₁ e₂ r r' h h' = h ∙ sym h'

pub shown_row_one : (q e e' : Result RowShown Refusal) (r r' : RowShown) → shown-row-reads.Learnt tt (q, tt) r (e, tt)
    → shown-row-reads.Learnt tt (q, tt) r' (e', tt) → r ≡ r'
shown_row_one q e e' r r' h h' = h ∙ sym h'

-- two calls that come to one outcome told the same
said_same : (r r' : Said) (rows lines rows' lines' : List ℕ) (o : Outcome) → leaving r rows lines ≡ o → leaving r' rows' lines' ≡ o → r ≡ r'
said_same r r' rows lines rows' lines' o h h' =
    let e = h ∙ sym h' in
    let a = one_number_each r.answer r'.answer (ap (λ (x : Outcome). x.answer) e) in
    let c : r.counters ≡ r'.counters = ap (λ (x : Outcome). x.state.counters) e in
    same r.answer r.counters a c
  where
    same : (a : Answer) (c : Counters) → a ≡ r'.answer → c ≡ r'.counters → record { answer = a; counters = c } ≡ r'
    same a c e f = rw (e, f)

-- ---- the lifetimes of each call, its arguments, and what of them is there as it returns

abbrev pub ListLfts : Type 0
ListLfts = Lfts (list.signature).lifetimes

abbrev pub ListArgs : ListLfts → Type 0
ListArgs κs = ArgsD list.signature κs

abbrev pub ListExit : ListLfts → Type 0
ListExit κs = AtExit (ended_of (list.signature).lifetimes list-kinds.ps list-kinds.r) κs

abbrev pub DeliverLfts : Type 0
DeliverLfts = Lfts (deliver.signature).lifetimes

abbrev pub DeliverArgs : DeliverLfts → Type 0
DeliverArgs κs = ArgsD deliver.signature κs

abbrev pub DeliverExit : DeliverLfts → Type 0
DeliverExit κs = AtExit (ended_of (deliver.signature).lifetimes deliver-kinds.ps deliver-kinds.r) κs

abbrev pub RowLfts : Type 0
RowLfts = Lfts (row.signature).lifetimes

abbrev pub RowArgs : RowLfts → Type 0
RowArgs κs = ArgsD row.signature κs

abbrev pub RowExit : RowLfts → Type 0
RowExit κs = AtExit (ended_of (row.signature).lifetimes row-kinds.ps row-kinds.r) κs

-- ---- such calls there are: with any state, wherever it lies

-- lifetimes, as many as are asked for
abbrev pub some_lfts : (n : ℕ) → Lfts n
some_lfts zero = tt
some_lfts (suc n) = ([], some_lfts n)

-- a slice that holds these elements
abbrev pub slice : List ℕ → Bor (List ℕ)
slice xs = record { ref_ptr = (0, 0); now = xs }

-- a slice that a call may write to
abbrev pub written : List ℕ → MutBor (List ℕ)
written xs = record { ref_ptr = (0, 0); ghost_name = 0; now = xs }

abbrev pub list_at : ListLfts
list_at = some_lfts (list.signature).lifetimes

abbrev pub list_with : State → Listing → ListArgs list_at
list_with s l = (s.counters, (written s.rows, (slice s.lines, (l, tt))))

abbrev pub list_then : State → Listing → ListExit list_at
list_then s l = (s.counters, (written s.rows, (slice s.lines, (l, tt))))

abbrev pub deliver_at : DeliverLfts
deliver_at = some_lfts (deliver.signature).lifetimes

abbrev pub deliver_with : State → Arrival → DeliverArgs deliver_at
deliver_with s a = (s.counters, (written s.rows, (written s.lines, (a.number, (slice a.message, tt)))))

abbrev pub deliver_then : State → Arrival → DeliverExit deliver_at
deliver_then s a = (s.counters, (written s.rows, (written s.lines, (a.number, (slice a.message, tt)))))

abbrev pub read_at : RowLfts
read_at = some_lfts (row.signature).lifetimes

abbrev pub read_with : State → List ℕ → RowArgs read_at
read_with s symbol = (s.counters, (slice s.rows, (slice s.lines, (symbol, tt))))

abbrev pub read_then : State → List ℕ → RowExit read_at
read_then s symbol = (s.counters, (slice s.rows, (slice s.lines, (symbol, tt))))

-- ---- a listing

module _ (κs : ListLfts) (a : ListArgs κs) where
  -- what the call is lent, and what it is given
  abbrev pub list_from : State
  list_from = lent a.0 a.1.0.now a.1.1.0.now

  abbrev pub list_given : Listing
  list_given = a.1.1.1.0

  -- what it leaves
  abbrev pub list_left : Said → ListExit κs → Outcome
  list_left r s = leaving r s.1.0.now a.1.1.0.now

  pub list_one : (r r' : Said) (s s' : ListExit κs)
      → list-reads.Learnt κs a r s → list-reads.Learnt κs a r' s' → (r ≡ r') × (s.1.0.now ≡ s'.1.0.now)
  list_one r r' s s' h h' = (said_same r r' _ _ _ _ _ h h', ap (λ (x : Outcome). x.state.rows) (h ∙ sym h'))

  -- what a caller is told, and nothing else
  pub list_says : (r : Said) (s : ListExit κs)
      → list-reads.Learnt κs a r s ≡ (list_left r s ≡ listed list_from list_given)
  list_says r s = refl

-- ---- a delivery

module _ (κs : DeliverLfts) (a : DeliverArgs κs) where
  abbrev pub deliver_from : State
  deliver_from = lent a.0 a.1.0.now a.1.1.0.now

  abbrev pub deliver_given : Arrival
  deliver_given = arrives a.1.1.1.0 a.1.1.1.1.0.now

  abbrev pub deliver_left : Said → DeliverExit κs → Outcome
  deliver_left r s = leaving r s.1.0.now s.1.1.0.now

  pub deliver_one : (r r' : Said) (s s' : DeliverExit κs)
      → deliver-reads.Learnt κs a r s → deliver-reads.Learnt κs a r' s'
      → (r ≡ r') × (s.1.0.now ≡ s'.1.0.now) × (s.1.1.0.now ≡ s'.1.1.0.now)
  deliver_one r r' s s' h h' =
      (said_same r r' _ _ _ _ _ h h', ap (λ (x : Outcome). x.state.rows) (h ∙ sym h'), ap (λ (x : Outcome). x.state.lines) (h ∙ sym h'))

  -- what a caller is told, and nothing else
  pub deliver_says : (r : Said) (s : DeliverExit κs)
      → deliver-reads.Learnt κs a r s ≡ (deliver_left r s ≡ delivered deliver_from deliver_given)
  deliver_says r s = refl

-- ---- a row's reading

-- what is told of a row is told by one result
one_row : (r r' : Result RowShown Refusal) → row_told r ≡ row_told r' → r ≡ r'
one_row (Ok w) (Ok w') e = ap (λ (x : Shown). Ok x.row) e
one_row (Ok w) (Err f') e = let a : ◌≡◌ {A = Answer} (Ok tt) (Err f') = ap (λ (x : Shown). x.answer) e in cc
one_row (Err f) (Ok w') e = let a : ◌≡◌ {A = Answer} (Err f) (Ok tt) = ap (λ (x : Shown). x.answer) e in cc
one_row (Err f) (Err f') e = let a : ◌≡◌ {A = Answer} (Err f) (Err f') = ap (λ (x : Shown). x.answer) e in cc

module _ (κs : RowLfts) (a : RowArgs κs) where
  abbrev pub read_from : State
  read_from = lent a.0 a.1.0.now a.1.1.0.now

  abbrev pub read_given : List ℕ
  read_given = a.1.1.1.0

  pub row_one : (r r' : Result RowShown Refusal) (s s' : RowExit κs)
      → row_reads.Learnt κs a r s → row_reads.Learnt κs a r' s' → r ≡ r'
  row_one r r' s s' h h' = one_row r r' (h ∙ sym h')

  -- what a caller is told, and nothing else
  pub row_says : (r : Result RowShown Refusal) (s : RowExit κs) → row_reads.Learnt κs a r s ≡ (row_told r ≡ shown read_from read_given)
  row_says r s = refl
