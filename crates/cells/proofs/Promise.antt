-- The contract of each public function leaves one answer, at each type that is kept in cells. `Learnt` is that contract as the
-- compiler hands it to a caller. It takes the type first, with what its bounds bring: `K` is its part in `Cell`.
-- Assumes nothing.
use Rattle.std.specs.Prelude.{Option, None, Some, ℕ}
use mathlib.Core.Path.{◌≡◌, refl, ap, sym, ◌∙◌}
use native.Mathlib.Omega.{arith}
use contract.Lifetimes.{Lfts}
use borrow.Fn.Kinds.{Dens, res_t, ended_of}
use denote.RattleType.{RattleType}
use denote.Param.Laws.{Laws, IsCopy}
use denote.Triple.Clauses.{AtExit}
use mir.Syntax.{Dict}
use Rattle.std.specs.declared.clone.Clone as clone
use Rattle.cells.specs.declared.Cell as cell
use Rattle.cells.proofs.limit.Reads as limit-reads
use Rattle.cells.proofs.limit.Kinds as limit-kinds
use Rattle.cells.proofs.place.Reads as place-reads
use Rattle.cells.proofs.place.Kinds as place-kinds
use Rattle.cells.proofs.cut.Reads as cut-reads
use Rattle.cells.proofs.cut.Kinds as cut-kinds
use Rattle.cells.proofs.get.Reads as get-reads
use Rattle.cells.proofs.get.Kinds as get-kinds

module _ (T : RattleType) (L : Laws T) (C : IsCopy T) (K : cell.Ghosts T.Denot) (k : Dict) (E : clone.Ghosts T.Denot) (e : Dict) where
  module _ (κs : Lfts 1) where
    pub limit_one : (a : Dens κs (limit-kinds.ps T L C)) (r r' : ℕ)
        (s s' : AtExit (ended_of 1 (limit-kinds.ps T L C) (limit-kinds.r T L C)) κs)
        → limit-reads.Learnt T L C K k E e κs a r s → limit-reads.Learnt T L C K k E e κs a r' s' → r ≡ r'
    limit_one a r r' s s' h h' = h ∙ sym h'

    pub place_one : (a : Dens κs (place-kinds.ps T L C)) (r r' : Option ℕ)
        (s s' : AtExit (ended_of 1 (place-kinds.ps T L C) (place-kinds.r T L C)) κs)
        → place-reads.Learnt T L C K k E e κs a r s → place-reads.Learnt T L C K k E e κs a r' s' → r ≡ r'
    place_one a None None s s' h h' = refl
    place_one a None (Some x) s s' h h' = absurd (omega (arith, h, h'.0))
    place_one a (Some x) None s s' h h' = absurd (omega (arith, h.0, h'))
    place_one a (Some x) (Some y) s s' h h' = ap Some (h.1 ∙ sym h'.1)

  module _ (κs : Lfts 2) where
    pub cut_one : (a : Dens κs (cut-kinds.ps T L C)) (r r' : (res_t (cut-kinds.r T L C) κs).Denot)
        (s s' : AtExit (ended_of 2 (cut-kinds.ps T L C) (cut-kinds.r T L C)) κs)
        → cut-reads.Learnt T L C K k E e κs a r s → cut-reads.Learnt T L C K k E e κs a r' s' → r.now ≡ r'.now
    cut_one a r r' s s' h h' = h.0 ∙ sym h'.0

    pub get_one : (a : Dens κs (get-kinds.ps T L C)) (r r' : (res_t (get-kinds.r T L C) κs).Denot)
        (s s' : AtExit (ended_of 2 (get-kinds.ps T L C) (get-kinds.r T L C)) κs)
        → get-reads.Learnt T L C K k E e κs a r s → get-reads.Learnt T L C K k E e κs a r' s' → r ≡ r'
    get_one a r r' s s' h h' = h ∙ sym h'
