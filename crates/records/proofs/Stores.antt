-- The stores of a record, one after the other, are one run: its 80 bytes.
-- Assumes nothing.
use mathlib.Core.Path.{◌≡◌, refl, ap, sym, ◌∙◌}
use mathlib.Core.List.{List, [], ◌∷◌, ◌++◌, append_assoc, append-nil}
use Prim.Native.Nat.{ℕ, ◌+◌}
use native.Mathlib.Omega.{arith}
use lib.ListN.{length, set, length-append, replicate}
use lib.Seq.{sets}
use Rattle.numbers.specs.Number.{digits}
use Rattle.octets.proofs.Laws.{sets_then, sets_all}
use Rattle.numbers.proofs.Laws.{digits_length}
use Rattle.records.specs.declared.Sale.{Sale}
use Rattle.records.specs.declared.Record.{Record}
use Rattle.records.specs.Fits.{RecordFits}
use Rattle.records.specs.Zeros.{no_record}
use Rattle.records.specs.Held.{holds, write_by}
use Rattle.records.specs.Packed.{slots, packed, sale_bytes, front_bytes, end_bytes, record_bytes}

-- ---- lengths

pub sale_length : (s : Sale) → length s.control ≡ 10 → length s.condition ≡ 4 → length (sale_bytes s) ≡ 22
unfolding sale_bytes
sale_length s e f = simp (length-append, digits_length, e, f)

-- the texts of a record have their types' lengths
pub record Long (r : Record) : Type 0 where
  pub symbol : length r.symbol ≡ 8
  pub sale : length (sale_bytes r.sale) ≡ 22
  pub new : length (sale_bytes r.new) ≡ 22

pub fits_long : (r : Record) → RecordFits r → Long r
fits_long r g =
    record {
      symbol = g.symbol;
      sale = sale_length r.sale g.sale.control g.sale.condition;
      new = sale_length r.new g.new.control g.new.condition;
    }

front_length : (r : Record) → length r.symbol ≡ 8 → length (front_bytes r) ≡ 16
unfolding front_bytes
front_length r e = simp (length-append, digits_length, e)

end_length : (r : Record) → length (end_bytes r) ≡ 20
unfolding end_bytes
end_length r = simp (length-append, digits_length)

-- the bytes of a record, in the pieces in which they are stored
pub pieces : (r : Record) → front_bytes r ++ (sale_bytes r.sale ++ (sale_bytes r.new ++ end_bytes r)) ≡ record_bytes r
unfolding record_bytes front_bytes sale_bytes end_bytes write_by holds packed slots
pieces r = simp (append_assoc, append-nil)

pub record_length_lem : (r : Record) → Long r → length (record_bytes r) ≡ 80
record_length_lem r g = ap length (sym (pieces r)) ∙ simp (length-append, front_length r g.symbol, g.sale, g.new, end_length r)

-- a record of zeros is eighty zeros
pub no_bytes : record_bytes no_record ≡ replicate 80 0
unfolding record_bytes write_by holds packed slots digits
no_bytes = refl

-- ---- stores

pub sale_stored : (l : List ℕ) (at : ℕ) (s : Sale) → length s.control ≡ 10
    → sets (sets (sets (sets l at s.control) (at + 10) (digits 4 s.price)) (at + 14) (digits 4 s.size)) (at + 18) s.condition
    ≡ sets l at (sale_bytes s)
unfolding sale_bytes
sale_stored l at s e =
    let a = s.control in
    let p = digits 4 s.price in
    let z = digits 4 s.size in
    let g : at + length a ≡ at + 10 = rw e in
    let h : at + 10 + length p ≡ at + 14 = omega (arith, digits_length 4 s.price) in
    let k : at + 14 + length z ≡ at + 18 = omega (arith, digits_length 4 s.size) in
    sets_then z s.condition (sets (sets l at a) (at + 10) p) (at + 14) (at + 18) k
    ∙ sets_then p (z ++ s.condition) (sets l at a) (at + 10) (at + 14) h
    ∙ sets_then a (p ++ (z ++ s.condition)) l at (at + 10) g

module _ (l : List ℕ) (r : Record) where
  pub front_stored : length r.symbol ≡ 8
      → let four : List ℕ = set (set (sets (set l 0 r.letter) 1 (digits 4 r.time)) 5 r.event) 6 r.centre in
      set (sets four 7 r.symbol) 15 r.class ≡ sets l 0 (front_bytes r)
  unfolding front_bytes
  front_stored e =
      let t = digits 4 r.time in
      let a = set l 0 r.letter in
      sets_then r.symbol (r.class ∷ []) (set (set (sets a 1 t) 5 r.event) 6 r.centre) 7 15 (rw e)
      ∙ sets_then t (r.event ∷ r.centre ∷ (r.symbol ++ (r.class ∷ []))) a 1 5 (omega (arith, digits_length 4 r.time))

  pub end-stored :
      let two : List ℕ = sets (sets l 60 (digits 4 r.high)) 64 (digits 4 r.low) in
      sets (sets two 68 (digits 4 r.close)) 72 (digits 8 r.consolidated) ≡ sets l 60 (end_bytes r)
  unfolding end_bytes
  end-stored =
      let h = digits 4 r.high in
      let o = digits 4 r.low in
      let d = digits 4 r.close in
      let v = digits 8 r.consolidated in
      sets_then d v (sets (sets l 60 h) 64 o) 68 72 (omega (arith, digits_length 4 r.close))
      ∙ sets_then o (d ++ v) (sets l 60 h) 64 68 (omega (arith, digits_length 4 r.low))
      ∙ sets_then h (o ++ (d ++ v)) l 60 64 (omega (arith, digits_length 4 r.high))

  pub record_stored : Long r
      → sets (sets (sets (sets l 0 (front_bytes r)) 16 (sale_bytes r.sale)) 38 (sale_bytes r.new)) 60 (end_bytes r)
      ≡ sets l 0 (record_bytes r)
  record_stored g =
      let f = front_bytes r in
      let s = sale_bytes r.sale in
      let n = sale_bytes r.new in
      sets_then n (end_bytes r) (sets (sets l 0 f) 16 s) 38 60 (rw g.new)
      ∙ sets_then s (n ++ end_bytes r) (sets l 0 f) 16 38 (rw g.sale)
      ∙ sets_then f (s ++ (n ++ end_bytes r)) l 0 16 (rw (front_length r g.symbol))
      ∙ ap (sets l 0) (pieces r)

-- stored over eighty bytes, a record's bytes are all that is left
pub record_over : (m : List ℕ) (r : Record) → Long r → length m ≡ 80 → sets m 0 (record_bytes r) ≡ record_bytes r
record_over m r g e = sets_all m (record_bytes r) (record_length_lem r g ∙ sym e)
