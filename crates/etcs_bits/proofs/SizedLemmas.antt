-- L_PACKET and the record after it.
use Rattle.std.proofs.Common.{◌≡◌, ℕ, ◌+◌, ◌-◌, ◌≤◌, List, ◌∷◌, length, Ok, ap, arith}
use Rattle.std.proofs.lemmas.Bool.{eq-eqb}
use Rattle.etcs_bits.specs.layout.Rows.{Row, row, Place, width}
use Rattle.etcs_bits.specs.layout.Fields.{Fields, sized, l_packet}
use Rattle.etcs_bits.specs.layout.Reading.{taken, read_rows}
use Rattle.etcs_bits.proofs.NumberLemmas.{length-num}
use Rattle.etcs_bits.proofs.StandLemmas.{length-join}
use Rattle.etcs_bits.proofs.ReadingLemmas.{taken_ok, read_is_spelled}

-- L_PACKET and a record were read, one after the other
pub record AreSized (fields : Fields) (p : Place) (l : ℕ) (q : Place) (rows : List Row) (r : Place) : Type 0 where
  pub within : p.at ≤ length p.bits
  pub length_read : taken 13 p ≡ Ok (l, q)
  pub body_read : read_rows fields q ≡ Ok (rows, r)

pub sized_place : (fields : Fields) (p : Place) (l : ℕ) (q : Place) (rows : List Row) (r : Place)
    → AreSized fields p l q rows r → r.at ≡ p.at + (13 + width rows)
sized_place fields p l q rows r s =
    let first = taken_ok 13 p (l, q) s.length_read in
    let inside : q.at ≤ length q.bits = rw first.stands.same first.within in
    let second = read_is_spelled fields q (rows, r) inside s.body_read in
    omega (arith, first.stands.past, second.spelled.stands.past, length-num 13 l, length-join rows)

pub sized_ok : (before : ℕ) (fields : Fields) (p : Place) (l : ℕ) (q : Place) (rows : List Row) (r : Place)
    → AreSized fields p l q rows r → l ≡ before + (r.at - p.at)
    → read_rows (sized before fields) p ≡ Ok (row l_packet (before + (13 + width rows)) ∷ rows, r)
sized_ok before fields p l q rows r s e =
    let place = sized_place fields p l q rows r s in
    let sum : l ≡ before + (13 + width rows) = omega (arith, e, place) in
    rw (s.length_read, s.body_read, eq-eqb _ _ e) (ap (λ (k : ℕ). Ok (row l_packet k ∷ rows, r)) sum)
