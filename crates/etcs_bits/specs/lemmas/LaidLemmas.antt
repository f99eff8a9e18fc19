-- The law of `Layout` for variables, and for another type with the same layout.
use Rattle.std.specs.Prelude.{◌≡◌, ℕ, List, [], refl}
use Rattle.std.proofs.Common.{ap, sym, ◌∙◌}
use Rattle.std.proofs.lemmas.Bool.{eqb-true}
use Rattle.etcs_bits.specs.declared.layout.fault.FaultKind.{FaultKind}
use Rattle.etcs_bits.specs.layout.Rows.{Variable, Row, alone}
use Rattle.etcs_bits.specs.layout.Found.{row_number}
use Rattle.etcs_bits.specs.layout.Fields.{Fields, nothing, one}
use Rattle.etcs_bits.specs.lemmas.RowLemmas.{alone_rows}
use Rattle.etcs_bits.specs.variables.Variables.{only}
use Rattle.etcs_bits.specs.lemmas.VariableLemmas.{number_alone}
use Rattle.etcs_bits.specs.layout.Values.{HasValues}
use Rattle.etcs_bits.specs.layout.Laid.{IsLayout}

-- a struct of such parts
pub parted_laid : {X Y : Type 0} {fields : Fields} {rows : X → List Row} {of : List Row → X}
    (named : X → Y) (parts : Y → X) → ((x : X) → parts (named x) ≡ x) → ((y : Y) → named (parts y) ≡ y)
    → IsLayout fields rows of
    → IsLayout fields (λ y. rows (parts y)) (λ r. named (of r))
parted_laid {rows = rows} named parts back again v = record {
  are_rows = λ y. v.are_rows (parts y);
  is_record = λ y. ap named (v.is_record (parts y)) ∙ again y;
  has_record = λ r whole allowed.
      let x = v.has_record r whole allowed in
      (named x.0, ap rows (back x.0) ∙ x.1);
}

-- ---- variables

-- a variable by itself
pub alone_laid : (x : Variable) → IsLayout (one x) (alone x) (row_number 0)
unfolding alone
alone_laid x = record {
  are_rows = alone_rows x;
  is_record = number_alone x;
  has_record = λ r (n, more, e, end) allowed. (n, rw (e, end) refl);
}

-- no variable
pub empty_laid : IsLayout nothing (λ (_ : Unit {0}). []) (λ _. tt)
empty_laid = record
    { are_rows = λ _. refl; is_record = λ _. refl; has_record = λ r none allowed. (tt, sym none) }

-- a variable with only one number carries no information: its row is that of a type with one value
pub only_laid : {X : Type 0} (w k : ℕ) (why : FaultKind) (x : X) → ((y : X) → x ≡ y)
    → IsLayout (one (only w k why)) (λ _. alone (only w k why) k) (λ _. x)
unfolding alone
only_laid w k why x same = record {
  are_rows = λ _. alone_rows (only w k why) k;
  is_record = same;
  has_record = λ r (n, more, e, end) allowed.
      let here : n ≡ k = eqb-true n k (rw e at allowed).0.1 in
      (x, rw (e, end, here) refl);
}

-- a variable whose numbers have names
pub named_laid : {X : Type 0} {x : Variable} {w : ℕ} {number : X → ℕ} {of : ℕ → X} → HasValues x w number of
    → IsLayout (one x) (λ v. alone x (number v)) (λ r. of (row_number 0 r))
unfolding alone
named_laid {x = x} {number = number} v = record {
  are_rows = λ y. alone_rows x (number y);
  is_record = v.back;
  has_record = λ r (n, more, e, end) allowed.
      let here = (v.numbers.numbers n).0 (rw e at allowed).0 in
      (here.0, rw (e, end, here.1) refl);
}
