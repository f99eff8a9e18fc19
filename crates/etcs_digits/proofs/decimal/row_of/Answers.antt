use Rattle.std.proofs.Common.{◌≡◌, ◌∙◌, ℕ, ◌<◌, [], ap, arith, map, refl, slice_index_or, subst, sym}
use Rattle.std.specs.List.{range_with_len}
use Rattle.std.proofs.lemmas.List.FromFn.{get_or-map-range_with_len}
use Rattle.etcs_digits.proofs.DecimalLemmas.{HasDigits, row_by, row_by_has}
use Rattle.etcs_digits.proofs.decimal.row_of.Goals as goal
use Rattle.etcs_digits.specs.declared.decimal.TheConstants.{DIGITS}

table_is : DIGITS ≡ map row_by (range_with_len 0 1000)
table_is = refl

row_has : (n : ℕ) → n < 1000 → HasDigits n (slice_index_or DIGITS n [])
row_has n lt =
    let is : slice_index_or DIGITS n [] ≡ row_by n =
    ap (λ t. slice_index_or t n []) table_is ∙ get_or-map-range_with_len row_by 0 1000 n n [] lt (omega arith) in
    subst (HasDigits n) (sym is) (row_by_has n lt)

pub returns-clause-digits : goal.returns-clause-digits
returns-clause-digits c = (row_has c.args.n c.requires).0

pub returns-clause-few : goal.returns-clause-few
returns-clause-few c = (row_has c.args.n c.requires).1
