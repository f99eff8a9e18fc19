-- Checks, and which of their faults is the first.
use Rattle.std.proofs.Common.{◌≡◌, ◌∙◌, ◌+◌, ◌<◌, ◌≤◌, ℕ, suc, Bool, true, false, List, [], ◌∷◌, None, Some, ap, arith, drop, get_or, length, not, refl, sym}
use Rattle.std.proofs.Math.ListN.{drop_of_length-le}
use Rattle.std.proofs.Math.Seq.{drop-cons}
use Rattle.std.proofs.lemmas.Bool.Decides.{nat_tests}
use Rattle.std.specs.List.{list_all}
use Rattle.etcs_table.specs.Entries.{text_checks}
use Rattle.etcs_table.specs.Faults.{first_fault}
use Rattle.etcs_table.specs.Text.{is_decimal}
use Rattle.etcs_table.specs.declared.error.TableFault.{TableFault}

is_true : (b : Bool) → not b ≡ false → b ≡ true
is_true true h = refl
is_true false h = let never : true ≡ false = h in cc

pub none_left : first_fault [] ≡ None
unfolding first_fault
none_left = refl

-- a check that holds has the first fault
pub first_holds : (test : Bool) (fault : TableFault) (checks : List (Bool × TableFault)) → test ≡ true
    → first_fault ((test, fault) ∷ checks) ≡ Some fault
unfolding first_fault
first_holds test fault checks holds = rw holds refl

-- one that does not hold is passed over
pub first_fails : (test : Bool) (fault : TableFault) (checks : List (Bool × TableFault)) → test ≡ false
    → first_fault ((test, fault) ∷ checks) ≡ first_fault checks
unfolding first_fault
first_fails test fault checks fails = rw fails refl

-- without a fault no check holds
pub passes : (test : Bool) (fault : TableFault) (checks : List (Bool × TableFault)) → first_fault ((test, fault) ∷ checks) ≡ None
    → (test ≡ false) × (first_fault checks ≡ None)
unfolding first_fault
passes true fault checks none = let never : Some fault ≡ None = none in (cc, cc)
passes false fault checks none = (refl, none)

-- checks, the first of which hold for nothing
module _ (checks : List (Bool × TableFault)) (i : ℕ) (d : Bool × TableFault) (so_far : first_fault (drop i checks) ≡ first_fault checks) where
  next : i < length checks → first_fault (get_or checks i d ∷ drop (suc i) checks) ≡ first_fault checks
  next here = ap first_fault (sym (drop-cons checks i d here)) ∙ so_far

  pub found_here : i < length checks → (get_or checks i d).0 ≡ true → Some (get_or checks i d).1 ≡ first_fault checks
  found_here here holds = sym (first_holds (get_or checks i d).0 (get_or checks i d).1 (drop (suc i) checks) holds) ∙ next here

  pub not_here : i < length checks → (get_or checks i d).0 ≡ false → first_fault (drop (i + 1) checks) ≡ first_fault checks
  not_here here fails =
      let more : i + 1 ≡ suc i = omega arith in
      rw more (sym (first_fails (get_or checks i d).0 (get_or checks i d).1 (drop (suc i) checks) fails) ∙ next here)

pub found_nowhere : (checks : List (Bool × TableFault)) (i : ℕ) → length checks ≤ i → first_fault (drop i checks) ≡ first_fault checks
    → None ≡ first_fault checks
found_nowhere checks i past so_far = sym none_left ∙ ap first_fault (sym (drop_of_length-le checks past)) ∙ so_far

-- a row without a fault has a number of up to four digits, or none
pub is_number : (row : ℕ) (group telegram aspect balise : List ℕ) (is_wide : Bool)
    → first_fault (text_checks row group telegram aspect balise is_wide) ≡ None
    → (list_all is_decimal balise ≡ true) × (length balise ≤ 4)
is_number row group telegram aspect balise is_wide none =
    let p1 = passes _ _ _ none in
    let p2 = passes _ _ _ p1.1 in
    let p3 = passes _ _ _ p2.1 in
    let p4 = passes _ _ _ p3.1 in
    let p5 = passes _ _ _ p4.1 in
    let p6 = passes _ _ _ p5.1 in
    let p7 = passes _ _ _ p6.1 in
    let p8 = passes _ _ _ p7.1 in
    (is_true (list_all is_decimal balise) p7.0, grind (arith, nat_tests, p8.0))
