-- The verdict on groups that a checker has taken.
use Rattle.std.proofs.Common.{◌≡◌, ℕ, List, [], ◌∷◌, length, map, Result, Ok, Err, refl, sym, ap, ◌∙◌}
use Rattle.std.specs.Prelude.{◌↔◌, IsOkAnd}
use Rattle.etcs_check.specs.Line.{findings}
use Rattle.etcs_check.specs.LineChecker.{CheckerState, HasChecked}
use Rattle.etcs_check.specs.Soundness.{IsSoundLine}
use Rattle.etcs_check.specs.declared.finding.Finding.{Finding}
use Rattle.etcs_group.specs.Group.{Aspects}
use Rattle.etcs_table.specs.Groups.{Group}
use Rattle.etcs_table_check.specs.FindingRows.{RowFinding, all_with_rows}
use Rattle.etcs_table_check.specs.Line.{IsCheckedAs}
use Rattle.etcs_table_check.specs.Refusals.{◌then◌}
use Rattle.etcs_table_check.specs.Verdict.{TableVerdict, judged}
use Rattle.etcs_table_check.specs.declared.error.TableRefusal.{TableRefusal}

none-mapped : {X Y : Type 0} (f : X → Y) (xs : List X) → map f xs ≡ [] → xs ≡ []
none-mapped f [] e = refl
none-mapped f (x ∷ xs) e = cc

-- the verdict with these findings
abbrev verdict : ℕ → ℕ → List RowFinding → TableVerdict
verdict groups telegrams found = record { groups = groups; telegrams = telegrams; findings = found }

module _ (groups : List Group) (checker : CheckerState) (found : List Finding) (all : List RowFinding) where
  pub groups-judged : (telegrams : ℕ) (r : Result (List Aspects) TableRefusal) → IsCheckedAs checker r → ((gs : List Aspects) → HasChecked checker gs [] → found ≡ findings gs []) → all ≡ all_with_rows groups found
      → (r then λ line. Ok (judged telegrams groups line)) ≡ Ok (verdict (length groups) telegrams all)
  groups-judged telegrams (Ok gs) checked finds is =
      ap (λ fs. Ok (verdict (length groups) telegrams fs)) (ap (all_with_rows groups) (sym (finds gs checked)) ∙ sym is)
  groups-judged telegrams (Err why) checked finds is = absurd checked

  pub groups-sound : (r : Result (List Aspects) TableRefusal) → IsCheckedAs checker r → ((gs : List Aspects) → HasChecked checker gs [] → (found ≡ []) ↔ IsSoundLine gs []) → all ≡ all_with_rows groups found
      → (all ≡ []) ↔ IsOkAnd r (λ line. IsSoundLine line [])
  groups-sound (Ok gs) checked sound is =
      ((λ none. (sound gs checked).0 (none-mapped _ found (sym is ∙ none))), (λ so. is ∙ ap (all_with_rows groups) ((sound gs checked).1 so)))
  groups-sound (Err why) checked sound is = absurd checked
