-- The status for a table is Done if and only if its line is sound: the groups that were read are controlled, so a line has no
-- finding if and only if it is sound.
use Rattle.std.proofs.Common.{◌≡◌, ◌∙◌, ◌==◌, ℕ, zero, suc, true, List, [], ◌∷◌, length, map, Result, Ok, Err, refl, sym, ap, subst, arith}
use Rattle.std.proofs.lemmas.Option.{none-some, same_Some}
use Rattle.std.specs.List.{list_all}
use Rattle.std.specs.Prelude.{◌↔◌, IsOkAnd}
use Rattle.etcs_check.proofs.LineLemmas.{no_finding_means_sound_line}
use Rattle.etcs_check.specs.Laws.{AreControlled}
use Rattle.etcs_check.specs.Line.{findings}
use Rattle.etcs_check.specs.Soundness.{IsSoundLine}
use Rattle.etcs_group.specs.Controlled.{IsControlled}
use Rattle.etcs_group.specs.Group.{Aspects, Telegrams}
use Rattle.etcs_run.specs.declared.status.Status.TheVariants.{Done}
use Rattle.etcs_table.specs.Entries.{Entry}
use Rattle.etcs_table.specs.Groups.{Group, groups_of_entries}
use Rattle.etcs_table.specs.declared.error.TableFault.{TableFault}
use Rattle.etcs_table_check.proofs.CountLemmas.{as-many, aspects-controlled, has_count}
use Rattle.etcs_table_check.proofs.ShapeLemmas.{and-true, first-shaped, groups-shaped, others-shaped}
use Rattle.etcs_table_check.specs.FindingRows.{RowFinding, all_with_rows, with_rows}
use Rattle.etcs_table_check.specs.Line.{aspect_telegrams, group_aspects, groups_read, read_each, telegram_entries, telegram_of, with_first}
use Rattle.etcs_table_check.specs.Refusals.{◌then◌, in_table}
use Rattle.etcs_table_check.specs.Shape.{AreShaped, IsShaped, has_size, size}
use Rattle.etcs_table_check.specs.Verdict.{judged, verdict_of_entries, verdict_of_groups}
use Rattle.etcs_table_check.specs.declared.error.TableRefusal.{TableRefusal}
use Rattle.etcs_table_run.specs.Laws.{DoneIsSound}
use Rattle.etcs_table_run.specs.TableOutput.{answered, table_output, table_status}

-- ---- what was read of each

value_or : {X : Type 0} → X → Result X TableRefusal → X
value_or other (Ok x) = x
value_or other (Err why) = other

same_value : {X : Type 0} (x y : X) (r : Result X TableRefusal) → r ≡ Ok x → r ≡ Ok y → x ≡ y
unfolding value_or
same_value x y r one other = ap (value_or x) (sym one ∙ other)

-- the first member and the others were read
record BothRead {B : Type 0} (first : Result B TableRefusal) (others : Result (List B) TableRefusal) (ys : List B) : Type 0 where
  value : B
  rest : List B
  is : first ≡ Ok value
  are : others ≡ Ok rest
  whole : value ∷ rest ≡ ys

both_read : {B : Type 0} (first : Result B TableRefusal) (others : Result (List B) TableRefusal) (ys : List B)
    → (first then λ y. with_first y others) ≡ Ok ys → BothRead first others ys
both_read (Err why) others ys is = absurd cc
both_read (Ok y) (Err why) ys is = absurd cc
both_read (Ok y) (Ok rest) ys is = record { value = y; rest = rest; is = refl; are = refl; whole = same_value (y ∷ rest) ys (Ok (y ∷ rest)) refl is }

-- ---- groups

sized_read : (n : ℕ) (xs : List (List Entry)) (ys : List Telegrams) → list_all (has_size n) xs ≡ true → read_each aspect_telegrams xs ≡ Ok ys
    → list_all (has_count n) ys ≡ true
unfolding read_each
sized_read n [] ys all is = subst (λ (l : List Telegrams). list_all (has_count n) l ≡ true) (same_value [] ys (Ok []) refl is) refl
sized_read n (x ∷ xs) ys all is =
    let both = both_read (aspect_telegrams x) (read_each aspect_telegrams xs) ys is in
    let parts = and-true (has_size n x) (list_all (has_size n) xs) all in
    let count : has_count n both.value ≡ true = ap (λ k. k == n) (as-many telegram_of x both.value both.is) ∙ parts.0 in
    let whole : list_all (has_count n) (both.value ∷ both.rest) ≡ true = rw count (sized_read n xs both.rest parts.1 both.are) in
    subst (λ (l : List Telegrams). list_all (has_count n) l ≡ true) both.whole whole

group_controlled : (group : Group) → IsShaped group.aspects → (aspects : Aspects) → group_aspects group ≡ Ok aspects → IsControlled aspects
group_controlled group shaped aspects is =
    let many = as-many aspect_telegrams group.aspects aspects is in
    aspects-controlled (size group.aspects) aspects (sized_read (size group.aspects) group.aspects aspects shaped.sized is)
    (omega (arith, many, shaped.some)) shaped.above

in_front : (aspects : Aspects) (groups : List Aspects) → IsControlled aspects → AreControlled groups → AreControlled (aspects ∷ groups)
in_front aspects groups one others zero x h = subst IsControlled (same_Some aspects x h) one
in_front aspects groups one others (suc k) x h = others k x h

groups_controlled : (groups : List Group) → AreShaped groups → (line : List Aspects) → groups_read groups ≡ Ok line → AreControlled line
unfolding read_each
groups_controlled [] shaped line is =
    subst AreControlled (same_value [] line (Ok []) refl is) (λ i aspects h. absurd (none-some aspects h))
groups_controlled (group ∷ groups) shaped line is =
    let both = both_read (group_aspects group) (read_each group_aspects groups) line is in
    let first = group_controlled group (first-shaped group groups shaped) both.value both.is in
    subst AreControlled both.whole (in_front both.value both.rest first (groups_controlled groups (others-shaped group groups shaped) both.rest both.are))

-- ---- the status

no_finding : (found : List RowFinding) → (table_status found ≡ Done) ↔ (found ≡ [])
no_finding [] = (λ done. refl, λ none. refl)
no_finding (f ∷ found) = (λ done. absurd cc, λ none. absurd cc)

none_mapped : {X Y : Type 0} (f : X → Y) (xs : List X) → map f xs ≡ [] → xs ≡ []
none_mapped f [] none = refl
none_mapped f (x ∷ xs) none = absurd cc

of_line : (n : ℕ) (groups : List Group) (r : Result (List Aspects) TableRefusal) → ((line : List Aspects) → r ≡ Ok line → AreControlled line)
    → ((answered (r then λ line. Ok (judged n groups line))).1 ≡ Done) ↔ IsOkAnd r (λ line. IsSoundLine line [])
of_line n groups (Err why) controlled = (λ done. absurd cc, λ no. absurd no)
of_line n groups (Ok line) controlled =
    let law = no_finding_means_sound_line line [] (controlled line refl) in
    let status = no_finding (all_with_rows groups (findings line [])) in (
      λ done. law.0 (none_mapped (with_rows groups) (findings line []) (status.0 done)),
      λ sound. status.1 (ap (all_with_rows groups) (law.1 sound)),
    )

of_groups : (n : ℕ) (r : Result (List Group) TableFault) → ((groups : List Group) → r ≡ Ok groups → AreShaped groups)
    → ((answered (in_table r then verdict_of_groups n)).1 ≡ Done) ↔ IsOkAnd (in_table r then groups_read) (λ line. IsSoundLine line [])
of_groups n (Err fault) shaped = (λ done. absurd cc, λ no. absurd no)
of_groups n (Ok groups) shaped = of_line n groups (groups_read groups) (groups_controlled groups (shaped groups refl))

of_entries : (r : Result (List Entry) TableRefusal)
    → ((answered (r then verdict_of_entries)).1 ≡ Done)
    ↔ IsOkAnd (r then λ entries. (in_table (groups_of_entries entries) then groups_read)) (λ line. IsSoundLine line [])
of_entries (Err why) = (λ done. absurd cc, λ no. absurd no)
of_entries (Ok entries) = of_groups (length entries) (groups_of_entries entries) (groups-shaped entries)

pub done_is_sound : DoneIsSound
unfolding table_output
done_is_sound words bytes = of_entries (telegram_entries words bytes)
