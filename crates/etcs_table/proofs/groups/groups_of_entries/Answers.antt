use Rattle.std.proofs.Common.{◌≡◌, ◌≤◌, ◌<◌, ◌∙◌, ap, subst, sym, refl, List, [], ◌∷◌, ◌++◌, get_or, length, map, arith}
use Rattle.std.proofs.lemmas.List.{get_or-map, length-map, take_all}
use denote.Ref.{Bor}
use Rattle.etcs_table.specs.Endings.{IsFirstFault}
use Rattle.etcs_table.specs.Entries.{Entry}
use Rattle.etcs_table.specs.Groups.{aspects_of, first_of, group_fault, group_names, group_of, of_group}
use Rattle.etcs_table.specs.Pointed.{pointed, pointed_lists}
use Rattle.etcs_table.proofs.LoopLemmas.{ended, fault-ended, fault-passed, rest, values}
use Rattle.etcs_table.proofs.GroupLemmas.{all-sound, group-more, wrong-here}
use Rattle.etcs_table.proofs.groups.groups_of_entries.Goals as goal

pub loop-i-init : goal.loop-i-init
loop-i-init c = record { made = c.new-groups.ensures.items; sound = refl }

pub loop-i-preserved : goal.loop-i-preserved
loop-i-preserved c =
    let es = c.args.entries.now in
    let lists = c.as_slice-lists.result.now in
    let i = c.loop-i.i in
    let rows = c.index-lists-i.result in
    let done = c.loop-i.groups.items in
    let name = c.name_at.result.now in
    let all : pointed_lists lists ≡ map (of_group es) (group_names es) = ap pointed_lists c.as_slice-lists.ensures.value ∙ c.in_ok-grouped.ensures.rows in
    let long = length-map lists (values {X = Entry}) in
    let lt : i < length (pointed_lists lists) = omega (arith, long, c.loop-i-test.true) in
    let read : values rows ≡ get_or (pointed_lists lists) i (values rows) = ap values c.index-lists-i.is ∙ sym (get_or-map values lists i rows (values rows) c.loop-i-test.true) in
    let named : name ≡ get_or (group_names es) i [] = c.name_at.ensures ∙ ap (λ ks. get_or ks i []) c.in_ok-grouped.ensures.names in
    record {
      made = rw c.in_ok-push.ensures.items (
          ap (λ g. done ++ g ∷ []) c.in-Ok.ensures.group
          ∙ ap (λ (s : List (Bor Entry)). done ++ (record { name = name; aspects = aspects_of (pointed s) }) ∷ []) c.deref.ensures.value
          ∙ group-more es (pointed_lists lists) done i name (values rows) all lt named read c.loop-i.invariant.made
          );
      sound = fault-passed group_fault (pointed_lists lists) i (values rows) _ (rest values lists i rows c.loop-i-test.true c.index-lists-i.is) (ap (λ s. group_fault (pointed s)) (sym c.deref.ensures.value) ∙ c.in-Ok.ensures.sound) c.loop-i.invariant.sound;
    }

-- The group has the first fault of the table, or memory ran out.
pub returns-in-Err-clause-refused : goal.returns-in-Err-clause-refused
returns-in-Err-clause-refused c =
    let es = c.args.entries.now in
    let lists = c.as_slice-lists.result.now in
    let rows = c.index-lists-i.result in
    let all : pointed_lists lists ≡ map (of_group es) (group_names es) = ap pointed_lists c.as_slice-lists.ensures.value ∙ c.in_ok-grouped.ensures.rows in
    wrong-here es (pointed_lists lists) c.loop-i.i (values rows) c.in-Err.error all (rest values lists c.loop-i.i rows c.loop-i-test.true c.index-lists-i.is) c.loop-i.invariant.sound
    (subst (λ s. IsFirstFault (group_fault (pointed s)) c.in-Err.error) c.deref.ensures.value c.in-Err.ensures.fault)

pub returns-clause-groups : goal.returns-clause-groups
returns-clause-groups c =
    let es = c.args.entries.now in
    let lists = c.as_slice-lists.result.now in
    let i = c.loop-i.i in
    let all : pointed_lists lists ≡ map (of_group es) (group_names es) = ap pointed_lists c.as_slice-lists.ensures.value ∙ c.in_ok-grouped.ensures.rows in
    let a = length-map lists (values {X = Entry}) in
    let b = ap length all in
    let d = length-map (group_names es) (of_group es) in
    let le : length (group_names es) ≤ i = omega (arith, a, b, d, c.loop-i-test.false) in
    all-sound es c.loop-i.groups.items
    (fault-ended group_fault (pointed_lists lists) i _ (ended values lists i c.loop-i-test.false) c.loop-i.invariant.sound ∙ ap (first_of group_fault) all)
    (c.loop-i.invariant.made ∙ ap (map (group_of es)) (take_all i (group_names es) le))
