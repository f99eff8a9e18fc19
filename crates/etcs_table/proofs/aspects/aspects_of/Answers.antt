use Rattle.std.proofs.Common.{◌≡◌, ◌∙◌, ap, None, Some, [], length, map, get_or, arith}
use Rattle.std.proofs.lemmas.List.{length-map}
use Rattle.etcs_table.specs.Entries.{Entry}
use Rattle.etcs_table.specs.Groups.{aspect_fault, aspects_of, first_of, in_order, place_fault, rows_of_aspects, uneven_fault}
use Rattle.etcs_table.specs.Pointed.{pointed, pointed_lists}
use Rattle.etcs_table.proofs.LoopLemmas.{value}
use Rattle.etcs_table.proofs.GroupLemmas.{by_aspect, by_count, by_entry, by_place, first_aspect-fault}
use Rattle.etcs_table.proofs.aspects.aspects_of.Goals as goal

pub returns-in-Some-clause-fault : goal.returns-in-Some-clause-fault
returns-in-Some-clause-fault c = by_entry (pointed c.args.rows.now) c.in-Some.fault c.in-Some.ensures

-- The first aspect comes first.
pub returns-in-Some-aspect_fault-clause-fault : goal.returns-in-Some-aspect_fault-clause-fault
returns-in-Some-aspect_fault-clause-fault c =
    let es = pointed c.args.rows.now in
    let n1 = c.in-None.ensures in
    by_aspect es c.in-Some-aspect_fault.fault n1 (first_aspect-fault es c.in-Some-aspect_fault.fault (c.in-Some-aspect_fault.ensures ∙ ap (λ s. aspect_fault (pointed s)) c.deref.ensures.value ∙ ap aspect_fault c.in_ok-first.ensures))

pub returns-in-Some-first_aspect_fault-clause-fault : goal.returns-in-Some-first_aspect_fault-clause-fault
returns-in-Some-first_aspect_fault-clause-fault c =
    let es = pointed c.args.rows.now in
    let n1 = c.in-None.ensures in
    let lists = ap pointed_lists c.as_slice-lists.ensures.value ∙ c.in_ok-unordered.ensures in
    by_aspect es c.in-Some-first_aspect_fault.fault n1 (c.in-Some-first_aspect_fault.ensures ∙ ap (first_of aspect_fault) lists)

pub returns-in-Some-first_uneven-clause-fault : goal.returns-in-Some-first_uneven-clause-fault
returns-in-Some-first_uneven-clause-fault c =
    let es = pointed c.args.rows.now in
    let n1 = c.in-None.ensures in
    let lists = ap pointed_lists c.as_slice-lists.ensures.value ∙ c.in_ok-unordered.ensures in
    let n2 = c.in-None-first_aspect_fault.ensures ∙ ap (first_of aspect_fault) lists in
    let all = c.as_slice-lists.result.now in
    let a = length-map c.in_ok-first.first.items (value {X = Entry}) in
    let b = ap length c.in_ok-first.ensures in
    let count : c.len-count.result ≡ length (get_or (rows_of_aspects es) 0 []) = omega (arith, a, b) in
    by_count es c.in-Some-first_uneven.fault n1 n2 (c.in-Some-first_uneven.ensures ∙ ap (λ n. first_of (uneven_fault n) (pointed_lists all)) count ∙ ap (first_of (uneven_fault (length (get_or (rows_of_aspects es) 0 [])))) lists)

pub returns-in-Some-first_moved-clause-fault : goal.returns-in-Some-first_moved-clause-fault
returns-in-Some-first_moved-clause-fault c =
    let es = pointed c.args.rows.now in
    let n1 = c.in-None.ensures in
    let lists = ap pointed_lists c.as_slice-lists.ensures.value ∙ c.in_ok-unordered.ensures in
    let n2 = c.in-None-first_aspect_fault.ensures ∙ ap (first_of aspect_fault) lists in
    let all = c.as_slice-lists.result.now in
    let l = length-map c.in_ok-first.first.items (value {X = Entry}) in
    let b = ap length c.in_ok-first.ensures in
    let count : c.len-count.result ≡ length (get_or (rows_of_aspects es) 0 []) = omega (arith, l, b) in
    let n3 = c.in-None-first_uneven.ensures ∙ ap (λ n. first_of (uneven_fault n) (pointed_lists all)) count ∙ ap (first_of (uneven_fault (length (get_or (rows_of_aspects es) 0 [])))) lists in
    let a : pointed_lists c.in_ok-aspects.aspects.items ≡ aspects_of es = c.in_ok-aspects.ensures ∙ ap (map in_order) lists in
    by_place es (Some c.in-Some-first_moved.fault) n1 n2 n3 (c.in-Some-first_moved.ensures ∙ ap (λ s. first_of (place_fault s) es) (ap pointed_lists c.as_slice-sorted.ensures.value ∙ a))

-- Nothing is wrong.
pub returns-clause-sound : goal.returns-clause-sound
returns-clause-sound c =
    let es = pointed c.args.rows.now in
    let n1 = c.in-None.ensures in
    let lists = ap pointed_lists c.as_slice-lists.ensures.value ∙ c.in_ok-unordered.ensures in
    let n2 = c.in-None-first_aspect_fault.ensures ∙ ap (first_of aspect_fault) lists in
    let all = c.as_slice-lists.result.now in
    let l = length-map c.in_ok-first.first.items (value {X = Entry}) in
    let b = ap length c.in_ok-first.ensures in
    let count : c.len-count.result ≡ length (get_or (rows_of_aspects es) 0 []) = omega (arith, l, b) in
    let n3 = c.in-None-first_uneven.ensures ∙ ap (λ n. first_of (uneven_fault n) (pointed_lists all)) count ∙ ap (first_of (uneven_fault (length (get_or (rows_of_aspects es) 0 [])))) lists in
    let a : pointed_lists c.in_ok-aspects.aspects.items ≡ aspects_of es = c.in_ok-aspects.ensures ∙ ap (map in_order) lists in
    by_place es None n1 n2 n3 (c.in-None-first_moved.ensures ∙ ap (λ s. first_of (place_fault s) es) (ap pointed_lists c.as_slice-sorted.ensures.value ∙ a))

pub returns-clause-aspects : goal.returns-clause-aspects
returns-clause-aspects c =
    let es = pointed c.args.rows.now in
    let lists = ap pointed_lists c.as_slice-lists.ensures.value ∙ c.in_ok-unordered.ensures in
    c.in_ok-aspects.ensures ∙ ap (map in_order) lists
