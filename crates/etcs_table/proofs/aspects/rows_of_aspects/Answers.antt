use Rattle.std.proofs.Common.{◌≡◌, ◌<◌, ◌∙◌, sym, ap, refl, [], ◌∷◌, take, length, arith}
use Rattle.std.proofs.lemmas.List.{length-map, map-append}
use Rattle.std.proofs.lemmas.Bool.Decides.{nat_tests}
use Rattle.etcs_table.specs.Groups.{is_every}
use Rattle.etcs_table.specs.Pointed.{pointed, pointed_lists}
use Rattle.etcs_table.specs.RowLists.{AreAspectLists, aspect_of}
use Rattle.etcs_table.proofs.LoopLemmas.{front, value, values, whole}
use Rattle.etcs_table.proofs.NameLemmas.{none-yet}
use Rattle.etcs_table.proofs.GroupLemmas.{aspects-none, aspects-some}
use Rattle.etcs_table.proofs.aspects.rows_of_aspects.Goals as goal

pub loop-e-init : goal.loop-e-init
loop-e-init c = record {
  lists = rw (c.new-names.ensures.empty, c.new-every.ensures.items, c.new-aspects.ensures.items) (none-yet aspect_of is_every);
  as_many = rw (c.new-names.ensures.empty, c.new-aspects.ensures.items) refl;
}

pub loop-e-preserved : goal.loop-e-preserved
loop-e-preserved c =
    let rows = c.args.rows.now in
    let i = c.loop-e.e-index in
    record {
      lists = rw (front value rows i c.e-item.result c.loop-e-test.true c.e-item.is) (c.in_ok-push_entry.ensures.lists (take i (pointed rows)) c.loop-e.invariant.lists);
      as_many = c.in_ok-push_entry.ensures.as_many;
    }

-- No row names an aspect.
pub returns-then-is_empty : goal.returns-then-is_empty
returns-then-is_empty c =
    let rows = c.args.rows.now in
    let aspects = c.loop-e.aspects.items in
    let a : AreAspectLists (pointed c.loop-e.names.keys) (pointed c.loop-e.every.items) (pointed_lists aspects) (pointed rows) = rw (whole value rows c.loop-e.e-index c.loop-e-test.false) at c.loop-e.invariant.lists in
    let none : length c.as_slice.result.now ≡ 0 = grind (arith, nat_tests, c.is_empty.ensures, c.if-is_empty.true) in
    let empty : length (pointed_lists aspects) ≡ 0 = length-map aspects values ∙ ap length (sym c.as_slice.ensures.value) ∙ none in
    rw c.in_ok-push.ensures.items (map-append values aspects (c.loop-e.every ∷ []) ∙ aspects-none (pointed c.loop-e.names.keys) (pointed c.loop-e.every.items) (pointed_lists aspects) (pointed rows) a empty)

pub returns : goal.returns
returns c =
    let rows = c.args.rows.now in
    let aspects = c.loop-e.aspects.items in
    let a : AreAspectLists (pointed c.loop-e.names.keys) (pointed c.loop-e.every.items) (pointed_lists aspects) (pointed rows) = rw (whole value rows c.loop-e.e-index c.loop-e-test.false) at c.loop-e.invariant.lists in
    let some : 0 < length c.as_slice.result.now = grind (arith, nat_tests, c.is_empty.ensures, c.if-is_empty.false) in
    let count = length-map aspects values ∙ ap length (sym c.as_slice.ensures.value) in
    let there : 0 < length (pointed_lists aspects) = omega (arith, count, some) in
    aspects-some (pointed c.loop-e.names.keys) (pointed c.loop-e.every.items) (pointed_lists aspects) (pointed rows) a there
