use Rattle.std.proofs.Common.{◌≤◌, ◌∙◌, ap, refl, ◌++◌, drop, length, arith}
use Rattle.std.proofs.lemmas.List.{append-nil, length-set}
use Rattle.etcs_table.specs.Pointed.{pointed_lists}
use Rattle.etcs_table.proofs.LoopLemmas.{ended, values, whole}
use Rattle.etcs_table.specs.Lists.{with_row_each}
use Rattle.etcs_table.proofs.ListLemmas.{each-more}
use Rattle.etcs_table.proofs.lists.push_each.Goals as goal

pub loop-i-init : goal.loop-i-init
loop-i-init c = record { now = refl; as_many = refl }

pub loop-i-preserved : goal.loop-i-preserved
loop-i-preserved c = record {
  now = each-more (pointed_lists c.args.lists.now.items) c.loop-i.lists.items c.loop-i.i c.index_mut.result.now c.push.new.self c.args.row (omega (arith, c.loop-i.invariant.as_many)) c.index_mut.ensures.value c.in_ok-push.ensures.items c.loop-i.invariant.now;
  as_many = length-set c.loop-i.lists.items c.loop-i.i c.push.new.self ∙ c.loop-i.invariant.as_many;
}

pub returns-clause-lists : goal.returns-clause-lists
returns-clause-lists c =
    let lists = c.args.lists.now.items in
    let le : length lists ≤ c.loop-i.i = omega arith in
    c.loop-i.invariant.now
    ∙ ap (λ l. with_row_each l c.args.row.now ++ drop c.loop-i.i (pointed_lists lists)) (whole values lists c.loop-i.i le)
    ∙ ap (λ l. with_row_each (pointed_lists lists) c.args.row.now ++ l) (ended values lists c.loop-i.i le)
    ∙ append-nil (with_row_each (pointed_lists lists) c.args.row.now)
