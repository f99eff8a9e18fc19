use Rattle.std.proofs.Common.{refl, [], take}
use Rattle.std.proofs.lemmas.List.{take_all}
use Rattle.etcs_table.specs.Pointed.{pointed, pointed_lists}
use Rattle.etcs_table.specs.RowLists.{AreGroupLists, group_name, is_of_none}
use Rattle.etcs_table.proofs.LoopLemmas.{next}
use Rattle.etcs_table.proofs.NameLemmas.{none-yet, own-more}
use Rattle.etcs_table.proofs.GroupLemmas.{groups-listed, groups-named}
use Rattle.etcs_table.proofs.groups.rows_of_groups.Goals as goal

pub loop-e-init : goal.loop-e-init
loop-e-init c = record {
  lists = rw (c.new-names.ensures.empty, c.new-lists.ensures.items) (none-yet group_name is_of_none);
  as_many = rw (c.new-names.ensures.empty, c.new-lists.ensures.items) refl;
  none = c.new-every.ensures.items;
}

pub loop-e-preserved : goal.loop-e-preserved
loop-e-preserved c =
    let entries = c.args.entries.now in
    let i = c.loop-e.e-index in
    record {
      lists = rw (next entries i c.e-item.result c.loop-e-test.true c.e-item.is, c.in_ok-push_row.ensures.names, c.in_ok-push_row.ensures.lists, c.group.ensures, c.deref.ensures.value, c.loop-e.invariant.none)
          (own-more group_name is_of_none (pointed c.loop-e.names.keys) [] (pointed_lists c.loop-e.lists.items) (take i entries) c.e-item.result refl c.loop-e.invariant.lists);
      as_many = c.in_ok-push_row.ensures.as_many;
      none = c.loop-e.invariant.none;
    }

pub returns : goal.returns
returns c =
    let entries = c.args.entries.now in
    let a : AreGroupLists (pointed c.loop-e.names.keys) (pointed_lists c.loop-e.lists.items) entries = rw (take_all c.loop-e.e-index entries c.loop-e-test.false) at c.loop-e.invariant.lists in
    record {
      names = groups-named (pointed c.loop-e.names.keys) (pointed_lists c.loop-e.lists.items) entries a;
      rows = groups-listed (pointed c.loop-e.names.keys) (pointed_lists c.loop-e.lists.items) entries a;
    }
