use Rattle.std.proofs.Common.{◌∙◌, ap, [], ◌∷◌, ◌++◌}
use Rattle.etcs_table.proofs.ListLemmas.{names-pointed, row-new, row-old}
use Rattle.etcs_table.proofs.lists.push_row.Goals as goal

pub returns-in_ok-push-2-clause-names : goal.returns-in_ok-push-2-clause-names
returns-in_ok-push-2-clause-names c = names-pointed c.args.name c.args.names.now.keys c.insert_full.new.self.keys c.in-Ok.ensures.keys

pub returns-in_ok-push-3-clause-names : goal.returns-in_ok-push-3-clause-names
returns-in_ok-push-3-clause-names c = names-pointed c.args.name c.args.names.now.keys c.insert_full.new.self.keys c.in-Ok.ensures.keys

-- A new list has the rows of every list, and the row.
pub returns-in_ok-push-2-clause-lists : goal.returns-in_ok-push-2-clause-lists
returns-in_ok-push-2-clause-lists c =
    row-new c.args.name c.args.names.now.keys c.in-Ok.is_new c.args.every.now c.args.lists.now.items c.push-then-is_new.new.self.items c.push.new.self c.args.row c.in-Ok.ensures.added c.if-is_new.true (c.in_ok-push.ensures.items ∙ ap (λ l. l ++ c.args.row ∷ []) c.in_ok-list.ensures.items) c.in_ok-push-2.ensures.items

-- The list of the name has the row at its end.
pub returns-in_ok-push-3-clause-lists : goal.returns-in_ok-push-3-clause-lists
returns-in_ok-push-3-clause-lists c =
    row-old c.args.name c.args.names.now.keys c.in-Ok.is_new c.args.every.now c.args.lists.now.items c.in-Ok.place c.index_mut.result.now c.push-else-is_new.new.self c.args.row c.in-Ok.ensures.added c.if-is_new.false c.in-Ok.ensures.index c.requires c.index_mut.ensures.value c.in_ok-push-3.ensures.items
