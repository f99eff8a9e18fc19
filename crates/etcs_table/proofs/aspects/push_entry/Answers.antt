use Rattle.std.proofs.Common.{sym, [], ◌∷◌}
use Rattle.std.proofs.lemmas.List.{map-append}
use Rattle.etcs_table.specs.Groups.{is_every}
use Rattle.etcs_table.specs.Pointed.{pointed, pointed_lists}
use Rattle.etcs_table.specs.RowLists.{aspect_of}
use Rattle.etcs_table.proofs.LoopLemmas.{value}
use Rattle.etcs_table.proofs.NameLemmas.{every-more, own-more}
use Rattle.etcs_table.proofs.aspects.push_entry.Goals as goal

pub returns-in_ok-push-clause-lists : goal.returns-in_ok-push-clause-lists
returns-in_ok-push-clause-lists c = λ entries a.
    rw (c.in_ok-push.ensures.items, map-append value c.args.every.now.items (c.args.e ∷ []), c.in_ok-push_each.ensures.lists)
    (every-more aspect_of is_every (pointed c.args.names.now.keys) (pointed c.args.every.now.items) (pointed_lists c.args.aspects.now.items) entries c.args.e.now (sym c.if-is_every.ensures) a)

pub returns-in_ok-push_row-clause-lists : goal.returns-in_ok-push_row-clause-lists
returns-in_ok-push_row-clause-lists c = λ entries a.
    rw (c.in_ok-push_row.ensures.names, c.in_ok-push_row.ensures.lists, c.aspect.ensures, c.deref.ensures.value)
    (own-more aspect_of is_every (pointed c.args.names.now.keys) (pointed c.args.every.now.items) (pointed_lists c.args.aspects.now.items) entries c.args.e.now (sym c.if-is_every.ensures) a)
