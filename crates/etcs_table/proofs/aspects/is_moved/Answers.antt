use Rattle.std.proofs.Common.{◌==◌, ◌∙◌, ap, not}
use Rattle.std.specs.List.{list_any}
use Rattle.etcs_table.specs.Groups.{place_in}
use Rattle.etcs_table.specs.Pointed.{pointed_lists}
use Rattle.etcs_table.proofs.aspects.is_moved.Goals as goal

pub returns : goal.returns
returns c = c.is_elsewhere.ensures ∙ ap (λ n. list_any (λ b. not (place_in c.args.e.now b == n)) (pointed_lists c.args.aspects.now)) c.first_place.ensures
