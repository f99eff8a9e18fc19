use Rattle.std.proofs.Common.{◌∙◌, sym, ap}
use Rattle.etcs_table.specs.Groups.{place_in}
use Rattle.etcs_table.specs.Pointed.{pointed}
use Rattle.etcs_table.proofs.ListLemmas.{first-list, no-list}
use Rattle.etcs_table.proofs.aspects.first_place.Goals as goal

pub returns-in-Some : goal.returns-in-Some
returns-in-Some c =
    c.place_in.ensures ∙ ap (place_in c.args.e.now) (ap pointed c.deref.ensures.value ∙ first-list c.args.aspects.now c.in-Some.balises.now c.in-Some.ensures.value)

pub returns-in-None : goal.returns-in-None
returns-in-None c = sym (ap (place_in c.args.e.now) (no-list c.args.aspects.now c.in-None.ensures.value))
