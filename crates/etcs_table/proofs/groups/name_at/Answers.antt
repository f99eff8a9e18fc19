use Rattle.std.proofs.Common.{sym}
use Rattle.etcs_table.proofs.ListLemmas.{name-there, no-name}
use Rattle.etcs_table.proofs.groups.name_at.Goals as goal

pub returns-in-Some : goal.returns-in-Some
returns-in-Some c = name-there c.args.names.now.keys c.args.place c.in-Some.name.now c.in-Some.ensures.key

pub returns-in-None : goal.returns-in-None
returns-in-None c = sym (no-name c.args.names.now.keys c.args.place c.in-None.ensures.key)
