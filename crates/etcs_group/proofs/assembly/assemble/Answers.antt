use Rattle.std.proofs.Common.{sym, ◌∙◌}
use Rattle.std.proofs.lemmas.Option.{none-some}
use Rattle.etcs_group.specs.Places.{pointed}
use Rattle.etcs_group.proofs.RefusalLemmas.{refusal-from_accepted, accepted_from-refusal}
use Rattle.etcs_group.proofs.assembly.assemble.Goals as goal

-- What is accepted is not refused.
pub returns-in-Some-clause-memory : goal.returns-in-Some-clause-memory
returns-in-Some-clause-memory c = λ accepted. absurd (none-some c.in-Some.why (sym (refusal-from_accepted c.args.run (pointed c.args.read.now) accepted) ∙ sym c.in-Some.ensures))

-- What is not refused is accepted.
pub returns-in_ok-packets-in-None-clause-accepted : goal.returns-in_ok-packets-in-None-clause-accepted
returns-in_ok-packets-in-None-clause-accepted c = accepted_from-refusal c.args.run (pointed c.args.read.now) (sym c.in-None.ensures)
