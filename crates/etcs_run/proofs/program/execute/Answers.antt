use Rattle.std.proofs.Common.{◌≡◌, ap, rules}
use Rattle.etcs_run.specs.Commands.{command_output}
use Rattle.etcs_run.specs.declared.command.Command.TheVariants.{Encode}
use Rattle.etcs_run.proofs.RunLemmas.{Ran-as, Ran-known}
use Rattle.etcs_run.proofs.program.execute.Goals as goal

-- a telegram's form is an object of its members
pub returns-in-Encode-clause-ran : goal.returns-in-Encode-clause-ran
returns-in-Encode-clause-ran g c =
    let encode : c.args.command ≡ Encode = search rules in
    Ran-as (λ s. ap (λ o. command_output o s) encode) c.answer_each-in-Encode.ensures.ran

pub returns-in-Encode-clause-known : goal.returns-in-Encode-clause-known
returns-in-Encode-clause-known g c = Ran-known _ (returns-in-Encode-clause-ran g c)
