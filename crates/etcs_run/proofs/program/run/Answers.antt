use Rattle.std.proofs.Common.{◌≡◌, None, ◌∙◌, sym, ap, rules}
use Rattle.std.proofs.lemmas.Result.{err_from_is_err_and}
use Rattle.etcs_document.specs.Refusal.{refusal_words}
use Rattle.etcs_document.specs.declared.refusal.Refusal.TheVariants.{Usage}
use Rattle.etcs_run.specs.Commands.{of_command, program_output}
use Rattle.etcs_run.proofs.RunLemmas.{Ran-as, Ran-known, Ran-nothing, Ran-unread}
use Rattle.etcs_run.proofs.program.run.Goals as goal

-- the command is the command of the words
pub returns-clause-ran : goal.returns-clause-ran
unfolding program_output
returns-clause-ran g c =
    Ran-as (λ s. ap (λ o. of_command o s) (sym c.in_ok-command.ensures ∙ c.in-Some.is)) c.execute.ensures.ran

pub returns-clause-known : goal.returns-clause-known
returns-clause-known g c = Ran-known _ (returns-clause-ran g c)

-- without a command the usage line is written
pub returns-in_default-clause-ran : goal.returns-in_default-clause-ran
unfolding program_output
returns-in_default-clause-ran g c =
    let line : c.as_bytes.result.now ≡ refusal_words Usage = search rules in
    let none : c.in_ok-command.field-0 ≡ None = search rules in
    Ran-as (λ s. ap (λ o. of_command o s) (sym c.in_ok-command.ensures ∙ none))
    (Ran-unread (rw line at c.write_out.ensures.writes))

pub returns-in_default-clause-known : goal.returns-in_default-clause-known
returns-in_default-clause-known g c = Ran-known _ (returns-in_default-clause-ran g c)

-- memory ran out before anything was read
pub returns-in_err-command-clause-ran : goal.returns-in_err-command-clause-ran
returns-in_err-command-clause-ran g c =
    let passed_on = err_from_is_err_and c.from_residual.result c.from_residual.ensures.1 in
    rw passed_on.1 (Ran-nothing passed_on.0)

pub returns-in_err-command-clause-known : goal.returns-in_err-command-clause-known
returns-in_err-command-clause-known g c = Ran-known _ (returns-in_err-command-clause-ran g c)
