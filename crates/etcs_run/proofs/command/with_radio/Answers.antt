use Rattle.std.proofs.Common.{◌≡◌, ◌∙◌, ap₂, rules}
use Rattle.clap.specs.Words.{rule_of, with_rule}
use Rattle.etcs_run.specs.Command.{radio}
use Rattle.etcs_run.proofs.command.with_radio.Goals as goal

-- the flag is added to a subcommand without others
pub returns-clause-app : goal.returns-clause-app
returns-clause-app c =
    let flag : rule_of c.action-flag.result ≡ radio = search rules in
    c.in_ok-whole.ensures.shape (search rules) ∙ ap₂ with_rule c.new-start.ensures.app flag
