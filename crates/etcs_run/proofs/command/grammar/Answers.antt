use Rattle.std.proofs.Common.{ap, ap₂, ◌∙◌}
use Rattle.clap.specs.Words.{App, with_subcommand}
use Rattle.etcs_run.proofs.command.grammar.Goals as goal

-- one subcommand after the other
pub returns : goal.returns
returns c =
    let top = λ (a : App). a.top in
    let one = c.in_ok-one.ensures.shape c.in_ok-decode.ensures.local
    ∙ ap₂ with_subcommand c.new-program.ensures.app (ap top c.in_ok-decode.ensures.app) in
    let both = c.in_ok-both.ensures.shape c.in_ok-encode.ensures.local
    ∙ ap₂ with_subcommand one (ap top c.in_ok-encode.ensures.app) in
    c.in_ok-all.ensures.shape c.new-check.ensures.local
    ∙ ap₂ with_subcommand both (ap top c.new-check.ensures.app)
