-- How the answer of the library `clap` gives the command of the words.
use Rattle.std.proofs.Common.{◌≡◌, ◌∙◌, ap, sym, refl, true, List, [], ◌∷◌, Option, None, subst}
use Rattle.clap.specs.Words.{App, Row, Text, fault_of, is_simple, is_simple_and_free, subcommand_of}
use Rattle.clap.specs.Kinds.{IsAmong, Kinds}
use Rattle.clap.specs.declared.error.kind.ErrorKind.{ErrorKind}
use Rattle.clap.proofs.OnLiterals.{clap_on_literals}
use Rattle.etcs_run.specs.Command.{command_line, parsed_command, entered, unless_fault}
use Rattle.etcs_run.specs.declared.command.Command.{Command}

-- `clap` states the whole meaning of a command line such as this one
pub command_line_is_simple_and_free : is_simple_and_free command_line ≡ true
unfolding clap_on_literals
command_line_is_simple_and_free = refl

pub command_line_is_simple : is_simple command_line ≡ true
unfolding clap_on_literals
command_line_is_simple = refl

unless_none : {kinds : Kinds} {command : Option Command} → kinds ≡ []
    → command ≡ unless_fault kinds command
unless_none {kinds = []} none = refl
unless_none {kinds = kind ∷ kinds} none = cc

unless_some : (kinds : Kinds) (kind : ErrorKind) (command : Option Command) → IsAmong kind kinds
    → None ≡ unless_fault kinds command
unless_some [] kind command among = absurd among
unless_some (_ ∷ kinds) kind command among = refl

-- words without a fault give the command that was found
pub is_command : (p : App) (words : List Text) {command : Option Command}
    {rows : Option (Text × List Row)} → p ≡ command_line → fault_of p words ≡ []
    → rows ≡ subcommand_of p words → command ≡ entered rows → command ≡ parsed_command words
unfolding parsed_command
is_command p words is none found entry =
    entry ∙ ap entered (found ∙ ap (λ (a : App). subcommand_of a words) is)
    ∙ unless_none (sym (ap (λ (a : App). fault_of a words) is) ∙ none)

-- words with a fault are not a command
pub no_command : (p : App) (words : List Text) (kind : ErrorKind) → p ≡ command_line
    → IsAmong kind (fault_of p words) → None ≡ parsed_command words
unfolding parsed_command
no_command p words kind is among =
    let P : App → Type 0 = λ a. IsAmong kind (fault_of a words) in
    unless_some _ kind _ (subst P is among)
