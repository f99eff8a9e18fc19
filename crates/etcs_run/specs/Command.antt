-- The command that the words of a command line give. The library `clap` defines which faults the
-- words have, and which subcommand and flags they contain. Words with a fault are not a command. A
-- request for help is one of the faults.
use Rattle.std.specs.Prelude.{List, [], ◌∷◌, codes, Bool, false, Option, Some, None, if◌then◌else◌}
use Rattle.std.specs.Option.{option_map_or}
use Rattle.std.specs.Str.{bytes_eq}
use Rattle.clap.specs.Words.{App, Row, Rule, Text, fault_of, first_of, new_app, new_rule, subcommand_of, with_rule, with_subcommand}
use Rattle.clap.specs.Kinds.{Kinds}
use Rattle.clap.specs.declared.builder.ArgAction.TheVariants.{SetTrue}
use Rattle.etcs_run.specs.declared.command.Command.{Command}
use Rattle.etcs_run.specs.declared.command.Command.TheVariants.{Check, Decode, DecodeRadio, Encode, EncodeRadio}

-- the flag `--radio`
abbrev pub radio : Rule
radio = record (new_rule (codes "radio")) { long = Some (codes "radio"); action = Some SetTrue }

-- a subcommand of this name with the flag
abbrev pub with_flag : Text → App
with_flag name = with_rule (new_app name) radio

-- `balisecheck decode [--radio]`
abbrev pub decode_line : App
decode_line = with_subcommand (new_app (codes "balisecheck")) (with_flag (codes "decode")).top

-- `balisecheck decode [--radio]` and `balisecheck encode [--radio]`
abbrev pub coding_line : App
coding_line = with_subcommand decode_line (with_flag (codes "encode")).top

-- `balisecheck decode [--radio]`, `balisecheck encode [--radio]` and `balisecheck check`
abbrev pub command_line : App
command_line = with_subcommand coding_line (new_app (codes "check")).top

-- whether the flag was given
abbrev pub has_radio : List Row → Bool
has_radio rows = option_map_or (λ v. bytes_eq v (codes "true")) (first_of (codes "radio") rows) false

-- the command `decode`, of telegrams or of radio messages
abbrev pub decode_command : Bool → Command
decode_command radio = if radio then DecodeRadio else Decode

-- the command `encode`, of telegrams or of radio messages
abbrev pub encode_command : Bool → Command
encode_command radio = if radio then EncodeRadio else Encode

-- the command of this name, with or without the flag
abbrev pub command_named : Text → Bool → Option Command
command_named name radio =
    if bytes_eq name (codes "check") then Some Check
    else (if bytes_eq name (codes "decode") then Some (decode_command radio)
    else (if bytes_eq name (codes "encode") then Some (encode_command radio) else None))

-- the command of the subcommand that was found
abbrev pub entered : Option (Text × List Row) → Option Command
entered None = None
entered (Some found) = command_named found.0 (has_radio found.1)

-- the command, but only if the words have no fault
abbrev pub unless_fault : Kinds → Option Command → Option Command
unless_fault [] command = command
unless_fault (_ ∷ _) command = None

-- the command that the words give, or none; the first word is the program's name
unfoldable pub parsed_command : List Text → Option Command
parsed_command words =
    unless_fault (fault_of command_line words) (entered (subcommand_of command_line words))
