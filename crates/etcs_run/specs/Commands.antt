-- What each command writes for an input, and what is written for words that are not a command.
use Rattle.std.specs.Prelude.{ℕ, List, [], Option, Some, None}
use Rattle.etcs_json.specs.AnyMessage.{message}
use Rattle.etcs_json.specs.Telegrams.{telegram}
use Rattle.etcs_schema.specs.Codec.{object}
use Rattle.etcs_document.specs.declared.refusal.Refusal.TheVariants.{Usage}
use Rattle.etcs_run.specs.Checking.{check_output}
use Rattle.etcs_run.specs.Command.{parsed_command}
use Rattle.etcs_run.specs.FormLines.{encoded, message_line, telegram_line}
use Rattle.etcs_run.specs.Output.{Output, each_text_line, line_by_line, refusal_output}
use Rattle.etcs_run.specs.RadioStream.{stream_answers}
use Rattle.etcs_run.specs.TelegramLines.{telegram_decoded}
use Rattle.etcs_run.specs.declared.command.Command.{Command}
use Rattle.etcs_run.specs.declared.command.Command.TheVariants.{Check, Decode, DecodeRadio, Encode, EncodeRadio}

-- what is written for a command and an input
abbrev pub command_output : Command → List ℕ → Output
command_output Check input = check_output input
command_output Decode input = each_text_line telegram_decoded input
command_output DecodeRadio input = line_by_line (stream_answers 0 []) input
command_output Encode input = each_text_line (encoded (object telegram) telegram_line) input
command_output EncodeRadio input = each_text_line (encoded message message_line) input

-- what is written for an input, also if there is no command
abbrev pub of_command : Option Command → List ℕ → Output
of_command (Some command) input = command_output command input
of_command None input = refusal_output Usage

-- what is written for some words and an input
unfoldable pub program_output : List (List ℕ) → List ℕ → Output
program_output words input = of_command (parsed_command words) input
