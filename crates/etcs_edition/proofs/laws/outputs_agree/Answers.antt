use Rattle.etcs_json.specs.AnyMessage.{message}
use Rattle.etcs_json.specs.Telegrams.{telegram}
use Rattle.etcs_run.specs.FormLines.{encoded, message_line, telegram_line}
use Rattle.etcs_run.specs.TelegramLines.{telegram_decoded}
use Rattle.etcs_schema.specs.Codec.{object}
use Rattle.etcs_edition.specs.EncodedLines.{IsMessageDigits, IsTelegramDigits}
use Rattle.etcs_edition.specs.Output.{IsTelegramLine}
use Rattle.etcs_edition.proofs.CheckLemmas.{checked_is, is_checked}
use Rattle.etcs_edition.proofs.EncodedLemmas.{encoded_message, encoded_telegram, message_encoded, telegram_encoded}
use Rattle.etcs_edition.proofs.OutputLemmas.{decoded_is, is_decoded, each_line, stream_is, is_stream}
use Rattle.etcs_edition.proofs.laws.outputs_agree.Goals as goal

pub returns-clause-check : goal.returns-clause-check
returns-clause-check c = λ input output. (checked_is input output, is_checked input output)

pub returns-clause-decode : goal.returns-clause-decode
returns-clause-decode c = λ input output.
    (each_line IsTelegramLine telegram_decoded decoded_is input output, λ is. (telegram_decoded, is_decoded, is))

pub returns-clause-decode_radio : goal.returns-clause-decode_radio
returns-clause-decode_radio c = λ input output. (stream_is input output, is_stream input output)

pub returns-clause-encode : goal.returns-clause-encode
returns-clause-encode c = λ input output. (
  each_line IsTelegramDigits (encoded (object telegram) telegram_line) encoded_telegram input output,
  λ is. (encoded (object telegram) telegram_line, telegram_encoded, is),
)

pub returns-clause-encode_radio : goal.returns-clause-encode_radio
returns-clause-encode_radio c = λ input output. (
  each_line IsMessageDigits (encoded message message_line) encoded_message input output,
  λ is. (encoded message message_line, message_encoded, is),
)
