-- What a text means, as a function of it.
-- Pinned by the law texts_are_read.
-- Pinned by the law reasons_are_read.
use Rattle.std.specs.Prelude.{ℕ, List, Result, Ok, Err}
use Rattle.hex.specs.Hex.{decode_of}
use Rattle.hex.specs.declared.error.FromHexError.{FromHexError}
use Rattle.etcs_bits.specs.declared.layout.fault.Fault.{Fault}
use Rattle.etcs_radio.specs.declared.error.RadioTextError.{RadioTextError}
use Rattle.etcs_radio.specs.declared.error.RadioTextError.TheVariants as errors
use Rattle.etcs_radio.specs.declared.message.Message.{Message}
use Rattle.etcs_radio.specs.Meaning.{read_message}

-- what the bytes mean
abbrev pub of_bytes : Result Message Fault → Result Message RadioTextError
of_bytes (Ok m) = Ok m
of_bytes (Err f) = Err (errors.Fault f)

-- what digits mean, given the bytes that they spell
abbrev pub of_decoded : Result (List ℕ) FromHexError → Result Message RadioTextError
of_decoded (Ok bytes) = of_bytes (read_message bytes)
of_decoded (Err e) = Err errors.NotHex

-- what a text means: its message, or the first reason to refuse it
unfoldable pub message_of_text : List ℕ → Result Message RadioTextError
message_of_text text = of_decoded (decode_of text)
