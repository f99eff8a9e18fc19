-- What a text means, as a function of it.
-- Pinned by the law texts_are_read.
-- Pinned by the law reasons_are_read.
use Rattle.std.specs.Prelude.{ℕ, ◌-◌, ◌%◌, ◌^◌, ◌==◌, Bool, if◌then◌else◌, List, length, slice_index, Option, Some, None, Result, Ok, Err}
use Rattle.hex.specs.Hex.{decode_of}
use Rattle.hex.specs.declared.error.FromHexError.{FromHexError}
use Rattle.etcs_bits.specs.declared.layout.fault.Fault.{Fault}
use Rattle.etcs_telegram.specs.declared.size.Size.{Size}
use Rattle.etcs_telegram.specs.declared.size.Size.TheVariants.{Short, Long}
use Rattle.etcs_telegram.specs.declared.error.TextError.{TextError}
use Rattle.etcs_telegram.specs.declared.error.TextError.TheVariants as errors
use Rattle.etcs_telegram.specs.Record.{Telegram}
use Rattle.etcs_telegram.specs.Sizes.{byte_count, pad_count}
use Rattle.etcs_telegram.specs.Text.{take_user_bits}
use Rattle.etcs_telegram.specs.Meaning.{read_telegram}

-- the size of a telegram in `n` bytes
abbrev pub size_from_bytes : ℕ → Option Size
size_from_bytes n = if n == 27 then Some Short else (if n == 104 then Some Long else None)

-- the pad bits, the last bits of the last byte, are zeros
abbrev pub pads_with_zeros : Size → List ℕ → Bool
pads_with_zeros size bytes = slice_index bytes (byte_count size - 1) % 2 ^ pad_count size == 0

-- what the bits mean
abbrev pub of_bits : Result Telegram Fault → Result Telegram TextError
of_bits (Ok t) = Ok t
of_bits (Err f) = Err (errors.Fault f)

-- what bytes of a telegram of this size mean; the pad bits are checked first
abbrev pub of_size : Option Size → List ℕ → Result Telegram TextError
of_size None bytes = Err errors.WrongSize
of_size (Some size) bytes =
    if pads_with_zeros size bytes then of_bits (read_telegram (take_user_bits size bytes))
    else Err errors.PadBits

-- what bytes mean; their number is checked first
abbrev pub of_bytes : List ℕ → Result Telegram TextError
of_bytes bytes = of_size (size_from_bytes (length bytes)) bytes

-- what digits mean, given the bytes that they spell
abbrev pub of_decoded : Result (List ℕ) FromHexError → Result Telegram TextError
of_decoded (Ok bytes) = of_bytes bytes
of_decoded (Err e) = Err errors.NotHex

-- what a text means: its telegram, or the first reason to refuse it
unfoldable pub telegram_of_text : List ℕ → Result Telegram TextError
telegram_of_text text = of_decoded (decode_of text)
