-- Telegrams as text: the hexadecimal digits of their bytes. The bytes hold the user bits, and then
-- zeros, the pad bits, up to a whole byte. Digits of either case are read. Lower-case digits are
-- written.
use Rattle.std.specs.Prelude.{◌≡◌, ◌≢◌, ℕ, Bool, false, List, ◌++◌, length, take, drop, replicate, Result, Ok, Err}
use Rattle.hex.specs.Hex.{decode_of, encode_lower, IsBytes}
use Rattle.etcs_digits.specs.Hexadecimal.{IsHexadecimal}
use Rattle.etcs_bits.specs.declared.layout.fault.Fault.{Fault}
use Rattle.etcs_bits.specs.bits.Number.{bits_of_bytes}
use Rattle.etcs_bits.specs.layout.Fault.{IsFault}
use Rattle.etcs_packet.specs.declared.stop.Stop.TheVariants as stops
use Rattle.etcs_packet.specs.Whole.{IsFollowed, start}
use Rattle.etcs_telegram.specs.declared.size.Size.{Size}
use Rattle.etcs_telegram.specs.declared.error.TextError.{TextError}
use Rattle.etcs_telegram.specs.declared.error.TextError.TheVariants as errors
use Rattle.etcs_telegram.specs.Header.{header}
use Rattle.etcs_telegram.specs.Record.{Telegram}
use Rattle.etcs_telegram.specs.Sizes.{user_bits, byte_count, pad_count}
use Rattle.etcs_telegram.specs.Telegram.{IsTelegram, IsTelegramFault, IsNoTelegram, IsEncoding}

-- the user bits of bytes, in a telegram of this size, and the pad bits after them
abbrev pub take_user_bits : Size → List ℕ → List Bool
take_user_bits size bytes = take (user_bits size) (bits_of_bytes bytes)

abbrev pub take_pad_bits : Size → List ℕ → List Bool
take_pad_bits size bytes = drop (user_bits size) (bits_of_bytes bytes)

-- zeros, as many as a telegram of this size has pad bits
abbrev pub no_pads : Size → List Bool
no_pads size = replicate (pad_count size) false

-- There are as many bytes as a telegram of this size has. All pad bits are zeros.
pub record ArePadded (size : Size) (bytes : List ℕ) : Type 0 where
  pub count : length bytes ≡ byte_count size
  pub padding : take_pad_bits size bytes ≡ no_pads size

-- The text is this telegram.
pub record IsTelegramText (t : Telegram) (text : List ℕ) : Type 0 where
  pub bytes : List ℕ
  pub decoded : decode_of text ≡ Ok bytes
  pub padded : ArePadded t.size bytes
  pub telegram : IsTelegram t (take_user_bits t.size bytes)

-- The text is the canonical text of this telegram: its bits filled up with ones, zeros as pad bits,
-- in lower-case digits.
pub record IsCanonicalText (t : Telegram) (text : List ℕ) : Type 0 where
  pub bits : List Bool
  pub encoding : IsEncoding t bits
  pub bytes : List ℕ
  pub in_range : IsBytes bytes
  pub padded : bits_of_bytes bytes ≡ bits ++ no_pads t.size
  pub written : text ≡ encode_lower bytes

-- the bytes would be a telegram's, but a pad bit is set
pub record HavePadSet (bytes : List ℕ) : Type 0 where
  pub size : Size
  pub count : length bytes ≡ byte_count size
  pub set : take_pad_bits size bytes ≢ no_pads size

-- the bytes would be a telegram's, but the user bits have a fault
pub record HaveFault (bytes : List ℕ) (f : Fault) : Type 0 where
  pub size : Size
  pub padded : ArePadded size bytes
  pub first : IsTelegramFault (take_user_bits size bytes) f
  pub none : IsNoTelegram (take_user_bits size bytes) f

-- the bytes would be a telegram's, but its header has a fault
pub record HaveHeaderFault (bytes : List ℕ) (f : Fault) : Type 0 where
  pub size : Size
  pub padded : ArePadded size bytes
  pub first : IsFault header.fields (start (take_user_bits size bytes)) f

-- the bytes are a telegram's up to its header, and a packet is due after the header
pub record HavePackets (bytes : List ℕ) : Type 0 where
  pub size : Size
  pub padded : ArePadded size bytes
  pub followed : IsFollowed stops.Telegram header.rows (start (take_user_bits size bytes))

-- the reason to refuse these bytes holds, and no reason checked earlier does
abbrev pub IsBytesReason : TextError → List ℕ → Type 0
IsBytesReason errors.Memory bytes = Unit {0}
IsBytesReason errors.NotHex bytes = ⊥
IsBytesReason errors.WrongSize bytes = (size : Size) → length bytes ≢ byte_count size
IsBytesReason errors.PadBits bytes = HavePadSet bytes
IsBytesReason (errors.Fault f) bytes = HaveFault bytes f

-- the reason to refuse a hexadecimal text holds of its bytes
pub record IsReasonDecoded (e : TextError) (text : List ℕ) : Type 0 where
  pub bytes : List ℕ
  pub decoded : decode_of text ≡ Ok bytes
  pub reason : IsBytesReason e bytes

-- the text would be a telegram's, but its header has a fault
pub record HasHeaderFault (text : List ℕ) (f : Fault) : Type 0 where
  pub bytes : List ℕ
  pub decoded : decode_of text ≡ Ok bytes
  pub fault : HaveHeaderFault bytes f

-- the text is a telegram's up to its header, and a packet is due after the header
pub record HasPackets (text : List ℕ) : Type 0 where
  pub bytes : List ℕ
  pub decoded : decode_of text ≡ Ok bytes
  pub packets : HavePackets bytes

-- The reason to refuse a text holds, and no reason checked earlier does.
abbrev pub IsReason : TextError → List ℕ → Type 0
IsReason errors.Memory text = Unit {0}
IsReason errors.NotHex text = IsHexadecimal text → ⊥
IsReason e text = IsReasonDecoded e text

-- ---- what a function returns

-- the error is that memory ran out, or the one that the text means
abbrev pub TextFails : TextError → Result Telegram TextError → Type 0
TextFails errors.Memory meaning = Unit {0}
TextFails e meaning = meaning ≡ Err e

-- What a function returned is what the text means, unless memory ran out.
abbrev pub IsTextMeaning : Result Telegram TextError → Result Telegram TextError → Type 0
IsTextMeaning (Ok t) meaning = meaning ≡ Ok t
IsTextMeaning (Err e) meaning = TextFails e meaning
