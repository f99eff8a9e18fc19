-- Radio messages as text: the hexadecimal digits of their bytes. Digits of either case are read.
-- Lower-case digits are written.
use Rattle.std.specs.Prelude.{◌≡◌, ℕ, List, length, Result, Ok, Err}
use Rattle.hex.specs.Hex.{decode_of, encode_lower}
use Rattle.etcs_digits.specs.Hexadecimal.{IsHexadecimal}
use Rattle.etcs_bits.specs.declared.layout.fault.Fault.{Fault}
use Rattle.etcs_bits.specs.layout.Fault.{IsFault}
use Rattle.etcs_radio.specs.declared.error.RadioTextError.{RadioTextError}
use Rattle.etcs_radio.specs.declared.error.RadioTextError.TheVariants as errors
use Rattle.etcs_radio.specs.declared.message.Message.{Message}
use Rattle.etcs_radio.specs.Head.{head}
use Rattle.etcs_radio.specs.Message.{beginning, IsMessage, IsMessageFault, IsNoMessage, IsEncoding, MessageGrows}

-- The text is this message.
pub record IsMessageText (m : Message) (text : List ℕ) : Type 0 where
  pub bytes : List ℕ
  pub decoded : decode_of text ≡ Ok bytes
  pub message : IsMessage m bytes

-- The text is the canonical text of this message: its canonical bytes in lower-case digits.
pub record IsCanonicalText (m : Message) (text : List ℕ) : Type 0 where
  pub bytes : List ℕ
  pub encoding : IsEncoding m bytes
  pub written : text ≡ encode_lower bytes

-- The text is hexadecimal, and its bytes have the fault.
pub record HasFault (text : List ℕ) (f : Fault) : Type 0 where
  pub bytes : List ℕ
  pub decoded : decode_of text ≡ Ok bytes
  pub first : IsMessageFault bytes f
  pub none : IsNoMessage bytes f

-- The text is hexadecimal, and the head of its bytes has the fault.
pub record HasHeadFault (text : List ℕ) (f : Fault) : Type 0 where
  pub bytes : List ℕ
  pub decoded : decode_of text ≡ Ok bytes
  pub fault : IsFault (head (length bytes)).fields (beginning bytes) f

-- The text is hexadecimal. Its bytes begin with a head, and the packets after it grow.
pub record HasPackets (text : List ℕ) : Type 0 where
  pub bytes : List ℕ
  pub decoded : decode_of text ≡ Ok bytes
  pub grows : MessageGrows bytes

-- The reason to refuse a text holds, and no reason checked earlier does.
abbrev pub IsReason : RadioTextError → List ℕ → Type 0
IsReason errors.Memory text = Unit {0}
IsReason errors.NotHex text = IsHexadecimal text → ⊥
IsReason (errors.Fault f) text = HasFault text f

-- ---- what a function returns

-- the error is that memory ran out, or the one that the text means
abbrev pub TextFails : RadioTextError → Result Message RadioTextError → Type 0
TextFails errors.Memory meaning = Unit {0}
TextFails e meaning = meaning ≡ Err e

-- What a function returned is what the text means, unless memory ran out.
abbrev pub IsTextMeaning : Result Message RadioTextError → Result Message RadioTextError → Type 0
IsTextMeaning (Ok m) meaning = meaning ≡ Ok m
IsTextMeaning (Err e) meaning = TextFails e meaning
