-- The reasons to refuse a record, as numbers, and the place of the fault. A fault of the text has no place.
use Rattle.std.specs.Prelude.{ℕ}
use Rattle.etcs_bits.specs.declared.layout.fault.Fault.{Fault as BitFault}
use Rattle.etcs_bits.specs.declared.layout.fault.FaultKind.{FaultKind}
use Rattle.etcs_bits.specs.declared.layout.fault.FaultKind.TheVariants.{Short, Spare, Length, NoEnd, Version, Loop, Downlink, MessageKind, NoAuthority, NoReport}
use Rattle.etcs_radio.specs.declared.error.RadioTextError.{RadioTextError}
use Rattle.etcs_radio.specs.declared.error.RadioTextError.TheVariants as radio
use Rattle.etcs_telegram.specs.declared.error.TextError.{TextError}
use Rattle.etcs_telegram.specs.declared.error.TextError.TheVariants as texts
use Rattle.balisecheck_c.specs.declared.fault.Fault.{Fault}

-- what is wrong at the place of a field
abbrev pub kind_number : FaultKind → ℕ
kind_number Short = 10
kind_number Spare = 11
kind_number Length = 12
kind_number NoEnd = 13
kind_number Version = 14
kind_number Loop = 15
kind_number Downlink = 16
kind_number MessageKind = 17
kind_number NoAuthority = 18
kind_number NoReport = 19

-- a fault of the bits, at its place
abbrev pub bit_fault : BitFault → Fault
bit_fault f = record { reason = kind_number f.why; at = f.at; end = f.end }

-- a fault of the text
abbrev pub text_fault : ℕ → Fault
text_fault n = record { reason = n; at = 0; end = 0 }

-- the record is not refused
abbrev pub no_fault : Fault
no_fault = text_fault 0

-- why a text is not read as a telegram; lack of memory is not a fault
abbrev pub telegram_fault : TextError → Fault
telegram_fault texts.Memory = no_fault
telegram_fault texts.NotHex = text_fault 1
telegram_fault texts.WrongSize = text_fault 2
telegram_fault texts.PadBits = text_fault 3
telegram_fault (texts.Fault f) = bit_fault f

-- why a text is not read as a radio message
abbrev pub message_fault : RadioTextError → Fault
message_fault radio.Memory = no_fault
message_fault radio.NotHex = text_fault 1
message_fault (radio.Fault f) = bit_fault f
