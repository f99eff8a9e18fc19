use Rattle.std.proofs.Common.{◌≡◌, take}
use Rattle.std.specs.Str.Parse.{AllDigits, digits_value}
use Rattle.etcs_schema.proofs.json_value.numbers.plain_number.Given as goal

-- the digits so far, and their number
abbrev pub invariant-digits : goal.invariant-digits
invariant-digits l = AllDigits 10 (take l.byte-index l.text) × (digits_value 10 (take l.byte-index l.text) ≡ l.number)
