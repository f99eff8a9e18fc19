use Rattle.json.specs.Written.{PlainBetween}
use Rattle.etcs_digits.proofs.json_line_writer.is_plain.Given as goal

-- the bytes so far need no escape
abbrev pub invariant-bytes : goal.invariant-bytes
invariant-bytes l = PlainBetween l.text 0 l.byte-index
