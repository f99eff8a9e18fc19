use Rattle.std.proofs.Common.{◌≡◌, ◌-◌, ◌≤◌, length, drop}
use Rattle.json.specs.Lex.{between, lex}
use Rattle.etcs_document.proofs.token_reader.pass_blanks.Given as goal

-- all bytes so far are blanks
abbrev pub invariant-blanks : goal.invariant-blanks
invariant-blanks l = (l.at ≤ length l.rest) × (lex between (drop l.at l.rest) ≡ lex between l.rest)

abbrev pub decreases-blanks : goal.decreases-blanks
decreases-blanks l = length l.rest - l.at
