use Rattle.std.proofs.Common.{rules, ◌≡◌, refl, arith}
use Rattle.std.specs.Prelude.{IsTrue}
use Rattle.etcs_bits.proofs.NumberLemmas.{worth_of_digit}
use Rattle.etcs_bits.specs.layout.Rows.{alone}
use Rattle.etcs_bits.specs.variables.Variables.{version_variable, duplicate_variable}
use Rattle.etcs_telegram.proofs.header.scan_far.Goals as goal

-- the fields that are there and allowed are read one after the other
pub returns : goal.returns
unfolding alone
returns c =
    let sender = c.in_ok-sender.sender in
    let track : sender.0 ≡ 1 = omega (arith, c.if-sender-ne1.false) in
    let medium : sender.2 ≡ 0 = omega (arith, c.if-sender-ne0.false) in
    let version : IsTrue (version_variable.allows sender.1) = c.in_ok-version.ensures.allowed.0 (search rules) in
    let dup : IsTrue (duplicate_variable.allows c.in_ok-balise.balise.2) = c.in_ok-dup.ensures.allowed.0 (search rules) in
    let bit = worth_of_digit c.in-Ok.linked c.in-Ok.ensures.small in
    rw (
      c.in_ok-version.ensures.some,
      c.in_ok-dup.ensures.some,
      c.of_field.ensures,
      c.of_field-2.ensures,
      c.of_field-3.ensures,
      c.of_field-4.ensures,
      c.of_field-5.ensures,
      c.in_ok-sender.ensures.first,
      track,
      c.in_ok-sender.ensures.second,
      version,
      c.in_ok-sender.ensures.third,
      medium,
      c.in_ok-balise.ensures.first,
      c.in_ok-balise.ensures.second,
      c.in_ok-balise.ensures.third,
      dup,
      c.in_ok-group.ensures.first,
      c.in_ok-group.ensures.second,
      c.in_ok-group.ensures.third,
      c.in-Ok.ensures.exact,
      bit,
    ) refl
