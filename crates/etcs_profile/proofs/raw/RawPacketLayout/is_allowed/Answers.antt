use Rattle.std.proofs.Common.{◌<◌, length, arith}
use Rattle.std.proofs.lemmas.Bool.{and_parts}
use Rattle.etcs_bits.specs.layout.Rows.{alone}
use Rattle.etcs_bits.specs.layout.Combined.{is_countable}
use Rattle.etcs_bits.specs.layout.Format.{kept_bits}
use Rattle.etcs_bits.specs.variables.VariableFormats.{q_dir}
use Rattle.etcs_bits.proofs.KeptLemmas.{kept_allowed}
use Rattle.etcs_bits.proofs.StandLemmas.{allowed-append}
use Rattle.etcs_profile.specs.PacketNumbers.{is_kept_number}
use Rattle.etcs_profile.proofs.raw.RawPacketLayout.is_allowed.Goals as goal

pub returns-clause-allowed : goal.returns-clause-allowed
unfolding alone
returns-clause-allowed c =
    let r = c.args.self.now in
    let small : r.number < 256 = omega (arith, c.number-number.ensures.number, c.number-number.type_inv) in
    let kept = and_parts (is_kept_number r.number) (is_countable 10 (length r.body)) r.kept in
    let dir = c.is_allowed.ensures.allowed.0 (c.is_allowed.ensures.fit.1 tt) in
    (λ _. ((small, kept.0), allowed-append (q_dir.rows r.dir) ((kept_bits 10).rows r.body) dir (kept_allowed 10 r.body kept.1)), λ _. c.is_allowed.ensures.fit.1 tt)
