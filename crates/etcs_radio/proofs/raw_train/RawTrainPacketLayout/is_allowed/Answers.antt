use Rattle.std.proofs.Common.{◌<◌, length, refl, arith}
use Rattle.std.proofs.lemmas.Bool.{and_parts}
use Rattle.etcs_bits.specs.layout.Rows.{alone}
use Rattle.etcs_bits.specs.layout.Combined.{is_countable}
use Rattle.etcs_bits.proofs.KeptLemmas.{kept_allowed}
use Rattle.etcs_radio.specs.TrainNumbers.{is_kept_number}
use Rattle.etcs_radio.proofs.raw_train.RawTrainPacketLayout.is_allowed.Goals as goal

pub returns-clause-allowed : goal.returns-clause-allowed
unfolding alone
returns-clause-allowed c =
    let r = c.args.self.now in
    let small : r.number < 256 = omega (arith, c.number-number.ensures.number, c.number-number.type_inv) in
    let kept = and_parts (is_kept_number r.number) (is_countable 8 (length r.body)) r.kept in
    (λ _. ((small, kept.0), kept_allowed 8 r.body kept.1), λ _. refl)
