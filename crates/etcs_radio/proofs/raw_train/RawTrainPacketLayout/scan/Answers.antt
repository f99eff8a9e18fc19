use Rattle.std.proofs.Common.{◌≡◌, Ok, refl, sym, ◌∙◌}
use Rattle.etcs_bits.specs.layout.Reading.{read_field}
use Rattle.etcs_bits.proofs.SumLemmas.{number_read, chosen_gives}
use Rattle.etcs_radio.specs.TrainNumbers.{nid_raw}
use Rattle.etcs_radio.specs.RawTrain.{copy_grows, others}
use Rattle.etcs_profile.proofs.GrowthLemmas.{memory_follows}
use Rattle.etcs_radio.proofs.raw_train.RawTrainPacketLayout.scan.Goals as goal

-- the number is one that is kept as bits
number : (c : goal.After-scan_rest) → read_field nid_raw c.args.cur.now ≡ Ok (c.in_ok-number.number, c.take.new.self)
number c =
    let small = c.has_number.ensures.small c.if-not-has_number.false in
    let other = sym (c.has_number.ensures.value small) ∙ c.if-not-has_number.false in
    number_read nid_raw c.in_ok-number.number c.args.cur.now c.take.new.self refl other c.in_ok-number.ensures.exact

-- what follows it is read
pub returns-clause-gives : goal.returns-clause-gives
returns-clause-gives c =
    chosen_gives (λ r. r) nid_raw others c.in_ok-number.number c.args.cur.now c.take.new.self c.scan_rest.new.cur c.scan_rest.result (number c) c.scan_rest.ensures.gives

pub returns-clause-memory : goal.returns-clause-memory
returns-clause-memory c =
    memory_follows c.scan_rest.result (λ (copies : copy_grows c.take.new.self). (c.in_ok-number.number, c.take.new.self, number c, copies)) c.scan_rest.ensures.memory
