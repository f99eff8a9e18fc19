-- Train packets that are kept as bits.
use Rattle.std.proofs.Common.{◌≡◌, ℕ, Bool, List, sym, ap, ◌∙◌}
use Rattle.etcs_radio.specs.RawTrain.{raw_again}
use Rattle.etcs_radio.specs.FoundRaw.{make_raw}
use Rattle.etcs_radio.specs.declared.raw_train.RawTrainPacket.{RawTrainPacket}

-- raw packets with equal numbers and bodies are equal
pub raw_parts : (v w : RawTrainPacket) → v.number ≡ w.number → v.body ≡ w.body → v ≡ w
raw_parts v w p q =
    sym (raw_again v)
    ∙ ap (λ (n : ℕ). make_raw n v.body) p
    ∙ ap (λ (b : List Bool). make_raw w.number b) q
    ∙ raw_again w
