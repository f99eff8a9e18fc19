-- A train packet that is kept as bits, made again from its rows.
-- Pinned by the law a_record_is_read_as_it_is_spelled.
use Rattle.std.specs.Prelude.{◌≡◌, ℕ, Bool, true, false, List, [], length, refl}
use Rattle.etcs_radio.specs.declared.raw_train.RawTrainPacket.{RawTrainPacket}
use Rattle.etcs_radio.specs.TrainNumbers.{is_kept}

-- The packet of these parts. If they make no packet, the value is packet 2 without a body; the laws show that
-- allowed rows never lead there.
abbrev pub raw : (n : ℕ) → (body : List Bool) → is_kept n (length body) ≡ true → RawTrainPacket
raw n body kept = record { number = n; body = body; kept = kept }

abbrev pub raw_if_kept : (n : ℕ) → (body : List Bool)
    → (b : Bool) → is_kept n (length body) ≡ b → RawTrainPacket
raw_if_kept n body true kept = raw n body kept
raw_if_kept n body false other = raw 2 [] refl

abbrev pub make_raw : ℕ → List Bool → RawTrainPacket
make_raw n body = raw_if_kept n body (is_kept n (length body)) refl
