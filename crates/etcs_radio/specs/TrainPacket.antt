-- The packets from train to track (SUBSET-026, 7.4.3): position reports, and all others.
use Rattle.std.specs.Prelude.{◌≡◌, ℕ, ◌==◌, ◌||◌, ◌⊎◌, not, if◌then◌else◌, Bool, true, false, List, refl}
use Rattle.std.proofs.Common.{ap, sym, ◌∙◌, inl, inr}
use Rattle.std.proofs.lemmas.Bool.{ne_eqb, true≢false}
use Rattle.etcs_bits.specs.layout.Rows.{Row}
use Rattle.etcs_bits.specs.layout.Choice.{Choice}
use Rattle.etcs_bits.specs.layout.Format.{Format, either, chosen, named}
use Rattle.etcs_radio.specs.declared.raw_train.RawTrainPacket.{RawTrainPacket}
use Rattle.etcs_radio.specs.declared.train_packet.TrainPacket.{TrainPacket}
use Rattle.etcs_radio.specs.declared.train_packet.TrainPacket.TheVariants as packets
use Rattle.etcs_radio.specs.Report.{WithOne, WithTwo, with_one, with_two, make_report, report_numbered, report_parts, again as report_again, report}
use Rattle.etcs_radio.specs.RawTrain.{others, raw_train_packet}
use Rattle.etcs_profile.specs.PacketNumbers.{nid_track as nid_train}

-- NID_PACKET, and what follows it
abbrev pub NumberedTrainPacket : Type 0
NumberedTrainPacket = WithOne ⊎ (WithTwo ⊎ RawTrainPacket)

abbrev pub train_numbered : Choice NumberedTrainPacket
train_numbered = either 0 with_one (either 1 with_two others refl) refl

-- ---- the number of a packet with what follows

-- a position report as one of all packets
abbrev pub numbered_report : WithOne ⊎ WithTwo → NumberedTrainPacket
numbered_report (inl p) = inl p
numbered_report (inr p) = inr (inl p)

abbrev pub train_parts : TrainPacket → NumberedTrainPacket
train_parts (packets.Report r) = numbered_report (report_parts r)
train_parts (packets.Raw p) = inr (inr p)

-- ---- the packet of a number with what follows
-- Pinned by the law a_record_is_read_as_it_is_spelled.

abbrev pub make_train_packet : NumberedTrainPacket → TrainPacket
make_train_packet (inl p) = packets.Report (make_report (inl p))
make_train_packet (inr (inl p)) = packets.Report (make_report (inr p))
make_train_packet (inr (inr p)) = packets.Raw p

pub back : (n : NumberedTrainPacket) → train_parts (make_train_packet n) ≡ n
back (inl p) = refl
back (inr (inl p)) = refl
back (inr (inr p)) = refl

train_of_report : (s : WithOne ⊎ WithTwo)
    → make_train_packet (numbered_report s) ≡ packets.Report (make_report s)
train_of_report (inl p) = refl
train_of_report (inr p) = refl

pub again : (p : TrainPacket) → make_train_packet (train_parts p) ≡ p
again (packets.Report r) = train_of_report (report_parts r) ∙ ap packets.Report (report_again r)
again (packets.Raw p) = refl

-- ---- any number but the end mark's has a packet

allowed_by : (a b m : Bool) → ((if a then true else b) ≡ true → m ≡ false)
    → not m ≡ (if a then true else (if b then true else not ((if a then true else b) || m)))
allowed_by true b m no_end = rw (no_end refl) refl
allowed_by false true m no_end = rw (no_end refl) refl
allowed_by false false m no_end = refl

report_is_no_end : (n : ℕ) → report_numbered.allows n ≡ true → (n == 255) ≡ false
report_is_no_end n known =
    ne_eqb n 255 (λ end. true≢false (sym known ∙ ap report_numbered.allows end))

pub all_but_the_end : (n : ℕ) → nid_train.allows n ≡ train_numbered.allows n
all_but_the_end n = allowed_by (n == 0) (n == 1) (n == 255) (report_is_no_end n)

-- a packet of a list
abbrev pub train_packet : Format TrainPacket
train_packet =
    named (chosen nid_train train_numbered all_but_the_end) make_train_packet train_parts back again

-- the rows of a packet by itself; they have the same bits as in a list
abbrev pub own_rows : TrainPacket → List Row
own_rows (packets.Report r) = report.rows r
own_rows (packets.Raw p) = raw_train_packet.rows p

-- ---- what users ask of a packet

-- NID_PACKET
abbrev pub train_number : TrainPacket → ℕ
train_number p = train_numbered.number (train_parts p)

-- whether a packet is a position report
abbrev pub is_report : TrainPacket → Bool
is_report (packets.Report r) = true
is_report (packets.Raw p) = false
