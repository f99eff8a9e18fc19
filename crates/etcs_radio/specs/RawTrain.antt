-- A train packet of any other number (SUBSET-026, 7.4.1): its number, its length, and its body as
-- bits. Packets from train to track have no Q_DIR.
use Rattle.std.specs.Prelude.{◌≡◌, ℕ, ◌<◌, Bool, true, false, List, length, Ok, refl}
use Rattle.std.proofs.Common.{sym, ap, subst, ◌∙◌}
use Rattle.std.proofs.Math.Bool.{Bool-set}
use Rattle.std.proofs.lemmas.Bool.{and_parts, true≢false}
use Rattle.etcs_bits.specs.layout.Rows.{AreAllowed, Place}
use Rattle.etcs_bits.specs.layout.Choice.{Choice}
use Rattle.etcs_bits.specs.layout.Format.{Format, kept_bits, others as of_others, chosen}
use Rattle.etcs_bits.specs.layout.Combined.{is_countable}
use Rattle.etcs_bits.specs.layout.Reading.{read_rows}
use Rattle.etcs_bits.proofs.KeptLemmas.{kept_fit}
use Rattle.etcs_profile.specs.Growth.{grows_by_number}
use Rattle.etcs_radio.specs.declared.raw_train.RawTrainPacket.{RawTrainPacket}
use Rattle.etcs_radio.specs.TrainNumbers.{is_kept_number, is_kept, nid_raw}
use Rattle.etcs_radio.specs.FoundRaw.{raw, raw_if_kept, make_raw}

-- ---- the parts of a packet make that packet

pub raw_back : (n : ℕ) (body : List Bool) (h : is_kept n (length body) ≡ true) (b : Bool)
    (e : is_kept n (length body) ≡ b) → raw_if_kept n body b e ≡ raw n body h
raw_back n body h true e =
    ap (λ (k : is_kept n (length body) ≡ true). raw n body k) (Bool-set (is_kept n (length body)) true e h)
raw_back n body h false e = absurd (true≢false (sym h ∙ e))

pub raw_again : (r : RawTrainPacket) → make_raw r.number r.body ≡ r
raw_again r = raw_back r.number r.body r.kept (is_kept r.number (length r.body)) refl

-- what follows a number that is kept as bits are the parts of a packet with that number
pub raw_has : (n : ℕ) (body : List Bool) → is_kept_number n ≡ true → AreAllowed ((kept_bits 8).rows body)
    → ((make_raw n body).number ≡ n) × ((make_raw n body).body ≡ body)
raw_has n body other allowed =
    let made = raw_back n body (rw (other, kept_fit 8 body allowed) refl) (is_kept n (length body)) refl in
    subst (λ (r : RawTrainPacket). (r.number ≡ n) × (r.body ≡ body)) (sym made) (refl, refl)

pub other_of : (n bits : ℕ) → is_kept n bits ≡ true → is_kept_number n ≡ true
other_of n bits kept = (and_parts (is_kept_number n) (is_countable 8 bits) kept).0

-- ---- the packet

-- every number but those of position reports and the end mark, with L_PACKET and the body after it
abbrev pub others : Choice RawTrainPacket
others =
    of_others is_kept_number (kept_bits 8) (λ r. r.number) (λ r. r.body) make_raw
    (λ r. other_of r.number (length r.body) r.kept) raw_again raw_has

abbrev pub raw_train_packet : Format RawTrainPacket
raw_train_packet = chosen nid_raw others (λ _. refl)

-- ---- where reading a packet may ask for memory

-- L_PACKET and a body that is not empty are here: the body is copied
abbrev pub copy_grows : Place → Type 0
copy_grows p =
    (body : List Bool) × (q : Place) × (read_rows (kept_bits 8).fields p ≡ Ok ((kept_bits 8).rows body, q))
    × (0 < length body)

-- NID_PACKET of a packet that is kept as bits is here, and the body after it is copied
abbrev pub raw_train_grows : Place → Type 0
raw_train_grows = grows_by_number nid_raw (λ _. copy_grows)
