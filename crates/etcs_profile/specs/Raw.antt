-- A packet of any other number (SUBSET-026, 7.4.1): its head, and its body as bits.
use Rattle.std.specs.Prelude.{◌≡◌, ℕ, Bool, true, false, List, length, refl}
use Rattle.std.proofs.Common.{sym, ap, subst, ◌∙◌}
use Rattle.std.proofs.Math.Bool.{Bool-set}
use Rattle.std.proofs.lemmas.Bool.{and_parts, true≢false}
use Rattle.etcs_bits.specs.declared.variables.direction.Dir.{Dir}
use Rattle.etcs_bits.specs.layout.Rows.{AreAllowed}
use Rattle.etcs_bits.specs.lemmas.RowLemmas.{allowed_second}
use Rattle.etcs_bits.specs.layout.Choice.{Choice}
use Rattle.etcs_bits.specs.layout.Format.{Format, ◌then◌, kept_bits, others as of_others, chosen}
use Rattle.etcs_bits.specs.layout.Combined.{is_countable}
use Rattle.etcs_bits.specs.variables.VariableFormats.{q_dir}
use Rattle.etcs_bits.proofs.KeptLemmas.{kept_fit}
use Rattle.etcs_profile.specs.declared.raw.RawPacket.{RawPacket}
use Rattle.etcs_profile.specs.PacketNumbers.{is_kept_number, is_kept, nid_raw}
use Rattle.etcs_profile.specs.FoundRaw.{raw, raw_if_kept, make_raw}

-- what follows NID_PACKET: Q_DIR, L_PACKET, the body
abbrev pub raw_rest : Format (Dir × List Bool)
raw_rest = q_dir then kept_bits 10

-- ---- the parts of a packet make that packet

pub raw_back : (n : ℕ) (dir : Dir) (body : List Bool) (h : is_kept n (length body) ≡ true) (b : Bool)
    (e : is_kept n (length body) ≡ b) → raw_if_kept n dir body b e ≡ raw n dir body h
raw_back n dir body h true e =
    ap (λ (k : is_kept n (length body) ≡ true). raw n dir body k)
    (Bool-set (is_kept n (length body)) true e h)
raw_back n dir body h false e = absurd (true≢false (sym h ∙ e))

pub raw_again : (r : RawPacket) → make_raw r.number (r.dir, r.body) ≡ r
raw_again r = raw_back r.number r.dir r.body r.kept (is_kept r.number (length r.body)) refl

-- what follows a number that is kept as bits are the parts of a packet with that number
pub raw_has : (n : ℕ) (p : Dir × List Bool) → is_kept_number n ≡ true → AreAllowed (raw_rest.rows p)
    → ((make_raw n p).number ≡ n) × (((make_raw n p).dir, (make_raw n p).body) ≡ p)
raw_has n p other allowed =
    let few = kept_fit 10 p.1 (allowed_second (q_dir.rows p.0) ((kept_bits 10).rows p.1) allowed) in
    let made = raw_back n p.0 p.1 (rw (other, few) refl) (is_kept n (length p.1)) refl in
    subst (λ (r : RawPacket). (r.number ≡ n) × ((r.dir, r.body) ≡ p)) (sym made) (refl, refl)

pub other_of : (n bits : ℕ) → is_kept n bits ≡ true → is_kept_number n ≡ true
other_of n bits kept = (and_parts (is_kept_number n) (is_countable 10 bits) kept).0

-- ---- the packet

-- every number that is not known, and what follows it
abbrev pub others : Choice RawPacket
others =
    of_others is_kept_number raw_rest (λ r. r.number) (λ r. (r.dir, r.body)) make_raw
    (λ r. other_of r.number (length r.body) r.kept) raw_again raw_has

abbrev pub raw_packet : Format RawPacket
raw_packet = chosen nid_raw others (λ _. refl)
