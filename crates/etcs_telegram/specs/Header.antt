-- The header of a telegram: 50 bits (SUBSET-026, 8.4.2).
use Rattle.std.specs.Prelude.{ℕ, Bool, refl}
use Rattle.etcs_bits.specs.declared.layout.fault.FaultKind.TheVariants.{Downlink, Loop}
use Rattle.etcs_bits.specs.declared.variables.duplicate.Dup.{Dup}
use Rattle.etcs_bits.specs.declared.variables.identity.Identity.{Identity}
use Rattle.etcs_bits.specs.declared.variables.version.Version.{Version}
use Rattle.etcs_bits.specs.layout.Format.{Format, number, flag, fixed, ◌then◌, ◌before◌, struct}
use Rattle.etcs_bits.specs.layout.Struct.{Struct, two_ways}
use Rattle.etcs_bits.specs.variables.VariableFormats.{m_version, m_dup}
use Rattle.etcs_bits.specs.variables.Identity.{identity}
use Rattle.etcs_telegram.specs.declared.header.Header.{Header}

-- Q_UPDOWN, 1 bit: only 1, track to train, is read
abbrev pub q_updown : Format (Unit {0})
q_updown = fixed 1 1 Downlink

-- Q_MEDIA, 1 bit: only 0, a balise, is read
abbrev pub q_media : Format (Unit {0})
q_media = fixed 1 0 Loop

-- N_PIG, 3 bits: the position of the balise in its group
abbrev pub n_pig : Format ℕ
n_pig = number 3

-- N_TOTAL, 3 bits: the number of balises in the group, less one
abbrev pub n_total : Format ℕ
n_total = number 3

-- M_MCOUNT, 8 bits: the message counter
abbrev pub m_mcount : Format ℕ
m_mcount = number 8

-- Q_LINK, 1 bit: 1 means linked
abbrev pub q_link : Format Bool
q_link = flag

-- a header, and its fields in order; Q_UPDOWN and Q_MEDIA are none
abbrev pub header_struct : Struct (Version × (ℕ × (ℕ × (Dup × (ℕ × (Identity × Bool)))))) Header
header_struct =
    two_ways
    (λ p. record {
      version = p.0;
      position = p.1.0;
      total = p.1.1.0;
      dup = p.1.1.1.0;
      counter = p.1.1.1.1.0;
      identity = p.1.1.1.1.1.0;
      linked = p.1.1.1.1.1.1;
    })
    (λ h. (h.version, (h.position, (h.total, (h.dup, (h.counter, (h.identity, h.linked)))))))
    (λ _. refl) (λ _. refl)

-- the header; its identity is NID_C and NID_BG
abbrev pub header : Format Header
header =
    struct header_struct
    (q_updown before m_version
    then q_media before n_pig
    then n_total
    then m_dup
    then m_mcount
    then identity
    then q_link)
