-- A movement authority, packets 12 and 15 (SUBSET-026, 3.8 and 7.4.2): how far a train may run. The
-- two packets differ by V_MAIN, which only packet 12 has.
use Rattle.std.specs.Prelude.{◌≡◌, ℕ, ◌+◌, ◌*◌, ◌<◌, ◌⊎◌, false, Option, Some, None, refl, sum_by}
use Rattle.std.proofs.Common.{inl, inr}
use Rattle.etcs_bits.specs.declared.layout.fault.FaultKind.TheVariants.{Spare}
use Rattle.etcs_bits.specs.declared.variables.direction.Dir.{Dir}
use Rattle.etcs_bits.specs.declared.variables.scale.Scale.{Scale}
use Rattle.etcs_bits.specs.layout.Rows.{Variable, width}
use Rattle.etcs_bits.specs.layout.Choice.{Choice}
use Rattle.etcs_bits.specs.layout.Format.{Format, ranges, ◌then◌, last, either, chosen, named}
use Rattle.etcs_bits.specs.variables.VariableFormats.{q_scale}
use Rattle.etcs_profile.specs.declared.danger_point.DangerPoint.{DangerPoint}
use Rattle.etcs_profile.specs.declared.overlap.Overlap.{Overlap}
use Rattle.etcs_profile.specs.Packet.{rest}
use Rattle.etcs_profile.specs.Reach.{scale_factor}
use Rattle.etcs_profile.specs.Terms.{TermsValue, terms}

-- a movement authority, as contracts see it: Q_DIR, Q_SCALE, V_MAIN if the packet is 12, and the
-- conditions
pub record AuthorityValue : Type 0 where
  pub dir : Dir
  pub scale : Scale
  pub main : Option ℕ
  pub terms : TermsValue

-- an authority made of these parts
abbrev pub authority_value : Dir → Scale → Option ℕ → TermsValue → AuthorityValue
authority_value dir scale main terms =
    record { dir = dir; scale = scale; main = main; terms = terms }

-- V_MAIN, 7 bits: how fast the signal lets a train run, in steps of 5 km/h, 0 to 120
abbrev pub v_main : Format ℕ
v_main = ranges 7 120 128

-- what follows NID_PACKET in packet 12: Q_DIR, L_PACKET, Q_SCALE, V_MAIN, the conditions
abbrev pub WithMain : Type 0
WithMain = Dir × (Scale × (ℕ × TermsValue))

abbrev pub with_main : Format WithMain
with_main = rest (q_scale then v_main then terms)

-- what follows NID_PACKET in packet 15: Q_DIR, L_PACKET, Q_SCALE, the conditions
abbrev pub WithoutMain : Type 0
WithoutMain = Dir × (Scale × TermsValue)

abbrev pub without_main : Format WithoutMain
without_main = rest (q_scale then terms)

-- NID_PACKET, 8 bits: 12 or 15, and what follows each; any other number is spare
abbrev pub authority_numbered : Choice (WithMain ⊎ WithoutMain)
authority_numbered = either 12 with_main (last 15 without_main) refl

abbrev pub authority_variable : Variable
authority_variable = record { width = 8; allows = authority_numbered.allows; refusal = Spare; closes = false }

-- ---- from a packet to its authority, and back

abbrev pub of_packet_12 : WithMain → AuthorityValue
of_packet_12 p = authority_value p.0 p.1.0 (Some p.1.1.0) p.1.1.1

abbrev pub of_packet_15 : WithoutMain → AuthorityValue
of_packet_15 p = authority_value p.0 p.1.0 None p.1.1

abbrev pub parts_by_main : Option ℕ → AuthorityValue → WithMain ⊎ WithoutMain
parts_by_main (Some v) a = inl (a.dir, (a.scale, (v, a.terms)))
parts_by_main None a = inr (a.dir, (a.scale, a.terms))

abbrev pub authority_parts : AuthorityValue → WithMain ⊎ WithoutMain
authority_parts a = parts_by_main a.main a

-- ---- an authority of either packet
-- Pinned by the law a_record_is_read_as_it_is_spelled.

abbrev pub make_authority : WithMain ⊎ WithoutMain → AuthorityValue
make_authority (inl p) = of_packet_12 p
make_authority (inr p) = of_packet_15 p

pub back : (p : WithMain ⊎ WithoutMain) → authority_parts (make_authority p) ≡ p
back (inl p) = refl
back (inr p) = refl

pub again_by : (main : Option ℕ) (a : AuthorityValue)
    → make_authority (parts_by_main main a) ≡ authority_value a.dir a.scale main a.terms
again_by (Some v) a = refl
again_by None a = refl

pub again : (a : AuthorityValue) → make_authority (authority_parts a) ≡ a
again a = again_by a.main a

-- ---- the record

-- a movement authority
abbrev pub authority : Format AuthorityValue
authority =
    named (chosen authority_variable authority_numbered (λ _. refl)) make_authority authority_parts back again

-- NID_PACKET: 12 if the packet has V_MAIN, else 15
abbrev pub authority_number : AuthorityValue → ℕ
authority_number a = authority_numbered.number (authority_parts a)

-- ---- how far the train may run

-- the distance to the end of the authority, in decimetres, from the balise group that sends packet
-- 12, and from the LRBG of the message that has packet 15
abbrev pub authority_end : AuthorityValue → ℕ
authority_end a =
    scale_factor a.scale * (sum_by (λ s. s.length) a.terms.sections + a.terms.l_endsection)

-- how far the supervised location is beyond the end, in the packet's scale: at the end of the
-- overlap if there is one, else at the danger point if there is one, else at the end itself
abbrev pub beyond_end : Option DangerPoint → Option Overlap → ℕ
beyond_end _ (Some overlap) = overlap.length
beyond_end (Some danger_point) None = danger_point.distance
beyond_end None None = 0

-- the distance to the supervised location, in decimetres, from where the authority counts
abbrev pub authority_limit : AuthorityValue → ℕ
authority_limit a =
    authority_end a + scale_factor a.scale * beyond_end a.terms.danger_point a.terms.overlap

-- the packet has more bits than L_PACKET, 13 bits, can count
abbrev pub IsAuthorityTooLong : AuthorityValue → Type 0
IsAuthorityTooLong a = 8191 < width (authority.rows a)
