-- Packet 0, the virtual balise cover marker (SUBSET-026, 3.15.9 and 7.4.2): eight bits of
-- NID_PACKET and six of NID_VBCMK.
use Rattle.std.specs.Prelude.{ℕ, refl}
use Rattle.etcs_bits.specs.layout.Format.{Format, number, ◌before◌, struct}
use Rattle.etcs_bits.specs.layout.Struct.{Struct, two_ways}
use Rattle.etcs_profile.specs.Packet.{nid_packet}
use Rattle.etcs_profile.specs.declared.track.cover.CoverMarker.{CoverMarker}

-- NID_VBCMK, 6 bits: the number of the marker
abbrev pub nid_vbcmk : Format ℕ
nid_vbcmk = number 6

-- a marker, and its number
abbrev pub cover_struct : Struct ℕ CoverMarker
cover_struct = two_ways (λ n. record { marker = n }) (λ c. c.marker) (λ _. refl) (λ _. refl)

-- NID_PACKET, NID_VBCMK
abbrev pub cover_marker : Format CoverMarker
cover_marker = struct cover_struct (nid_packet 0 before nid_vbcmk)
