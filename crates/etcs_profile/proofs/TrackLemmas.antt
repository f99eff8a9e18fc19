-- A packet's rows by itself and in a list have the same bits.
use Rattle.std.proofs.Common.{◌≡◌, ℕ, Bool, true, false, List, ◌++◌, Option, Some, None, arith, length, refl}
use Rattle.std.specs.Prelude.{◌==◌, ◌||◌, not}
use Rattle.etcs_bits.specs.layout.Rows.{Row, alone, AreAllowed, join, width}
use Rattle.etcs_profile.specs.Authority.{AuthorityValue, authority_value, parts_by_main, authority}
use Rattle.etcs_profile.specs.declared.track.TrackPacket.{TrackPacket}
use Rattle.etcs_profile.specs.declared.track.TrackPacket.TheVariants as packets
use Rattle.etcs_profile.specs.PacketNumbers.{is_known, is_kept_number, nid_track}
use Rattle.etcs_profile.specs.Raw.{raw_rest, other_of}
use Rattle.etcs_profile.specs.Track.{track_numbered, numbered_authority, track_packet, own_rows}

-- the rows of an authority that has this V_MAIN or none, as one of a list and by itself
abbrev listed : Option ℕ → AuthorityValue → List Row
listed main a =
    let p = numbered_authority (parts_by_main main a) in
    alone nid_track (track_numbered.number p) ++ track_numbered.rows p

abbrev own : Option ℕ → AuthorityValue → List Row
own main a = authority.rows (authority_value a.dir a.scale main a.terms)

authority_join : (main : Option ℕ) (a : AuthorityValue) → join (listed main a) ≡ join (own main a)
unfolding alone
authority_join (Some v) a = refl
authority_join None a = refl

authority_width : (main : Option ℕ) (a : AuthorityValue) → width (listed main a) ≡ width (own main a)
unfolding alone
authority_width (Some v) a = refl
authority_width None a = refl

authority_allowed : (main : Option ℕ) (a : AuthorityValue) → AreAllowed (own main a) → AreAllowed (listed main a)
unfolding alone
authority_allowed (Some v) a allowed = allowed
authority_allowed None a allowed = allowed

pub track_join : (p : TrackPacket) → join (track_packet.rows p) ≡ join (own_rows p)
unfolding alone
track_join (packets.Authority p) = authority_join p.main p
track_join p = refl

pub track_width : (p : TrackPacket) → width (track_packet.rows p) ≡ width (own_rows p)
unfolding alone
track_width (packets.Authority p) = authority_width p.main p
track_width p = refl

not_mark : (known mark : Bool) → not (known || mark) ≡ true → not mark ≡ true
not_mark true mark h = absurd cc
not_mark false mark h = h

pub track_allowed : (p : TrackPacket) → AreAllowed (own_rows p) → AreAllowed (track_packet.rows p)
unfolding alone
track_allowed (packets.Authority p) allowed = authority_allowed p.main p allowed
track_allowed (packets.Raw p) allowed =
    ((allowed.0.0, not_mark (is_known p.number) (p.number == 255) (other_of p.number (length p.body) p.kept)), allowed.1)
track_allowed p allowed = allowed

-- ---- reading

-- what follows a number that is none of the known ones
pub other_next : (n : ℕ) → is_kept_number n ≡ true → track_numbered.next n ≡ raw_rest.fields
other_next n other = grind (arith, other)
