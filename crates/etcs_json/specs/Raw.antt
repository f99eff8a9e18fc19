-- The form of packets whose layout is not known (SUBSET-026, 7.4.1). Their bodies are kept as bits.
use Rattle.std.specs.Prelude.{codes, refl}
use Rattle.etcs_profile.specs.FoundRaw.{make_raw}
use Rattle.etcs_profile.specs.PacketNumbers.{nid_raw}
use Rattle.etcs_profile.specs.Raw.{raw_again, raw_packet as raw_layout}
use Rattle.etcs_schema.specs.CountedBody.{counted_body}
use Rattle.etcs_schema.specs.Codec.{ObjectMembers, closed, key, named, ◌then◌}
use Rattle.etcs_schema.specs.Variables.{direction, variable}

-- a track packet whose number is neither a known packet's nor the end mark's; 10 bits precede L_PACKET
unfoldable pub raw_packet : ObjectMembers raw_layout.rows
raw_packet =
    closed (named
    (λ p. make_raw p.0 p.1)
    (λ r. (r.number, (r.dir, r.body)))
    raw_again
    (key (codes "nid_packet") (variable nid_raw)
    then key (codes "q_dir") direction then counted_body 10)) refl
