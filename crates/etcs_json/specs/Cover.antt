-- The form of virtual balise cover markers, packet 0 (SUBSET-026, 7.4.2).
use Rattle.std.specs.Prelude.{codes, refl}
use Rattle.etcs_profile.specs.Cover.{cover_marker as cover_layout, cover_struct, nid_vbcmk}
use Rattle.etcs_schema.specs.Choices.{numbered_members}
use Rattle.etcs_schema.specs.Head.{Packet, numbered}
use Rattle.etcs_schema.specs.Codec.{ObjectMembers, closed, key, struct}
use Rattle.etcs_schema.specs.Variables.{number}

-- packet 0
unfoldable pub cover : Packet 0 nid_vbcmk.rows
cover = numbered_members (key (codes "nid_vbcmk") (number nid_vbcmk.fields)) refl

-- a cover marker, packet 0, as a struct
unfoldable pub cover_marker : ObjectMembers cover_layout.rows
cover_marker =
    closed (struct cover_struct (numbered cover)) cover.readable
