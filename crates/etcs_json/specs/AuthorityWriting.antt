-- The members of a movement authority in the byte order of their keys, as they are written.
use Rattle.std.specs.Prelude.{List, [], ◌∷◌, Some, codes}
use Rattle.etcs_schema.specs.Prelude.{array}
use Rattle.etcs_profile.specs.Authority.{AuthorityValue, authority_number}
use Rattle.etcs_json.specs.Authority.{danger_point, end_timer, overlap, section, section_timer}
use Rattle.etcs_schema.specs.Entries.{Entry}
use Rattle.etcs_schema.specs.Codec.{encoded_items, object, optional, number_data}
use Rattle.etcs_schema.specs.Variables.{direction, scale}

-- only packet 12 has V_MAIN
unfoldable pub written_members : AuthorityValue → List Entry
written_members a =
    (codes "danger_point", optional (object danger_point).to a.terms.danger_point)
    ∷ (codes "end_speed", Some (number_data a.terms.end_speed))
    ∷ (codes "end_timeout", Some (number_data a.terms.end_timeout))
    ∷ (codes "end_timer", optional (object end_timer).to a.terms.end_timer)
    ∷ (codes "l_endsection", Some (number_data a.terms.l_endsection))
    ∷ (codes "nid_packet", Some (number_data (authority_number a)))
    ∷ (codes "overlap", optional (object overlap).to a.terms.overlap)
    ∷ (codes "q_dir", Some (direction.to a.dir))
    ∷ (codes "q_scale", Some (scale.to a.scale))
    ∷ (codes "section_timer", optional (object section_timer).to a.terms.section_timer)
    ∷ (codes "sections", Some (array (encoded_items (object section).to a.terms.sections)))
    ∷ (codes "v_main", optional number_data a.main)
    ∷ []
