-- The members of a position report in the byte order of their keys, as they are written.
use Rattle.std.specs.Prelude.{List, [], ◌∷◌, ◌++◌, Some, codes, option_map}
use Rattle.etcs_bits.specs.variables.Level.{level_number, m_level}
use Rattle.etcs_radio.specs.Integrity.{length_number, q_length}
use Rattle.etcs_radio.specs.Report.{report_number}
use Rattle.etcs_radio.specs.declared.report.Report.{Report}
use Rattle.etcs_schema.specs.Entries.{Entry}
use Rattle.etcs_schema.specs.KeyedVariables.{row_number}
use Rattle.etcs_json.specs.Report.{side}
use Rattle.etcs_schema.specs.Codec.{optional, number_data}
use Rattle.etcs_schema.specs.Variables.{scale}

-- the members up to NID_PACKET
unfoldable pub first_members : Report → List Entry
first_members r =
    (codes "d_lrbg", Some (number_data r.distance)) ∷ (codes "l_doubtover", Some (number_data r.doubt_over))
    ∷ (codes "l_doubtunder", Some (number_data r.doubt_under))
    ∷ (codes "l_trainint", optional number_data (row_number 1 (q_length.rows r.length)))
    ∷ (codes "m_level", Some (number_data (level_number r.level)))
    ∷ (codes "m_mode", Some (number_data r.mode))
    ∷ (codes "nid_bg", Some (number_data r.lrbg.group)) ∷ (codes "nid_c", Some (number_data r.lrbg.country))
    ∷ (codes "nid_ntc", optional number_data (row_number 1 (m_level.rows r.level)))
    ∷ (codes "nid_packet", Some (number_data (report_number r))) ∷ []

-- the members after NID_PACKET; only packet 1 has the previous group
unfoldable pub last_members : Report → List Entry
last_members r =
    (codes "prv_nid_bg", optional number_data (option_map (λ i. i.group) r.previous))
    ∷ (codes "prv_nid_c", optional number_data (option_map (λ i. i.country) r.previous))
    ∷ (codes "q_dirlrbg", Some (side.to r.orientation)) ∷ (codes "q_dirtrain", Some (side.to r.running))
    ∷ (codes "q_dlrbg", Some (side.to r.side))
    ∷ (codes "q_length", Some (number_data (length_number r.length)))
    ∷ (codes "q_scale", Some (scale.to r.scale)) ∷ (codes "v_train", Some (number_data r.speed)) ∷ []

abbrev pub written_members : Report → List Entry
written_members r = first_members r ++ last_members r
