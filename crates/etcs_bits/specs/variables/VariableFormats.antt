-- The variables with named values, and the two variables of a balise group's identity, as layouts. Each
-- has its name in the standard's table (SUBSET-026, 7.5.1).
use Rattle.std.specs.Prelude.{ℕ}
use Rattle.etcs_bits.specs.declared.variables.transmission.Transmission.{Transmission}
use Rattle.etcs_bits.specs.declared.variables.medium.Medium.{Medium}
use Rattle.etcs_bits.specs.declared.variables.version.Version.{Version}
use Rattle.etcs_bits.specs.declared.variables.scale.Scale.{Scale}
use Rattle.etcs_bits.specs.declared.variables.direction.Dir.{Dir}
use Rattle.etcs_bits.specs.declared.variables.duplicate.Dup.{Dup}
use Rattle.etcs_bits.specs.variables.Variables.{transmission_variable, transmission_number, medium_variable, medium_number, version_variable, version_number, duplicate_variable, dup_number, scale_variable, scale_number, dir_variable, dir_number}
use Rattle.etcs_bits.specs.variables.VariableValues.{transmission_value, medium_value, version_value, dup_value, scale_value, dir_value}
use Rattle.etcs_bits.specs.layout.Format.{Format, number, names}
use Rattle.etcs_bits.specs.lemmas.VariableLemmas.{names_have_values, transmission_names, medium_names, version_names, dup_names, scale_names, dir_names}

-- Q_UPDOWN, 1 bit: the direction of transmission
abbrev pub q_updown : Format Transmission
q_updown =
    names transmission_variable 1 transmission_number transmission_value
    (names_have_values transmission_names)

-- Q_MEDIA, 1 bit: the medium that sends the telegram
abbrev pub q_media : Format Medium
q_media = names medium_variable 1 medium_number medium_value (names_have_values medium_names)

-- M_VERSION, 7 bits: the version of the ETCS system
abbrev pub m_version : Format Version
m_version = names version_variable 7 version_number version_value (names_have_values version_names)

-- M_DUP, 2 bits: which neighbour the balise duplicates
abbrev pub m_dup : Format Dup
m_dup = names duplicate_variable 2 dup_number dup_value (names_have_values dup_names)

-- Q_SCALE, 2 bits: the unit of distances
abbrev pub q_scale : Format Scale
q_scale = names scale_variable 2 scale_number scale_value (names_have_values scale_names)

-- Q_DIR, 2 bits: the running directions that a packet is for
abbrev pub q_dir : Format Dir
q_dir = names dir_variable 2 dir_number dir_value (names_have_values dir_names)

-- NID_C, 10 bits: the country or region
abbrev pub nid_c : Format ℕ
nid_c = number 10

-- NID_BG, 14 bits: the number of the balise group there
abbrev pub nid_bg : Format ℕ
nid_bg = number 14
