-- The forms of position reports, train packets 0 and 1 (SUBSET-026, 7.4.3). Each key is named as the
-- standard names its variable, in small letters. The standard has the identity of a group as one
-- variable, NID_LRBG or NID_PRVLRBG. Here its country and its number are two keys. Keys are in the order
-- in which they are read.
use Rattle.std.specs.Prelude.{◌≡◌, ◌+◌, ◌*◌, ◌/◌, ◌<◌, ◌==◌, ◌⊎◌, ℕ, true, List, [], ◌∷◌, codes, refl}
use Rattle.etcs_schema.specs.Prelude.{inl, inr, arith, AreAllowed, alone, plain, nid_bg, nid_c}
use Rattle.etcs_bits.specs.declared.variables.identity.Identity.{Identity}
use Rattle.etcs_bits.specs.variables.Identity.{identity as identity_layout, identity_struct}
use Rattle.etcs_radio.specs.Integrity.{length_numbered, q_length}
use Rattle.etcs_radio.specs.Lrbg.{lrbg_rows}
use Rattle.etcs_radio.specs.Report.{WithOne, WithTwo, again, d_lrbg, l_doubtover, l_doubtunder, m_mode, report_parts, make_report, report_variable, situation as situation_layout, v_train, with_one as with_one_layout, with_two as with_two_layout}
use Rattle.etcs_bits.specs.variables.Train3.{train3_names, train3_number, train3_value, train3_variable}
use Rattle.etcs_radio.specs.declared.report.Report.{Report}
use Rattle.etcs_bits.specs.declared.variables.train3.Train3.{Train3}
use Rattle.etcs_schema.specs.Choices.{Choice, numbered_members, chosen, either, last}
use Rattle.etcs_schema.specs.Head.{Packet}
use Rattle.etcs_schema.specs.KeyedVariables.{HasKeys, keys_by, keyed_variables}
use Rattle.etcs_schema.specs.Codec.{MemberCodec, Codec, key, renamed, sized, struct, with_bits, ◌then◌}
use Rattle.etcs_json.specs.Transition.{level}
use Rattle.etcs_schema.specs.Variables.{is_allowed, named_numbers, number, scale}

-- the identity of a group, as its country and its number there
abbrev pub identity : List ℕ → List ℕ → MemberCodec identity_layout.rows
identity country group =
    struct identity_struct (key country (number nid_c.fields) then key group (number nid_bg.fields))

-- a group whose bits are one number of 24 bits
pub lrbg_allowed : (i : Identity) → AreAllowed (lrbg_rows i) → AreAllowed (identity_layout.rows i)
unfolding alone
lrbg_allowed i allowed =
    let whole : i.country * 16384 + i.group < 16777216 = allowed.0.0 in
    let rest : i.group / 16384 < 1 = allowed.1.0.0 in
    ((omega (arith, whole), refl), ((omega (arith, rest), refl), tt))

-- NID_LRBG or NID_PRVLRBG, as its country and its number there
abbrev pub lrbg : List ℕ → List ℕ → MemberCodec lrbg_rows
lrbg country group = with_bits lrbg_rows lrbg_allowed (identity country group)

-- Q_DIRLRBG, Q_DLRBG and Q_DIRTRAIN: a direction or a side, as seen from the group
abbrev pub side : Codec Train3
side = named_numbers train3_variable train3_number train3_value train3_names

pub length_keys : (n : ℕ) → HasKeys (length_numbered.next n) (codes "l_trainint" ∷ [])
length_keys n =
    keys_by _ _ _ (n == 0) tt
    (keys_by _ _ _ (n == 1) (refl, λ _. tt) (keys_by _ _ _ (n == 2) (refl, λ _. tt) tt))

-- Q_LENGTH, and L_TRAININT at 1 and 2: whether the train is complete, and its length
abbrev pub integrity : MemberCodec q_length.rows
integrity = keyed_variables (codes "q_length" ∷ codes "l_trainint" ∷ []) q_length (refl, length_keys)

-- ---- the members after the groups

-- where the train is, as seen from the group; whether it is complete, how it runs, in which mode and level
unfoldable pub situation : MemberCodec situation_layout.rows
situation =
    key (codes "d_lrbg") (number d_lrbg.fields)
    then key (codes "q_dirlrbg") side then key (codes "q_dlrbg") side
    then key (codes "l_doubtover") (number l_doubtover.fields)
    then key (codes "l_doubtunder") (number l_doubtunder.fields)
    then integrity then key (codes "v_train") (number v_train.fields)
    then key (codes "q_dirtrain") side
    then key (codes "m_mode") (number m_mode.fields) then level (codes "m_level")

-- ---- the packets

-- packet 0
unfoldable pub with_one : Packet 0 with_one_layout.rows
unfolding situation
with_one =
    numbered_members
    (sized 8 (key (codes "q_scale") scale then lrbg (codes "nid_c") (codes "nid_bg") then situation)) refl

-- packet 1: the previous group comes after the group
unfoldable pub with_two : Packet 1 with_two_layout.rows
unfolding situation
with_two =
    numbered_members (sized 8 (key (codes "q_scale") scale then lrbg (codes "nid_c") (codes "nid_bg")
    then lrbg (codes "prv_nid_c") (codes "prv_nid_bg") then situation)) refl

-- packet 0 or 1
abbrev pub either_report : Choice (codes "nid_packet") report_variable (WithOne ⊎ WithTwo)
either_report = either with_one (last with_two) refl

pub either_nid : (v : WithOne ⊎ WithTwo) → is_allowed (plain 1) (either_report.number v) ≡ true
either_nid (inl p) = refl
either_nid (inr p) = refl

-- a position report; NID_PACKET is read first
unfoldable pub report : Codec Report
report = renamed make_report report_parts again
    (chosen (codes "nid_packet") (is_allowed (plain 1)) either_report (λ v _. either_nid v))
