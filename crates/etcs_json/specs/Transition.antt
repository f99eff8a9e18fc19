-- The form of level transition orders, packet 41 (SUBSET-026, 7.4.2). NID_NTC is present only at
-- level NTC. `transitions` is this project's: it names the list of levels by priority.
use Rattle.std.specs.Prelude.{ℕ, ◌==◌, List, [], ◌∷◌, codes, refl}
use Rattle.etcs_bits.specs.variables.Level.{level_numbered, m_level}
use Rattle.etcs_profile.specs.Packet.{rest}
use Rattle.etcs_profile.specs.Transition.{d_leveltr, l_ackleveltr, level_order as level_order_layout, level_order_struct, level_orders, orders_struct}
use Rattle.etcs_schema.specs.Choices.{numbered_members}
use Rattle.etcs_schema.specs.Head.{Packet, headed, scaled}
use Rattle.etcs_schema.specs.KeyedVariables.{HasKeys, keys_by, keyed_variables}
use Rattle.etcs_schema.specs.Codec.{ObjectMembers, MemberCodec, closed, key, non_empty_list, object, struct, ◌then◌}
use Rattle.etcs_schema.specs.Variables.{number}

pub level_keys : (n : ℕ) → HasKeys (level_numbered.next n) (codes "nid_ntc" ∷ [])
level_keys n =
    keys_by _ _ _ (n == 0) tt
    (keys_by _ _ _ (n == 1) (refl, λ _. tt) (keys_by _ _ _ (n == 2) tt (keys_by _ _ _ (n == 3) tt tt)))

-- the number of a level at this key, and NID_NTC
abbrev pub level : List ℕ → MemberCodec m_level.rows
level name = keyed_variables (name ∷ codes "nid_ntc" ∷ []) m_level (refl, level_keys)

-- one level of the order
unfoldable pub level_order : ObjectMembers level_order_layout.rows
level_order =
    closed (struct level_order_struct
    (level (codes "m_leveltr") then key (codes "l_ackleveltr") (number l_ackleveltr.fields))) refl

-- packet 41
unfoldable pub transition : Packet 41 (rest level_orders).rows
unfolding level_order
transition =
    numbered_members (headed (struct orders_struct (scaled
    (key (codes "d_leveltr") (number d_leveltr.fields)
    then key (codes "transitions") (non_empty_list (object level_order)))))) refl
