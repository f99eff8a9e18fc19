-- Packet 41, level transition order (SUBSET-026, 5.10 and 7.4.2): in which level a train has to
-- run, and from which place.
use Rattle.std.specs.Prelude.{ℕ, List, refl}
use Rattle.etcs_bits.specs.declared.variables.level.Level.{Level}
use Rattle.etcs_bits.specs.declared.variables.scale.Scale.{Scale}
use Rattle.etcs_bits.specs.layout.Format.{Format, number, ◌then◌, several, struct}
use Rattle.etcs_bits.specs.layout.Struct.{Struct, two_ways}
use Rattle.etcs_bits.specs.variables.Level.{m_level}
use Rattle.etcs_bits.specs.variables.VariableFormats.{q_scale}
use Rattle.etcs_profile.specs.declared.track.transition.LevelOrder.{LevelOrder}

-- D_LEVELTR, 15 bits: the distance to the place of the change; 32,767 means now
abbrev pub d_leveltr : Format ℕ
d_leveltr = number 15

-- L_ACKLEVELTR, 15 bits: how far before that place the driver may acknowledge the change
abbrev pub l_ackleveltr : Format ℕ
l_ackleveltr = number 15

-- an order, and its fields in order
abbrev pub level_order_struct : Struct (Level × ℕ) LevelOrder
level_order_struct =
    two_ways
    (λ p. record { level = p.0; acknowledge = p.1 })
    (λ o. (o.level, o.acknowledge)) (λ _. refl) (λ _. refl)

-- an order: M_LEVELTR with NID_NTC, L_ACKLEVELTR
abbrev pub level_order : Format LevelOrder
level_order = struct level_order_struct (m_level then l_ackleveltr)

-- the scale, the distance to the place of the change, the order of highest priority and the others
pub record Orders : Type 0 where
  pub scale : Scale
  pub d_leveltr : ℕ
  pub first : LevelOrder
  pub further : List LevelOrder

-- orders of these parts
abbrev pub orders : Scale → ℕ → LevelOrder → List LevelOrder → Orders
orders scale d_leveltr first further =
    record { scale = scale; d_leveltr = d_leveltr; first = first; further = further }

-- orders, and their fields in order
abbrev pub orders_struct : Struct (Scale × (ℕ × (LevelOrder × List LevelOrder))) Orders
orders_struct =
    two_ways
    (λ p. orders p.0 p.1.0 p.1.1.0 p.1.1.1)
    (λ o. (o.scale, (o.d_leveltr, (o.first, o.further)))) (λ _. refl) (λ _. refl)

-- the body: Q_SCALE, D_LEVELTR, an order, N_ITER and that many more
abbrev pub level_orders : Format Orders
level_orders = struct orders_struct (q_scale then d_leveltr then level_order then several level_order)
