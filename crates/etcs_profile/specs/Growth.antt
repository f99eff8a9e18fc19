-- Where reading a packet from track to train may ask for memory: at a list that is not empty, and at a body
-- of bits that is copied and not empty. Reading comes there before any fault.
use Rattle.std.specs.Prelude.{◌≡◌, ◌<◌, ℕ, Bool, true, false, List, length, Ok}
use Rattle.etcs_bits.specs.declared.variables.direction.Dir.{Dir}
use Rattle.etcs_bits.specs.layout.Rows.{Variable, Place}
use Rattle.etcs_bits.specs.layout.Format.{Format}
use Rattle.etcs_bits.specs.layout.Growth.{GrowsAfter, EitherGrows, HasItems, GrowsBehindLength}
use Rattle.etcs_bits.specs.layout.Reading.{read_field, read_rows}
use Rattle.etcs_bits.specs.variables.VariableFormats.{q_dir, q_scale}
use Rattle.etcs_profile.specs.Terms.{v_loa, t_loa}
use Rattle.etcs_profile.specs.Transition.{d_leveltr, level_order}
use Rattle.etcs_profile.specs.PacketNumbers.{nid_raw}
use Rattle.etcs_profile.specs.Raw.{raw_rest}

-- ---- bodies

-- a scale and elements: the first element grows, or there are further ones
abbrev pub elements_grow : {X : Type 0} → (Place → Type 0) → Format X → Place → Type 0
elements_grow Grows element = GrowsAfter q_scale.fields (EitherGrows Grows element.fields HasItems)

-- the conditions of packets 12 and 15 have sections
abbrev pub terms_grow : Place → Type 0
terms_grow = GrowsAfter v_loa.fields (GrowsAfter t_loa.fields HasItems)

-- a level transition order has further levels
abbrev pub orders_grow : Place → Type 0
orders_grow = GrowsAfter q_scale.fields (GrowsAfter d_leveltr.fields (GrowsAfter level_order.fields HasItems))

-- this if the test holds, else the other
abbrev pub grows_if : Bool → (Place → Type 0) → (Place → Type 0) → Place → Type 0
grows_if true Grows Other = Grows
grows_if false Grows Other = Other

-- ---- what follows NID_PACKET

-- Q_DIR and L_PACKET are there, and the body after them grows
abbrev pub rest_grows : (Place → Type 0) → Place → Type 0
rest_grows Body = GrowsAfter q_dir.fields (GrowsBehindLength Body)

-- what follows the number of a packet that is kept as bits is there, and its body is not empty
abbrev pub copy_grows : Place → Type 0
copy_grows p =
    (rest : Dir × List Bool) × (q : Place) × (read_rows raw_rest.fields p ≡ Ok (raw_rest.rows rest, q))
    × (0 < length rest.1)

-- ---- packets

-- NID_PACKET is there, and what follows its number grows
abbrev pub grows_by_number : Variable → (ℕ → Place → Type 0) → Place → Type 0
grows_by_number nid Rest p = (n : ℕ) × (q : Place) × (read_field nid p ≡ Ok (n, q)) × Rest n q

-- a packet that is kept as bits
abbrev pub raw_grows : Place → Type 0
raw_grows = grows_by_number nid_raw (λ _. copy_grows)
