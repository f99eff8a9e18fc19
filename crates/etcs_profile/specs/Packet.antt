-- A packet: its number, its direction, its length and its body (SUBSET-026, 7.4).
use Rattle.std.specs.Prelude.{ℕ}
use Rattle.etcs_bits.specs.declared.layout.fault.FaultKind.TheVariants.{Spare}
use Rattle.etcs_bits.specs.declared.variables.direction.Dir.{Dir}
use Rattle.etcs_bits.specs.layout.Format.{Format, fixed, ◌then◌, ◌before◌, behind_length}
use Rattle.etcs_bits.specs.variables.VariableFormats.{q_dir}

-- NID_PACKET of a known packet: the packet's own number
abbrev pub nid_packet : ℕ → Format (Unit {0})
nid_packet k = fixed 8 k Spare

-- what follows NID_PACKET: Q_DIR, L_PACKET, the body; L_PACKET counts the 10 bits of NID_PACKET and
-- Q_DIR too
abbrev pub rest : {X : Type 0} → Format X → Format (Dir × X)
rest body = q_dir then behind_length 10 body

-- packet k with this body
abbrev pub packet : {X : Type 0} → ℕ → Format X → Format (Dir × X)
packet k body = nid_packet k before rest body
