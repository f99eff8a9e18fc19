-- Which trains a packet is for (SUBSET-026, 7.5.1, Q_DIR).
use Rattle.std.specs.Prelude.{Bool, true, false}
use Rattle.etcs_bits.specs.declared.variables.direction.Dir.{Dir}
use Rattle.etcs_bits.specs.declared.variables.direction.Dir.TheVariants as dirs
use Rattle.etcs_profile.specs.declared.run.Run.{Run}
use Rattle.etcs_profile.specs.declared.run.Run.TheVariants as runs

-- whether a packet with this Q_DIR is for trains that run in this direction
abbrev pub is_for_run : Run → Dir → Bool
is_for_run runs.Nominal dirs.Reverse = false
is_for_run runs.Nominal dirs.Nominal = true
is_for_run runs.Nominal dirs.Both = true
is_for_run runs.Reverse dirs.Reverse = true
is_for_run runs.Reverse dirs.Nominal = false
is_for_run runs.Reverse dirs.Both = true
