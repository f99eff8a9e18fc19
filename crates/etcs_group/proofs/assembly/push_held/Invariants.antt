use Rattle.std.proofs.Common.{◌≡◌, ◌++◌, take}
use Rattle.std.specs.List.{filter}
use Rattle.etcs_profile.specs.Track.{holds}
use Rattle.etcs_group.specs.Places.{pointed}
use Rattle.etcs_group.proofs.assembly.push_held.Given as goal

-- of the packets so far, those that hold are pushed
abbrev pub invariant-packets : goal.invariant-packets
invariant-packets l = pointed l.packets.items ≡ pointed l.initial.packets.items ++ filter (holds l.run) (take l.packet-index l.telegram.packets)
