use Rattle.std.proofs.Common.{◌≡◌, ◌++◌, drop}
use Rattle.etcs_group.specs.Packets.{assembled}
use Rattle.etcs_group.specs.Places.{pointed}
use Rattle.etcs_group.proofs.StepLemmas.{packets_from}
use Rattle.etcs_group.proofs.assembly.packets.Given as goal

-- the packets so far and those of the remaining telegrams are all packets
abbrev pub invariant-telegrams : goal.invariant-telegrams
invariant-telegrams l = pointed l.packets.items ++ packets_from l.run (pointed l.read) l.place (drop l.place (pointed l.read)) ≡ assembled l.run (pointed l.read)
