use Rattle.std.proofs.Common.{◌≡◌, drop, filter}
use Rattle.etcs_profile.specs.Track.{holds}
use Rattle.etcs_check.specs.PacketSummary.{both, packets_summary}
use Rattle.etcs_check.proofs.packet_summary.add_packets.Given as goal

-- the summary so far and the summary of the rest make the whole
abbrev pub invariant-packets : goal.invariant-packets
invariant-packets l =
    both l.said (packets_summary (filter (holds l.run) (drop l.packet-index l.packets))) ≡ both l.fn.so_far (packets_summary (filter (holds l.run) l.packets))
