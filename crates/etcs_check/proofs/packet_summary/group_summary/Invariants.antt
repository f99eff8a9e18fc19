use Rattle.std.proofs.Common.{◌≡◌, length}
use Rattle.etcs_check.specs.PacketSummary.{both, packets_summary}
use Rattle.etcs_check.proofs.SaidLemmas.{said_from}
use Rattle.etcs_check.proofs.packet_summary.group_summary.Given as goal

-- the summary so far and the summary of the rest make the whole
abbrev pub invariant-places : goal.invariant-places
invariant-places l =
    both l.said (packets_summary (said_from l.run (length l.group) l.place l.group)) ≡ packets_summary (said_from l.run (length l.group) 0 l.group)
