use Rattle.std.proofs.Common.{◌≡◌, ◌≤◌, ◌-◌, drop, length, slice_get, Some, IsTrue}
use Rattle.std.specs.List.{filter}
use Rattle.std.specs.Cmp.Lexicographic.{pointwise}
use Rattle.etcs_profile.specs.Track.{holds}
use Rattle.etcs_profile.specs.declared.track.TrackPacket.{TrackPacket}
use Rattle.etcs_check.specs.Duplicates.{same_packet}
use Rattle.etcs_check.proofs.duplicates.same_lists.Given as goal

-- the remaining packets decide, and the packets at both places hold
abbrev pub invariant-packets : goal.invariant-packets
invariant-packets l = record {
  left : pointwise same_packet (filter (holds l.run) (drop l.i l.these)) (filter (holds l.run) (drop l.j l.those)) ≡ pointwise same_packet (filter (holds l.run) l.these) (filter (holds l.run) l.those);
  a_within : l.i ≤ length l.these;
  b_within : l.j ≤ length l.those;
  a_holds : (p : TrackPacket) → slice_get l.these l.i ≡ Some p → IsTrue (holds l.run p);
  b_holds : (p : TrackPacket) → slice_get l.those l.j ≡ Some p → IsTrue (holds l.run p);
}

abbrev pub decreases-packets : goal.decreases-packets
decreases-packets l = length l.initial.these - l.i
