use Rattle.std.proofs.Common.{◌≡◌, ◌≤◌, drop, length}
use Rattle.std.specs.List.{filter}
use Rattle.etcs_profile.specs.Track.{holds}
use Rattle.etcs_check.proofs.duplicates.next_held.Given as goal

-- the packets that were skipped do not hold
abbrev pub invariant-places : goal.invariant-places
invariant-places l = record {
  same : filter (holds l.run) (drop l.from l.packets) ≡ filter (holds l.run) (drop l.place l.packets);
  within : l.place ≤ length l.packets;
}
