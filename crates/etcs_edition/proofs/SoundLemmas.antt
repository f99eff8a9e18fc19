-- What soundness names is the same by the edition: for which running direction a packet is, and the identity of a group.
use Rattle.std.proofs.Common.{◌≡◌, ℕ, true, List, [], ◌∷◌, Option, Some, None, refl}
use Rattle.etcs_bits.specs.declared.variables.direction.Dir.{Dir}
use Rattle.etcs_bits.specs.declared.variables.direction.Dir.TheVariants as dirs
use Rattle.etcs_profile.specs.declared.run.Run.{Run}
use Rattle.etcs_profile.specs.declared.run.Run.TheVariants as runs
use Rattle.etcs_profile.specs.declared.track.TrackPacket.{TrackPacket}
use Rattle.etcs_profile.specs.declared.track.TrackPacket.TheVariants as packets
use Rattle.etcs_profile.specs.Authority.{AuthorityValue}
use Rattle.etcs_profile.specs.RunningDirection.{is_for_run}
use Rattle.etcs_profile.specs.Track.{holds}
use Rattle.etcs_group.specs.Group.{Aspects}
use Rattle.etcs_check.specs.Soundness.{group_identity as soundness_identity}
use Rattle.etcs_edition.specs.Wire.{Field}
use Rattle.etcs_edition.specs.Variables.{dir_field}
use Rattle.etcs_edition.specs.TrackPackets.{track_packet_fields, authority_fields}
use Rattle.etcs_edition.specs.Sound.{is_for, group_identity}

by_dir : (run : Run) (dir : Dir) (n l : Field) (body : List Field) → is_for run (n ∷ dir_field dir ∷ l ∷ body) ≡ is_for_run run dir
by_dir runs.Nominal dirs.Reverse n l body = refl
by_dir runs.Nominal dirs.Nominal n l body = refl
by_dir runs.Nominal dirs.Both n l body = refl
by_dir runs.Reverse dirs.Reverse n l body = refl
by_dir runs.Reverse dirs.Nominal n l body = refl
by_dir runs.Reverse dirs.Both n l body = refl

of_cover : (run : Run) (n m : Field) → is_for run (n ∷ m ∷ []) ≡ true
of_cover runs.Nominal n m = refl
of_cover runs.Reverse n m = refl

of_authority : (run : Run) (a : AuthorityValue) (main : Option ℕ) → is_for run (authority_fields a main) ≡ is_for_run run a.dir
of_authority run a (Some v) = by_dir run a.dir _ _ _
of_authority run a None = by_dir run a.dir _ _ _

pub for_same : (run : Run) (p : TrackPacket) → is_for run (track_packet_fields p) ≡ holds run p
for_same run (packets.Cover p) = of_cover run _ _
for_same run (packets.Linking p) = by_dir run p.0 _ _ _
for_same run (packets.Authority a) = of_authority run a a.main
for_same run (packets.Gradient p) = by_dir run p.0 _ _ _
for_same run (packets.Speed p) = by_dir run p.0 _ _ _
for_same run (packets.Transition p) = by_dir run p.0 _ _ _
for_same run (packets.Raw p) = by_dir run p.dir _ _ _

pub identity_same : (aspects : Aspects) → group_identity aspects ≡ soundness_identity aspects
identity_same [] = refl
identity_same ([] ∷ aspects) = refl
identity_same ((t ∷ group) ∷ aspects) = refl
