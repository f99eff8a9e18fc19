-- The message of an accepted list, and the message of a group with nothing missed (this project's rule,
-- after SUBSET-026, 3.16.2). Of two duplicates that are both read, only the first one that is passed gives
-- its packets.
use Rattle.std.specs.Prelude.{◌≡◌, ℕ, ◌+◌, nat_lt, Bool, false, if◌then◌else◌, List, [], length, Some, take, filter, flat_map}
use Rattle.std.specs.List.{enumerate_from, list_any}
use Rattle.etcs_bits.specs.declared.variables.duplicate.Dup.{Dup}
use Rattle.etcs_bits.specs.declared.variables.duplicate.Dup.TheVariants as dups
use Rattle.etcs_profile.specs.declared.run.Run.{Run}
use Rattle.etcs_profile.specs.declared.run.Run.TheVariants as runs
use Rattle.etcs_profile.specs.declared.track.TrackPacket.{TrackPacket}
use Rattle.etcs_profile.specs.Track.{holds}
use Rattle.etcs_telegram.specs.Record.{Telegram}
use Rattle.etcs_group.specs.Places.{At}
use Rattle.etcs_group.specs.Group.{partner_place, Telegrams}
use Rattle.etcs_group.specs.Reading.{in_passing_order}
use Rattle.etcs_group.specs.Assembly.{names}

-- the packets of a telegram that hold in the running direction
abbrev pub held_packets : Run → Telegram → List TrackPacket
held_packets run t = filter (holds run) t.packets

-- The packets that a train takes from the telegram at place i: none if it has already read the telegram
-- that the mark of this one names.
abbrev pub given_packets : Run → Telegrams → ℕ → Telegram → List TrackPacket
given_packets run read i t =
    if list_any (λ u. names t u.header.position) (take i read) then [] else held_packets run t

-- the packets of a list of telegrams, in passing order
abbrev pub assembled : Run → Telegrams → List TrackPacket
assembled run read = flat_map (λ e. given_packets run read e.0 e.1) (enumerate_from 0 read)

-- ---- the message of a well-formed group with nothing missed, by its places only

-- whether the balise at place b of n is silent: it is passed after the one in the group that its mark names
abbrev pub is_silent : Run → Dup → ℕ → ℕ → Bool
is_silent runs.Nominal dups.Previous n b = nat_lt 0 b
is_silent runs.Reverse dups.Next n b = nat_lt (b + 1) n
is_silent run mark n b = false

-- the packets that the balise at place b of n adds to the message
abbrev pub balise_packets : Run → ℕ → ℕ → Telegram → List TrackPacket
balise_packets run n b t = if is_silent run t.header.dup n b then [] else held_packets run t

-- the message of a group: the packets of the balises that are not silent, in passing order
abbrev pub group_message : Run → Telegrams → List TrackPacket
group_message run group =
    flat_map (λ e. balise_packets run (length group) e.0 e.1) (in_passing_order run (enumerate_from 0 group))

-- each balise and its partner have equal lists of packets that hold in the running direction
abbrev pub HasEqualPairs : Run → Telegrams → Type 0
HasEqualPairs run group = (b p : ℕ) (t u : Telegram) → partner_place group b ≡ Some p
    → At group b t → At group p u → held_packets run t ≡ held_packets run u
