-- Sound aspects, groups, messages and lines, defined by what trains may read of them (this project's rule,
-- after SUBSET-026, 3.16.2), without reference to findings. A train may run over a group in either direction,
-- and may miss balises whose duplicates it reads.
use Rattle.std.specs.Prelude.{◌≡◌, ◌≢◌, ℕ, ◌<◌, Bool, List, [], ◌∷◌, length, Option, Some, None, filter, ⊤}
use Rattle.std.specs.List.{AllPass}
use Rattle.etcs_bits.specs.declared.variables.identity.Identity.{Identity}
use Rattle.etcs_profile.specs.Track.{holds}
use Rattle.etcs_profile.specs.declared.run.Run.{Run}
use Rattle.etcs_group.specs.Places.{At}
use Rattle.etcs_group.specs.Group.{IsWellFormed, is_modelled, Telegrams, Aspects}
use Rattle.etcs_group.specs.Missed.{IsSetOf, IsCovered, none_missed}
use Rattle.etcs_group.specs.Reading.{group_reading}
use Rattle.etcs_group.specs.Assembly.{IsAccepted}
use Rattle.etcs_group.specs.Packets.{assembled}
use Rattle.etcs_group.specs.Controlled.{AreOneGroup}
use Rattle.etcs_radio.specs.declared.message.Message.{Message}
use Rattle.etcs_radio.specs.declared.message.Message.TheVariants as messages
use Rattle.etcs_check.specs.Profiles.{AreReached}

-- A reading is sound: it makes the message of the reading with nothing missed, whose packets are reached.
pub record IsSoundReading (group : Telegrams) (run : Run) (missed : ℕ → Bool) : Type 0 where
  pub accepted : IsAccepted run (group_reading run missed group)
  pub same : assembled run (group_reading run missed group)
      ≡ assembled run (group_reading run none_missed group)
  pub reached : AreReached (assembled run (group_reading run missed group))

-- A sound group is well formed, and in each running direction each covered reading of it is sound.
pub record IsSoundGroup (group : Telegrams) : Type 0 where
  pub formed : IsWellFormed group
  pub readings : (run : Run) (missed : ℕ → Bool) → IsSetOf group missed → IsCovered group missed
      → IsSoundReading group run missed

-- A sound controlled group has sound aspects. If there are two or more, they are contents of one group
-- and distinguished by their counters.
pub record IsSoundControlled (aspects : Aspects) : Type 0 where
  pub sound : (a : ℕ) (group : Telegrams) → At aspects a group → IsSoundGroup group
  pub one : 1 < length aspects → AreOneGroup aspects

-- the identity of an aspect is the identity of its balise 0
abbrev pub aspect_identity : Telegrams → Option Identity
aspect_identity [] = None
aspect_identity (t ∷ _) = Some t.header.identity

-- the first aspect of a controlled group
abbrev pub first_aspect : Aspects → Telegrams
first_aspect [] = []
first_aspect (first ∷ _) = first

-- the identity of a controlled group is the identity of its first aspect
abbrev pub group_identity : Aspects → Option Identity
group_identity aspects = aspect_identity (first_aspect aspects)

-- A sound message 3 has only modelled packets, and in each running direction the packets that hold are
-- reached. A message 136 is always sound.
abbrev pub IsSoundMessage : Message → Type 0
IsSoundMessage (messages.Movement m) =
    AllPass is_modelled m.packets × ((run : Run) → AreReached (filter (holds run) m.packets))
IsSoundMessage (messages.Position m) = ⊤

-- In a sound line the groups and the messages are sound, and no two groups have the same identity.
pub record IsSoundLine (groups : List Aspects) (messages : List Message) : Type 0 where
  pub sound : (i : ℕ) (aspects : Aspects) → At groups i aspects → IsSoundControlled aspects
  pub distinct : (i j : ℕ) (g h : Aspects) → i < j → At groups i g → At groups j h
      → group_identity g ≢ group_identity h
  pub messages_sound : (i : ℕ) (m : Message) → At messages i m → IsSoundMessage m
