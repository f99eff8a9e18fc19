-- Balise groups and their duplicate flags (SUBSET-026, 3.16.2). A group is the telegrams of its balises, in
-- the order given; a place is an index in it. By its duplicate flag, M_DUP, a balise declares that a
-- neighbour carries the same information, so that a train may miss either of the two. Which groups are well
-- formed is this project's rule.
use Rattle.std.specs.Prelude.{◌≡◌, ◌≢◌, ℕ, zero, suc, ◌+◌, ◌<◌, Bool, not, ◌||◌, ◌==◌, nat_lt, if◌then◌else◌, List, length, slice_get, Option, Some, None, IsSome, option_and_then}
use Rattle.std.specs.List.{AllPass}
use Rattle.etcs_bits.specs.declared.variables.duplicate.Dup.{Dup}
use Rattle.etcs_bits.specs.declared.variables.duplicate.Dup.TheVariants as dups
use Rattle.etcs_profile.specs.declared.track.TrackPacket.{TrackPacket}
use Rattle.etcs_profile.specs.Track.{track_number}
use Rattle.etcs_telegram.specs.Record.{Telegram}
use Rattle.etcs_group.specs.Places.{At}

-- telegrams in order: those of a group's balises, by place, or those that a train read
abbrev pub Telegrams : Type 0
Telegrams = List Telegram

-- the aspects of a controlled group, each the telegrams of its balises
abbrev pub Aspects : Type 0
Aspects = List Telegrams

-- what a duplicate flag at number p names: the number after it, the one before it, or none
abbrev pub named_neighbour : Dup → ℕ → Option ℕ
named_neighbour dups.Single p = None
named_neighbour dups.Next p = Some (p + 1)
named_neighbour dups.Previous zero = None
named_neighbour dups.Previous (suc p) = Some p

-- the partner of place p: the place that the mark there names, if it lies in the group
abbrev pub partner_place : Telegrams → ℕ → Option ℕ
partner_place group p =
    option_and_then (λ q. if nat_lt q (length group) then Some q else None)
    (option_and_then (λ t. named_neighbour t.header.dup p) (slice_get group p))

-- the two telegrams have the same version, identity and link flag
pub record AreAlike (t u : Telegram) : Type 0 where
  pub version : t.header.version ≡ u.header.version
  pub identity : t.header.identity ≡ u.header.identity
  pub linked : t.header.linked ≡ u.header.linked

-- whether a packet is among those whose use by a train is modelled. Packets 0, 136 and 254 change how
-- others are used, and are not.
abbrev pub is_modelled : TrackPacket → Bool
is_modelled p = not ((track_number p == 0) || ((track_number p == 136) || (track_number p == 254)))

-- A well-formed group. Each position (N_PIG) is the place, N_TOTAL + 1 is the number of balises, all
-- balises are alike, each duplicate flag that names a balise gives it a partner, whose partner is the balise
-- itself, and every packet is modelled.
pub record IsWellFormed (group : Telegrams) : Type 0 where
  pub placed : (b : ℕ) (t : Telegram) → At group b t → t.header.position ≡ b
  pub counted : (b : ℕ) (t : Telegram) → At group b t → t.header.total + 1 ≡ length group
  pub alike : (b : ℕ) (t first : Telegram) → At group b t → At group 0 first → AreAlike t first
  pub inside : (b : ℕ) (t : Telegram) → At group b t → t.header.dup ≢ dups.Single
      → IsSome (partner_place group b)
  pub answered : (b p : ℕ) → partner_place group b ≡ Some p → partner_place group p ≡ Some b
  pub modelled : (b : ℕ) (t : Telegram) → At group b t → AllPass is_modelled t.packets

-- The counters (M_MCOUNT) agree: none is 254, which by this project's rule fits no message, and any two
-- below 254 are equal.
pub record HasOneCounter (telegrams : Telegrams) : Type 0 where
  pub agrees : (i : ℕ) (t : Telegram) → At telegrams i t → t.header.counter ≢ 254
  pub equal : (i j : ℕ) (t u : Telegram) → At telegrams i t → At telegrams j u
      → t.header.counter < 254 → u.header.counter < 254 → t.header.counter ≡ u.header.counter
