-- What each of the rules F1 to F16 requires, at a balise, a packet or a running direction; `Sound` has F10 to F13.
-- They are this project's rules, after SUBSET-026, mainly 3.4, 3.8, 3.11, 3.16.2 and 7.5.1; places are counted from 0.
use Rattle.std.specs.Prelude.{◌≡◌, ◌≢◌, ℕ, ◌+◌, ◌<◌, ◌≤◌, List, length, Some, IsSome, IsTrue, ◌⊎◌}
use Rattle.etcs_bits.specs.declared.variables.duplicate.Dup.TheVariants as dups
use Rattle.etcs_profile.specs.declared.run.Run.{Run}
use Rattle.etcs_profile.specs.declared.track.TrackPacket.{TrackPacket}
use Rattle.etcs_telegram.specs.Record.{Telegram}
use Rattle.etcs_group.specs.Places.{At}
use Rattle.etcs_group.specs.Group.{AreAlike, is_modelled, partner_place, Telegrams, Aspects}
use Rattle.etcs_group.specs.Packets.{held_packets}
use Rattle.etcs_group.specs.Controlled.{Shows, IsFixed, IsSwitched}
use Rattle.etcs_check.specs.Soundness.{first_aspect}
use Rattle.etcs_edition.specs.Sound.{group_identity}

-- ---- the telegrams of an aspect

-- F1: the position of balise b, N_PIG, is its place (3.4.1).
abbrev pub F1_PositionIsPlace : Telegrams → ℕ → Type 0
F1_PositionIsPlace group b = (t : Telegram) → At group b t → t.header.position ≡ b

-- F2: the total of balise b, N_TOTAL, plus one is the number of balises (3.4.1).
abbrev pub F2_TotalIsCount : Telegrams → ℕ → Type 0
F2_TotalIsCount group b = (t : Telegram) → At group b t → t.header.total + 1 ≡ length group

-- F3: balise b has the version, the identity and the link flag of balise 0 of aspect 0 (3.16.2 and 3.17).
abbrev pub F3_HeaderIsAlike : Aspects → Telegrams → ℕ → Type 0
F3_HeaderIsAlike aspects group b =
    (t first : Telegram) → At group b t → At (first_aspect aspects) 0 first → AreAlike t first

-- F4: the duplicate flag of balise b, M_DUP, names no balise outside the group (3.16.2).
abbrev pub F4_MarkIsInside : Telegrams → ℕ → Type 0
F4_MarkIsInside group b =
    (t : Telegram) → At group b t → t.header.dup ≢ dups.Single → IsSome (partner_place group b)

-- F5: the balise that the duplicate flag of balise b names, names balise b (3.16.2).
abbrev pub F5_MarkIsAnswered : Telegrams → ℕ → Type 0
F5_MarkIsAnswered group b =
    (p : ℕ) → partner_place group b ≡ Some p → partner_place group p ≡ Some b

-- F6: the counter of balise b, M_MCOUNT, is not 254, which fits no message (3.16.2).
abbrev pub F6_CounterFits : Telegrams → ℕ → Type 0
F6_CounterFits group b = (t : Telegram) → At group b t → t.header.counter ≢ 254

-- F7: if the counter of balise b is below 254, it equals the first counter below 254 in the group (3.16.2).
abbrev pub F7_CountersAgree : Telegrams → ℕ → Type 0
F7_CountersAgree group b =
    (j : ℕ) (t u : Telegram) → At group b t → t.header.counter < 254
    → At group j u × (u.header.counter < 254)
    × ((i : ℕ) (v : Telegram) → i < j → At group i v → 254 ≤ v.header.counter)
    → t.header.counter ≡ u.header.counter

-- F8: if balises b and b + 1 declare each other duplicates, the same packets of both hold in the direction
-- (3.4.2).
abbrev pub F8_DuplicatesAreEqual : Telegrams → Run → ℕ → Type 0
F8_DuplicatesAreEqual group run b =
    (t u : Telegram) → At group b t → At group (b + 1) u
    → t.header.dup ≡ dups.Next → u.header.dup ≡ dups.Previous → held_packets run t ≡ held_packets run u

-- F15: balise b has the duplicate flag of balise b of aspect 0 (3.16.2).
abbrev pub F15_MarksAreEqual : Aspects → Telegrams → ℕ → Type 0
F15_MarksAreEqual aspects group b =
    (t first : Telegram) → At group b t → At (first_aspect aspects) b first → t.header.dup ≡ first.header.dup

-- F16 of aspect a: a counter of balise b below 254 is in no earlier aspect (3.16.2).
abbrev pub F16_AspectIsToldApart : Aspects → ℕ → Telegrams → ℕ → Type 0
F16_AspectIsToldApart aspects a group b =
    (c q : ℕ) (t u : Telegram) → c < a → At group b t → Shows aspects c q u
    → t.header.counter < 254 → t.header.counter ≢ u.header.counter

-- ---- the packets of a message: what a train assembles of an aspect, or message 3

-- F9: packet k is none of 0, 136 and 254, whose use by a train is not modelled (3.9, 3.15.9 and 7.4.2).
abbrev pub F9_PacketIsModelled : List TrackPacket → ℕ → Type 0
F9_PacketIsModelled packets k = (p : TrackPacket) → At packets k p → IsTrue (is_modelled p)

-- ---- a group as a whole

-- F14: no earlier group has the identity of group g (3.4.1).
abbrev pub F14_IdentityIsNew : List Aspects → ℕ → Aspects → Type 0
F14_IdentityIsNew groups g aspects = (i : ℕ) (h : Aspects) → i < g → At groups i h
    → group_identity h ≢ group_identity aspects

-- F16 of the group: if it has two or more aspects, balise b has the same telegram with counter 255 in all of
-- them, or a counter below 254 in each of them (3.16.2).
abbrev pub F16_BaliseIsFixedOrSwitched : Aspects → ℕ → Type 0
F16_BaliseIsFixedOrSwitched aspects b = 1 < length aspects → IsFixed aspects b ⊎ IsSwitched aspects b
