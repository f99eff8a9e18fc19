-- The facts against a controlled group, whose lineside unit selects among aspects (this project's rules,
-- after SUBSET-026, 3.16.2). Each aspect has facts of its own. The group as a whole has the facts about its
-- identity, and about the counters that distinguish its aspects.
use Rattle.std.specs.Prelude.{ℕ, ◌==◌, ◌&&◌, ◌||◌, nat_lt, Bool, false, not, List, length, None}
use Rattle.std.specs.List.{list_any, list_all}
use Rattle.std.specs.Option.{option_map_or}
use Rattle.etcs_telegram.specs.Record.{Telegram}
use Rattle.etcs_group.specs.Group.{Aspects}
use Rattle.etcs_group.specs.Places.{element_passes}
use Rattle.etcs_check.specs.Duplicates.{same_identity, same_telegram}
use Rattle.etcs_check.specs.Soundness.{group_identity}
use Rattle.etcs_check.specs.declared.finding.Site.{Site}
use Rattle.etcs_check.specs.declared.finding.Spot.{Spot}

-- ---- the facts about a group as a whole

-- Two groups have the same identity. A group without a balise has none.
abbrev pub have_one_identity : Aspects → Aspects → Bool
have_one_identity g h =
    option_map_or (λ i. option_map_or (same_identity i) (group_identity h) false) (group_identity g) false

-- F14: an earlier group has the identity of this one
abbrev pub is_used : List Aspects → Aspects → Bool
is_used earlier aspects = list_any (λ h. have_one_identity h aspects) earlier

-- each aspect has a telegram at place b that passes the test
abbrev pub all_pass : (Telegram → Bool) → ℕ → Aspects → Bool
all_pass test b aspects = list_all (λ group. element_passes group b test) aspects

-- telegram u has the counter 255, and t is the same telegram
abbrev pub is_steady : Telegram → Telegram → Bool
is_steady t u = (u.header.counter == 255) && same_telegram t u

-- its counter is below 254
abbrev pub has_aspect_counter : Telegram → Bool
has_aspect_counter t = nat_lt t.header.counter 254

-- F16: the group has two or more aspects, and its balise b, which has the telegram t in aspect 0, is
-- neither fixed (t, with counter 255, in every aspect) nor switched (a counter below 254 in every aspect)
abbrev pub is_ambiguous : Aspects → ℕ → Telegram → Bool
is_ambiguous aspects b t =
    nat_lt 1 (length aspects)
    && not (all_pass (is_steady t) b aspects || all_pass has_aspect_counter b aspects)

-- the location of a finding about a message or a whole group
abbrev pub site_spot : Site → Spot
site_spot site = record { site = site; aspect = None }
