-- The findings of a line: every rule is tested at every location, and the facts of a group or a message are
-- sorted by rule. A location is an aspect or none, a running direction or none, a balise or none, and a
-- packet or none. No finding hides another.
-- Pinned by the law findings_are_the_facts_in_order.
use Rattle.std.specs.Prelude.{ℕ, nat_lt, if◌then◌else◌, Bool, take, List, [], ◌∷◌, ◌++◌, length, map, filter, flat_map, Option, Some, None}
use Rattle.std.specs.List.{range_with_len}
use Rattle.etcs_profile.specs.declared.run.Run.{Run}
use Rattle.etcs_profile.specs.declared.run.Run.TheVariants as runs
use Rattle.etcs_profile.specs.declared.track.TrackPacket.{TrackPacket}
use Rattle.etcs_radio.specs.declared.message.Message.{Message}
use Rattle.etcs_radio.specs.declared.message.Message.TheVariants as messages
use Rattle.etcs_group.specs.Group.{Telegrams, Aspects}
use Rattle.etcs_check.specs.Aspects.{is_used, site_spot}
use Rattle.etcs_check.specs.Facts.{group_fact, message_fact, packets_alone, aspect_packets}
use Rattle.etcs_check.specs.Findings.{all_rules, new_finding, for_each}
use Rattle.etcs_check.specs.Soundness.{first_aspect}
use Rattle.etcs_check.specs.Order.{by_rule}
use Rattle.etcs_check.specs.declared.finding.Finding.{Finding}
use Rattle.etcs_check.specs.declared.finding.Site.{Site}
use Rattle.etcs_check.specs.declared.finding.Site.TheVariants as sites
use Rattle.etcs_check.specs.declared.finding.Spot.{Spot}

-- none, and then each of the first n numbers
abbrev pub none_and : ℕ → List (Option ℕ)
none_and n = None ∷ map (λ i. Some i) (range_with_len 0 n)

-- no running direction, and then each
abbrev pub directions : List (Option Run)
directions = None ∷ Some runs.Nominal ∷ Some runs.Reverse ∷ []

-- a finding of each rule, at a running direction, a balise and a packet of a spot
abbrev pub rule_findings : Spot → Option Run → Option ℕ → Option ℕ → List Finding
rule_findings spot run b k = map (λ rule. new_finding rule spot run b k) all_rules

-- For each running direction or none, each of `count` balises or none, and each of its packets or none: each
-- rule.
abbrev pub spot_cells : Spot → ℕ → (Option ℕ → List TrackPacket) → List Finding
spot_cells spot count packets = flat_map (λ run. flat_map (λ b.
    flat_map (rule_findings spot run b) (none_and (length (packets b)))) (none_and count)) directions

-- of an aspect
abbrev pub cells_for_aspect : Spot → Telegrams → List Finding
cells_for_aspect spot group = spot_cells spot (length group) (aspect_packets group)

-- of a group: without an aspect, and with each aspect if there are two or more
abbrev pub group_cells : Site → Aspects → List Finding
group_cells site aspects = cells_for_aspect (site_spot site) (first_aspect aspects)
    ++ for_each (if nat_lt 1 (length aspects) then aspects else [])
    (λ a group. cells_for_aspect (record { site = site; aspect = Some a }) group)

-- of a message 3: its packets, at no balise
abbrev pub message_cells : Site → Message → List Finding
message_cells site (messages.Movement m) = spot_cells (site_spot site) 0 (packets_alone m.packets)
message_cells site (messages.Position m) = []

-- The facts at these cells, sorted by rule. Proofs unfold these two definitions only if they ask for it, so
-- that goals stay short.
unfoldable pub group_findings : Site → Bool → Aspects → List Finding
group_findings site used aspects =
    by_rule
    (filter (λ f. group_fact used aspects f.rule f.aspect f.dir f.balise f.packet) (group_cells site aspects))

unfoldable pub message_findings : Site → Message → List Finding
message_findings site m =
    by_rule (filter (λ f. message_fact m f.rule f.aspect f.dir f.balise f.packet) (message_cells site m))

-- the findings about the group at place i, and about all groups
abbrev pub line_group_findings : List Aspects → ℕ → Aspects → List Finding
line_group_findings groups i aspects =
    group_findings (sites.Group i) (is_used (take i groups) aspects) aspects

abbrev pub group_list : List Aspects → List Finding
group_list groups = for_each groups (line_group_findings groups)

-- the findings about the message at place i, and about all messages
abbrev pub line_message_findings : ℕ → Message → List Finding
line_message_findings i m = message_findings (sites.Message i) m

abbrev pub message_list : List Message → List Finding
message_list messages = for_each messages line_message_findings

-- the findings of a line
abbrev pub findings : List Aspects → List Message → List Finding
findings groups messages = group_list groups ++ message_list messages
