-- The findings of a line are in order, each states a fact, and each fact has its finding.
use Rattle.std.proofs.Common.{◌≡◌, ℕ, zero, suc, ◌+◌, ◌<◌, Bool, true, false, not, ltb, List, [], ◌∷◌, length, map, slice_get, take, if◌then◌else◌, Option, Some, None, refl, sym, ap, subst, ◌∙◌, arith}
use Rattle.std.specs.List.{filter, flat_map, enumerate_from, range_with_len}
use Rattle.std.specs.Prelude.{⊤}
use Rattle.std.specs.Ordering.{nat_cmp}
use Rattle.std.specs.Cmp.Lexicographic.{slice_cmp}
use Rattle.std.specs.declared.cmp.Ordering.TheVariants.{Less, Equal}
use Rattle.std.proofs.lemmas.Bool.{both_ways, and_parts, or_cases, eqb-true, eq-eqb, false_from_ne_true}
use Rattle.std.proofs.lemmas.Cmp.{nat_cmp_total, tied_itself}
use Rattle.std.proofs.lemmas.Option.{none-some, same_Some, slice_get_within, slice_get-get_or}
use Rattle.std.proofs.lemmas.List.FromFn.{length-map-range_with_len, get_or-map-range_with_len}
use mathlib.Core.Logic.{inl, inr}
use Rattle.etcs_profile.specs.declared.run.Run.{Run}
use Rattle.etcs_profile.specs.declared.run.Run.TheVariants as runs
use Rattle.etcs_profile.specs.declared.track.TrackPacket.{TrackPacket}
use Rattle.etcs_radio.specs.declared.message.Message.{Message}
use Rattle.etcs_radio.specs.declared.message.Message.TheVariants as messages
use Rattle.etcs_group.specs.Group.{Telegrams, Aspects}
use Rattle.etcs_group.specs.Places.{At, element_passes}
use Rattle.etcs_check.specs.Aspects.{is_ambiguous, is_used, site_spot}
use Rattle.etcs_check.specs.Line.{none_and, directions, rule_findings, spot_cells, cells_for_aspect, group_cells, message_cells, group_findings, message_findings, line_group_findings, group_list, line_message_findings, message_list, findings}
use Rattle.etcs_check.specs.Facts.{packets_alone, aspect_packets, aspect_speech, message_speech, is_short_profile, packet_fact, aspect_fact, whole_fact, group_fact, message_fact, site_fact, StatesFact}
use Rattle.etcs_check.specs.Findings.{all_rules, balise_fact, new_finding, for_each, is_unmodelled, pair_differs}
use Rattle.etcs_check.specs.Laws.{FindingsAreTheFactsInOrder}
use Rattle.etcs_check.specs.Order.{site_order, site_place, rule_number, direction_order, none_first, sort_key, has_rule, by_rule, IsFindings}
use Rattle.etcs_check.specs.Profiles.{gradient_reach, speed_reach}
use Rattle.etcs_check.specs.Soundness.{first_aspect}
use Rattle.etcs_check.specs.declared.finding.Finding.{Finding}
use Rattle.etcs_check.specs.declared.finding.Rule.{Rule}
use Rattle.etcs_check.specs.declared.finding.Rule.TheVariants as rules
use Rattle.etcs_check.specs.declared.finding.Site.{Site}
use Rattle.etcs_check.specs.declared.finding.Site.TheVariants as sites
use Rattle.etcs_check.specs.declared.finding.Spot.{Spot}
use Rattle.etcs_group.proofs.PlaceLemmas.{element_passes-at}
use Rattle.etcs_check.proofs.FactLemmas.{passed, packet_stands}
use Rattle.etcs_check.proofs.MemberLemmas.{IsListed, each-at, each-listed, rules-listed, made_of, At-append_cases, filter-at, at-filter, flat_map-at, at-flat_map, At-append_left, At-append_right}
use Rattle.etcs_check.proofs.OrderLemmas.{AreOrdered, AreOrdered-filter, IsBlock, no_block, one_block, joined, under, blocks, each_block, rising, one_list}

-- there is no fact against a group
abbrev pub HasNoGroupFact : Bool → Aspects → Type 0
HasNoGroupFact used aspects = (rule : Rule) (aspect : Option ℕ) (run : Option Run) (b k : Option ℕ) → group_fact used aspects rule aspect run b k ≡ false

-- ---- the order of cells: the rule comes last

abbrev cell_order : Finding → List ℕ
cell_order f =
    site_order f.site ∷ site_place f.site ∷ none_first f.aspect ∷ direction_order f.dir
    ∷ none_first f.balise ∷ none_first f.packet ∷ rule_number f.rule ∷ []

numbered_from : (m n : ℕ) → map none_first (map (λ i. Some i) (range_with_len m n)) ≡ range_with_len (m + 1) (length (map (λ (i : ℕ). Some i) (range_with_len m n)))
numbered_from m zero = refl
numbered_from m (suc n) = let e : suc m ≡ m + 1 = omega arith in λ i. e i ∷ numbered_from (m + 1) n i

none_rising : (n : ℕ) (i : ℕ) (o : Option ℕ) → At (none_and n) i o → none_first o ≡ 0 + i
none_rising n i o at = rising none_first (none_and n) 0 (ap (λ l. 0 ∷ l) (numbered_from 0 n)) i o at

-- the cells of a spot: by running direction, by balise, by packet and by rule
spot_block : (spot : Spot) (count : ℕ) (packets : Option ℕ → List TrackPacket)
    → IsBlock cell_order (site_order spot.site ∷ site_place spot.site ∷ []) (none_first spot.aspect) (suc (none_first spot.aspect)) (spot_cells spot count packets)
spot_block spot count packets =
    let at_balise = λ (run : Option Run) (b : Option ℕ). flat_map (rule_findings spot run b) (none_and (length (packets b))) in
    under cell_order _ (none_first spot.aspect) (none_first spot.aspect) refl (blocks cell_order _ (λ run. flat_map (at_balise run) (none_and count)) directions 0 (λ i n run e at.
    under cell_order _ n (direction_order run) (rising direction_order directions 0 refl i run at ∙ sym e) (blocks cell_order _ (at_balise run) (none_and count) 0 (λ i n b e at.
    under cell_order _ n (none_first b) (none_rising count i b at ∙ sym e) (blocks cell_order _ (rule_findings spot run b) (none_and (length (packets b))) 0 (λ i n k e at.
    under cell_order _ n (none_first k) (none_rising (length (packets b)) i k at ∙ sym e) (blocks cell_order _ (λ rule. new_finding rule spot run b k ∷ []) all_rules 1 (λ i n rule e at.
    one_block cell_order _ n (rule_number rule) [] (new_finding rule spot run b k) (rising rule_number all_rules 1 refl i rule at ∙ sym e) refl))))))))

-- ---- sorted by rule

-- for one rule and site, the order of cells implies the order of findings
rule_first : (f g : Finding) → site_order f.site ≡ site_order g.site → site_place f.site ≡ site_place g.site → rule_number f.rule ≡ rule_number g.rule
    → slice_cmp nat_cmp (cell_order f) (cell_order g) ≡ Less → slice_cmp nat_cmp (sort_key f) (sort_key g) ≡ Less
rule_first f g here place same less =
    let e : nat_cmp (site_order f.site) (site_order g.site) ≡ Equal = ap (nat_cmp (site_order f.site)) (sym here) ∙ tied_itself nat_cmp_total (site_order f.site) in
    let p : nat_cmp (site_place f.site) (site_place g.site) ≡ Equal = ap (nat_cmp (site_place f.site)) (sym place) ∙ tied_itself nat_cmp_total (site_place f.site) in
    let r : nat_cmp (rule_number f.rule) (rule_number g.rule) ≡ Equal = ap (nat_cmp (rule_number f.rule)) (sym same) ∙ tied_itself nat_cmp_total (rule_number f.rule) in
    rw (e, p, r) (rw (e, p, r) at less)

-- sorting by rule keeps the members
by_rule-at : (xs : List Finding) (i : ℕ) (f : Finding) → At (by_rule xs) i f → (j : ℕ) × At xs j f
by_rule-at xs i f at =
    let r = flat_map-at (λ rule. filter (has_rule rule) xs) all_rules i f at in
    let q = filter-at (has_rule r.1) xs r.2 f r.4 in
    (q.0, q.1)

at-by_rule : (xs : List Finding) (j : ℕ) (f : Finding) → At xs j f → IsListed f (by_rule xs)
at-by_rule xs j f at = rules-listed (λ rule. filter (has_rule rule) xs) f.rule f (at-filter (has_rule f.rule) xs j f at (eq-eqb (rule_number f.rule) (rule_number f.rule) refl))

-- one site has these numbers
site_is : (s t : Site) → site_order s ≡ site_order t → site_place s ≡ site_place t → s ≡ t
site_is (sites.Group m) (sites.Group n) e h = ap sites.Group h
site_is (sites.Message m) (sites.Message n) e h = ap sites.Message h
site_is s t e h = absurd (omega (arith, e))

-- the cells of a site, and those of them that are facts
module _ (site : Site) {low high : ℕ} {cells : List Finding} (block : IsBlock cell_order (site_order site ∷ site_place site ∷ []) low high cells) (test : Finding → Bool) where
  in_site : (f : Finding) (i : ℕ) → At cells i f → (site_order f.site ≡ site_order site) × (site_place f.site ≡ site_place site)
  in_site f i at = let b = (block.begins i f at).4 in (cc b, cc b)

  of_rule : (rule : Rule) (f : Finding) (i : ℕ) → At (filter (has_rule rule) (filter test cells)) i f → (site_order f.site ≡ site_order site) × (site_place f.site ≡ site_place site) × (rule_number f.rule ≡ rule_number rule)
  of_rule rule f i at =
      let r = filter-at (has_rule rule) (filter test cells) i f at in
      let q = filter-at test cells r.0 f r.1 in
      let s = in_site f q.0 q.1 in
      (s.0, s.1, eqb-true (rule_number f.rule) (rule_number rule) r.2)

  class_block : (rule : Rule) → IsBlock sort_key (site_order site ∷ site_place site ∷ []) (rule_number rule) (suc (rule_number rule)) (filter (has_rule rule) (filter test cells))
  class_block rule = record {
    begins = λ i f at.
        let o = of_rule rule f i at in (
          rule_number rule,
          none_first f.aspect ∷ direction_order f.dir ∷ none_first f.balise ∷ none_first f.packet ∷ [],
          omega arith,
          omega arith,
          λ i. o.0 i ∷ o.1 i ∷ o.2 i ∷ none_first f.aspect ∷ direction_order f.dir ∷ none_first f.balise ∷ none_first f.packet ∷ [],
        );
    ordered = λ i j f g lt at at'.
        let o = of_rule rule f i at in
        let q = of_rule rule g j at' in
        rule_first f g (o.0 ∙ sym q.0) (o.1 ∙ sym q.1) (o.2 ∙ sym q.2)
        (AreOrdered-filter cell_order (has_rule rule) (filter test cells) (AreOrdered-filter cell_order test cells block.ordered) i j f g lt at at');
  }

  -- the facts among cells, sorted by rule
  sorted_block : IsBlock sort_key (site_order site ∷ []) (site_place site) (suc (site_place site)) (by_rule (filter test cells))
  sorted_block = under sort_key (site_order site ∷ []) (site_place site) (site_place site) refl (blocks sort_key (site_order site ∷ site_place site ∷ []) (λ rule. filter (has_rule rule) (filter test cells)) all_rules 1 (λ i n rule e at.
      subst (λ m. IsBlock sort_key (site_order site ∷ site_place site ∷ []) m (suc m) (filter (has_rule rule) (filter test cells))) (rising rule_number all_rules 1 refl i rule at ∙ sym e) (class_block rule)))

  sorted_states : (i : ℕ) (f : Finding) → At (by_rule (filter test cells)) i f → (f.site ≡ site) × (test f ≡ true)
  sorted_states i f at =
      let b = by_rule-at (filter test cells) i f at in
      let q = filter-at test cells b.0 f b.1 in
      let s = in_site f q.0 q.1 in
      (site_is f.site site s.0 s.1, q.2)

sorted_listed : (cells : List Finding) (test : Finding → Bool) (f : Finding) → IsListed f cells → test f ≡ true → IsListed f (by_rule (filter test cells))
sorted_listed cells test f l e = let k = at-filter test cells l.0 f l.1 e in at-by_rule (filter test cells) k.0 f k.1

-- ---- each fact is at a cell

-- no number, or one of the first n
abbrev InRange : ℕ → Option ℕ → Type 0
InRange n None = ⊤
InRange n (Some i) = i < n

in_range : (n : ℕ) (o : Option ℕ) → InRange n o → (i : ℕ) × At (none_and n) i o
in_range n None h = (0, refl)
in_range n (Some i) h =
    let e : 0 + i ≡ i = omega arith in
    (suc i, slice_get-get_or (map (λ j. Some j) (range_with_len 0 n)) i None (rw length-map-range_with_len h) ∙ ap Some (get_or-map-range_with_len (λ j. Some j) 0 n i i None h e))

a_direction : (run : Option Run) → (i : ℕ) × At directions i run
a_direction None = (0, refl)
a_direction (Some runs.Nominal) = (1, refl)
a_direction (Some runs.Reverse) = (2, refl)

cell_listed : (spot : Spot) (count : ℕ) (packets : Option ℕ → List TrackPacket) (rule : Rule) (run : Option Run) (b k : Option ℕ) → InRange count b → InRange (length (packets b)) k
    → IsListed (new_finding rule spot run b k) (spot_cells spot count packets)
cell_listed spot count packets rule run b k h g =
    let f = new_finding rule spot run b k in
    let d = a_direction run in
    let p = in_range count b h in
    let q = in_range (length (packets b)) k g in
    let r = rules-listed (λ rule. new_finding rule spot run b k ∷ []) rule f (0, refl) in
    let s = at-flat_map (rule_findings spot run b) (none_and (length (packets b))) q.0 k r.0 f q.1 r.1 in
    let t = at-flat_map (λ b. flat_map (rule_findings spot run b) (none_and (length (packets b)))) (none_and count) p.0 b s.0 f p.1 s.1 in
    at-flat_map (λ run. flat_map (λ b. flat_map (rule_findings spot run b) (none_and (length (packets b)))) (none_and count)) directions d.0 run t.0 f d.1 t.1

-- a place at which an element passes a test is in the list, and a balise with a packet is in the group
place_of : {X : Type 0} (xs : List X) (i : ℕ) (test : X → Bool) → element_passes xs i test ≡ true → i < length xs
place_of xs i test h = let r = passed xs i test h in slice_get_within xs i r.0 r.1

packet_of : (group : Telegrams) (b k : ℕ) (test : TrackPacket → Bool) → element_passes (aspect_packets group (Some b)) k test ≡ true → (b < length group) × (k < length (aspect_packets group (Some b)))
packet_of group b k test h =
    let r = passed (aspect_packets group (Some b)) k test h in
    let s = packet_stands group b k r.0 r.1 in
    (slice_get_within group b s.0 s.1, slice_get_within (aspect_packets group (Some b)) k r.0 r.1)

module _ (first : Telegrams) (before : Aspects) (group : Telegrams) where
  aspect_range : (rule : Rule) (run : Option Run) (b k : Option ℕ) → aspect_fact first before group rule run b k ≡ true → InRange (length group) b × InRange (length (aspect_packets group b)) k
  aspect_range rules.DuplicatesDiffer (Some run) (Some b) None h = (place_of group b (λ t. pair_differs run t (slice_get group (b + 1))) h, tt)
  aspect_range rules.NotModelled None (Some b) (Some k) h = packet_of group b k is_unmodelled h
  aspect_range rules.GradientShort (Some run) (Some b) (Some k) h = packet_of group b k (is_short_profile gradient_reach (aspect_speech group) run (Some b)) h
  aspect_range rules.SpeedShort (Some run) (Some b) (Some k) h = packet_of group b k (is_short_profile speed_reach (aspect_speech group) run (Some b)) h
  aspect_range rule None None None h = (tt, tt)
  aspect_range rule (Some run) None None h = (tt, tt)
  aspect_range rule None (Some b) None h = (place_of group b (balise_fact first before group rule b) h, tt)
  aspect_range rule run b k h = absurd (both_ways false refl h)

whole_range : (used : Bool) (aspects : Aspects) (rule : Rule) (run : Option Run) (b k : Option ℕ) → whole_fact used aspects rule run b k ≡ true
    → InRange (length (first_aspect aspects)) b × InRange (length (aspect_packets (first_aspect aspects) b)) k
whole_range used aspects rules.IdentityUsed None None None h = (tt, tt)
whole_range used aspects rules.NotToldApart None (Some b) None h = (place_of (first_aspect aspects) b (is_ambiguous aspects b) h, tt)
whole_range used aspects rule run b k h = absurd (both_ways false refl h)

first_is : (aspects : Aspects) (group : Telegrams) → At aspects 0 group → group ≡ first_aspect aspects
first_is [] group at = absurd (none-some group at)
first_is (first ∷ rest) group at = sym (same_Some first group at)

module _ (used : Bool) (aspects : Aspects) (site : Site) where
  named : Aspects
  named = if ltb 1 (length aspects) then aspects else []

  group_celled : (rule : Rule) (aspect : Option ℕ) (run : Option Run) (b k : Option ℕ) → group_fact used aspects rule aspect run b k ≡ true
      → IsListed (new_finding rule (record { site = site; aspect = aspect }) run b k) (group_cells site aspects)
  unfolding named
  group_celled rule None run b k h =
      let first = first_aspect aspects in
      let range : InRange (length first) b × InRange (length (aspect_packets first b)) k = elim (or_cases (whole_fact used aspects rule run b k) _ h) [
        | inl w ↦ whole_range used aspects rule run b k w
        | inr r ↦
            let q = and_parts (not (ltb 1 (length aspects))) _ r in
            let s = passed aspects 0 (λ group. aspect_fact first (take 0 aspects) group rule run b k) q.1 in
            subst (λ (g : Telegrams). InRange (length g) b × InRange (length (aspect_packets g b)) k) (first_is aspects s.0 s.1) (aspect_range first (take 0 aspects) s.0 rule run b k s.2)
      ] in
      let l = cell_listed (site_spot site) (length first) (aspect_packets first) rule run b k range.0 range.1 in
      (l.0, At-append_left (cells_for_aspect (site_spot site) first) (for_each named (λ a group. cells_for_aspect (record { site = site; aspect = Some a }) group)) l.0 (new_finding rule (site_spot site) run b k) l.1)
  group_celled rule (Some a) run b k h =
      let first = first_aspect aspects in
      let q = and_parts (ltb 1 (length aspects)) _ h in
      let s = passed aspects a (λ group. aspect_fact first (take a aspects) group rule run b k) q.1 in
      let range = aspect_range first (take a aspects) s.0 rule run b k s.2 in
      let spot : Spot = record { site = site; aspect = Some a } in
      let f = new_finding rule spot run b k in
      let at : At named a s.0 = subst (λ (m : Bool). At (if m then aspects else []) a s.0) (sym q.0) s.1 in
      let l = each-listed (λ a group. cells_for_aspect (record { site = site; aspect = Some a }) group) named a s.0 f at (cell_listed spot (length s.0) (aspect_packets s.0) rule run b k range.0 range.1) in
      At-append_right (cells_for_aspect (site_spot site) first) (for_each named (λ a group. cells_for_aspect (record { site = site; aspect = Some a }) group)) l.0 f l.1

packet_range : (packets : List TrackPacket) (rule : Rule) (run : Option Run) (b k : Option ℕ) → packet_fact (message_speech packets) rule run b k ≡ true → InRange 0 b × InRange (length (packets_alone packets b)) k
packet_range packets rules.NotModelled None None (Some k) h = (tt, place_of packets k is_unmodelled h)
packet_range packets rules.GradientShort (Some run) None (Some k) h = (tt, place_of packets k (is_short_profile gradient_reach (message_speech packets) run None) h)
packet_range packets rules.SpeedShort (Some run) None (Some k) h = (tt, place_of packets k (is_short_profile speed_reach (message_speech packets) run None) h)
packet_range packets rule None (Some b) (Some k) h = absurd (both_ways false refl h)
packet_range packets rule (Some run) (Some b) (Some k) h = absurd (both_ways false refl h)
packet_range packets rule None None None h = (tt, tt)
packet_range packets rule (Some run) None None h = (tt, tt)
packet_range packets rule run b k h = absurd (both_ways false refl h)

message_celled : (site : Site) (m : Message) (rule : Rule) (aspect : Option ℕ) (run : Option Run) (b k : Option ℕ) → message_fact m rule aspect run b k ≡ true
    → IsListed (new_finding rule (record { site = site; aspect = aspect }) run b k) (message_cells site m)
message_celled site (messages.Movement m) rule None run b k h =
    let range = packet_range m.packets rule run b k h in
    cell_listed (site_spot site) 0 (packets_alone m.packets) rule run b k range.0 range.1
message_celled site m rule aspect run b k h = absurd (both_ways false refl h)

-- ---- the findings of a group, and of a message

group_block : (site : Site) (aspects : Aspects) → IsBlock cell_order (site_order site ∷ site_place site ∷ []) 0 (1 + length (enumerate_from 0 (if ltb 1 (length aspects) then aspects else []))) (group_cells site aspects)
group_block site aspects =
    let named = if ltb 1 (length aspects) then aspects else [] in
    joined cell_order (site_order site ∷ site_place site ∷ []) (omega arith) (omega arith)
    (spot_block (site_spot site) (length (first_aspect aspects)) (aspect_packets (first_aspect aspects)))
    (each_block cell_order (site_order site ∷ site_place site ∷ []) (λ a group. cells_for_aspect (record { site = site; aspect = Some a }) group) named 1 (λ a n group e at.
    let f : suc a ≡ n = omega arith in
    subst (λ m. IsBlock cell_order (site_order site ∷ site_place site ∷ []) m (suc m) (cells_for_aspect (record { site = site; aspect = Some a }) group)) f
    (spot_block (record { site = site; aspect = Some a }) (length group) (aspect_packets group))))

message_block : (site : Site) (m : Message) → IsBlock cell_order (site_order site ∷ site_place site ∷ []) 0 1 (message_cells site m)
message_block site (messages.Movement m) = spot_block (site_spot site) 0 (packets_alone m.packets)
message_block site (messages.Position m) = no_block cell_order (site_order site ∷ site_place site ∷ []) 0 1

module _ (site : Site) (used : Bool) (aspects : Aspects) where
  abbrev of_group : Finding → Bool
  of_group f = group_fact used aspects f.rule f.aspect f.dir f.balise f.packet

  group_states : (i : ℕ) (f : Finding) → At (group_findings site used aspects) i f → (f.site ≡ site) × (of_group f ≡ true)
  unfolding group_findings
  group_states = sorted_states site (group_block site aspects) of_group

  group_listed : (f : Finding) → f.site ≡ site → of_group f ≡ true → IsListed f (group_findings site used aspects)
  unfolding group_findings
  group_listed f e h =
      let l = group_celled used aspects site f.rule f.aspect f.dir f.balise f.packet h in
      sorted_listed (group_cells site aspects) of_group f (subst (λ n. IsListed n (group_cells site aspects)) (made_of f (record { site = site; aspect = f.aspect }) e refl) l) h

  -- without a finding there is no fact
  pub group_silent : group_findings site used aspects ≡ [] → HasNoGroupFact used aspects
  group_silent none rule aspect run b k = false_from_ne_true _ (λ h.
      let f : Finding = record { rule = rule; site = site; aspect = aspect; dir = run; balise = b; packet = k } in
      let l = group_listed f refl h in
      none-some f (subst (λ found. At found l.0 f) none l.1))

module _ (site : Site) (m : Message) where
  abbrev of_message : Finding → Bool
  of_message f = message_fact m f.rule f.aspect f.dir f.balise f.packet

  pub message_states : (i : ℕ) (f : Finding) → At (message_findings site m) i f → (f.site ≡ site) × (of_message f ≡ true)
  unfolding message_findings
  message_states = sorted_states site (message_block site m) of_message

  message_listed : (f : Finding) → f.site ≡ site → of_message f ≡ true → IsListed f (message_findings site m)
  unfolding message_findings
  message_listed f e h =
      let l = message_celled site m f.rule f.aspect f.dir f.balise f.packet h in
      sorted_listed (message_cells site m) of_message f (subst (λ n. IsListed n (message_cells site m)) (made_of f (record { site = site; aspect = f.aspect }) e refl) l) h

-- ---- the findings of a line

module _ (groups : List Aspects) (messages : List Message) where
  findings_ordered : AreOrdered sort_key (findings groups messages)
  unfolding group_findings message_findings
  findings_ordered =
      let first = under sort_key [] 0 0 refl (each_block sort_key (0 ∷ []) (line_group_findings groups) groups 0 (λ g n aspects e at.
      let f : g ≡ n = omega arith in
      subst (λ m. IsBlock sort_key (0 ∷ []) m (suc m) (line_group_findings groups g aspects)) f
      (sorted_block (sites.Group g) (group_block (sites.Group g) aspects) (of_group (sites.Group g) (is_used (take g groups) aspects) aspects)))) in
      let second = under sort_key [] 1 1 refl (each_block sort_key (1 ∷ []) line_message_findings messages 0 (λ i n m e at.
      let f : i ≡ n = omega arith in
      subst (λ k. IsBlock sort_key (1 ∷ []) k (suc k) (line_message_findings i m)) f
      (sorted_block (sites.Message i) (message_block (sites.Message i) m) (of_message (sites.Message i) m)))) in
      (joined sort_key [] {low = 0} {mid = 1} {high = 2} (omega arith) (omega arith) first second).ordered

  pub each_fact_is_listed : (f : Finding) → StatesFact groups messages f → IsListed f (findings groups messages)
  each_fact_is_listed f h = at f.site refl h
    where
      at : (s : Site) → f.site ≡ s → site_fact groups messages s f ≡ true → IsListed f (findings groups messages)
      at (sites.Group g) e h =
          let r = passed groups g (λ aspects. group_fact (is_used (take g groups) aspects) aspects f.rule f.aspect f.dir f.balise f.packet) h in
          let l = each-listed (line_group_findings groups) groups g r.0 f r.1 (group_listed (sites.Group g) (is_used (take g groups) r.0) r.0 f e r.2) in
          (l.0, At-append_left (group_list groups) (message_list messages) l.0 f l.1)
      at (sites.Message i) e h =
          let r = passed messages i (λ m. message_fact m f.rule f.aspect f.dir f.balise f.packet) h in
          let l = each-listed line_message_findings messages i r.0 f r.1 (message_listed (sites.Message i) r.0 f e r.2) in
          At-append_right (group_list groups) (message_list messages) l.0 f l.1

  pub findings_state : (i : ℕ) (f : Finding) → At (findings groups messages) i f → StatesFact groups messages f
  findings_state i f h = elim (At-append_cases (group_list groups) (message_list messages) i f h) [
    | inl p ↦
        let r = each-at (line_group_findings groups) groups i f p in
        let s = group_states (sites.Group r.0) (is_used (take r.0 groups) r.1) r.1 r.2 f r.4 in
        subst (λ s. site_fact groups messages s f ≡ true) (sym s.0)
        (element_passes-at groups r.0 (λ aspects. group_fact (is_used (take r.0 groups) aspects) aspects f.rule f.aspect f.dir f.balise f.packet) r.1 r.3 ∙ s.1)
    | inr q ↦
        let r = each-at line_message_findings messages q.0 f q.1 in
        let s = message_states (sites.Message r.0) r.1 r.2 f r.4 in
        subst (λ s. site_fact groups messages s f ≡ true) (sym s.0)
        (element_passes-at messages r.0 (λ m. message_fact m f.rule f.aspect f.dir f.balise f.packet) r.1 r.3 ∙ s.1)
  ]

-- ---- the law

pub findings_are_the_facts_in_order : FindingsAreTheFactsInOrder
findings_are_the_facts_in_order groups messages found = (
  λ is. subst (IsFindings groups messages) (sym is) (record {
    facts = findings_state groups messages;
    all = each_fact_is_listed groups messages;
    ordered = findings_ordered groups messages;
  }),
  λ list. one_list sort_key found (findings groups messages) list.ordered (findings_ordered groups messages)
      (λ i f at. each_fact_is_listed groups messages f (list.facts i f at))
      (λ i f at. list.all f (findings_state groups messages i f at)),
)
