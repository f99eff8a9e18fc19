-- A finding is read from its members.
use Rattle.std.proofs.Common.{◌≡◌, ◌≤◌, ◌∙◌, ℕ, false, cond, List, [], ◌∷◌, Option, Some, None, arith, refl, ap, ap₂}
use Rattle.std.specs.Prelude.{bytes_eq, codes, option_map}
use Rattle.std.specs.List.{AllByRecursion}
use Rattle.json.specs.Find.{get_member}
use Rattle.json.specs.Json.{Json, Items, Members, item, member, no_items, no_members, number, string, null, boolean, array, object}
use Rattle.json.specs.Tree.{HasNumbers, ItemsHaveNumbers, MembersHaveNumbers, depth, items_depth, members_depth}
use Rattle.json.proofs.Printed.Decimals.{IsNumber-decimal}
use Rattle.etcs_profile.specs.declared.run.Run.{Run}
use Rattle.etcs_profile.specs.declared.run.Run.TheVariants as runs
use Rattle.etcs_check.specs.declared.finding.Finding.{Finding}
use Rattle.etcs_check.specs.declared.finding.Rule.{Rule}
use Rattle.etcs_check.specs.declared.finding.Rule.TheVariants as rules
use Rattle.etcs_check.specs.declared.finding.Site.{Site}
use Rattle.etcs_check.specs.declared.finding.Site.TheVariants as sites
use Rattle.etcs_document.specs.ReportText.{rule_words}
use Rattle.etcs_findings.specs.Findings.{finding_json, with_direction, with_place, with_rule, with_site}
use Rattle.etcs_findings.specs.Laws.{IsFindingInRange, IsSiteInRange}
use Rattle.etcs_findings.specs.Members.{json_items, whole, with_option}
use Rattle.etcs_findings.proofs.MemberLemmas.{get_past, number_back, number_from, option_back, option_depth, option_here, option_numbers, option_past, text_from}

abbrev nothing : Option Json
nothing = None

-- ---- the rule

pub rule_from : List ℕ → Rule
rule_from w =
    cond (bytes_eq w (codes "F1")) rules.PositionWrong (cond (bytes_eq w (codes "F2")) rules.TotalWrong
    (cond (bytes_eq w (codes "F3")) rules.HeaderDiffers (cond (bytes_eq w (codes "F4")) rules.MarkOutside
    (cond (bytes_eq w (codes "F5")) rules.MarkUnanswered (cond (bytes_eq w (codes "F6")) rules.CounterUnfit
    (cond (bytes_eq w (codes "F7")) rules.CountersDiffer (cond (bytes_eq w (codes "F8")) rules.DuplicatesDiffer
    (cond (bytes_eq w (codes "F9")) rules.NotModelled (cond (bytes_eq w (codes "F10")) rules.NoGradient
    (cond (bytes_eq w (codes "F11")) rules.GradientShort (cond (bytes_eq w (codes "F12")) rules.NoSpeed
    (cond (bytes_eq w (codes "F13")) rules.SpeedShort (cond (bytes_eq w (codes "F14")) rules.IdentityUsed
    (cond (bytes_eq w (codes "F15")) rules.MarksDiffer rules.NotToldApart))))))))))))))

rule_back : (r : Rule) → rule_from (rule_words r).0 ≡ r
unfolding rule_words rule_from
rule_back rules.PositionWrong = refl
rule_back rules.TotalWrong = refl
rule_back rules.HeaderDiffers = refl
rule_back rules.MarkOutside = refl
rule_back rules.MarkUnanswered = refl
rule_back rules.CounterUnfit = refl
rule_back rules.CountersDiffer = refl
rule_back rules.DuplicatesDiffer = refl
rule_back rules.NotModelled = refl
rule_back rules.NoGradient = refl
rule_back rules.GradientShort = refl
rule_back rules.NoSpeed = refl
rule_back rules.SpeedShort = refl
rule_back rules.IdentityUsed = refl
rule_back rules.MarksDiffer = refl
rule_back rules.NotToldApart = refl

-- ---- the group or the message

abbrev site_from : Option Json → Option Json → Site
site_from (Some group) message = sites.Group (number_from group)
site_from None (Some message) = sites.Message (number_from message)
site_from None None = sites.Group 0

site_back : (s : Site) (rest : Members) → IsSiteInRange s → get_member (codes "group") rest ≡ nothing → get_member (codes "message") rest ≡ nothing
    → site_from (get_member (codes "group") (with_site s rest)) (get_member (codes "message") (with_site s rest)) ≡ s
site_back (sites.Group g) rest small no_group no_message = rw no_group (ap sites.Group (number_back g small))
site_back (sites.Message m) rest small no_group no_message = rw (no_group, no_message) (ap sites.Message (number_back m small))

site_past : (name : List ℕ) (s : Site) (rest : Members) → bytes_eq (codes "group") name ≡ false → bytes_eq (codes "message") name ≡ false
    → get_member name (with_site s rest) ≡ get_member name rest
site_past name (sites.Group g) rest group message = get_past name (codes "group") (whole g) rest group
site_past name (sites.Message m) rest group message = get_past name (codes "message") (whole m) rest message

-- ---- the running direction

abbrev direction_from : Option Json → Option Run
direction_from None = None
direction_from (Some j) = Some (cond (bytes_eq (text_from j) (codes "nominal")) runs.Nominal runs.Reverse)

direction_back : (d : Option Run) → direction_from (get_member (codes "direction") (with_direction d no_members)) ≡ d
direction_back None = refl
direction_back (Some runs.Nominal) = refl
direction_back (Some runs.Reverse) = refl

direction_past : (name : List ℕ) (d : Option Run) → bytes_eq (codes "direction") name ≡ false → get_member name (with_direction d no_members) ≡ nothing
direction_past name None other = refl
direction_past name (Some runs.Nominal) other = get_past name (codes "direction") (string (codes "nominal")) no_members other
direction_past name (Some runs.Reverse) other = get_past name (codes "direction") (string (codes "reverse")) no_members other

-- ---- the place

-- the members from the packet, from the balise, and from the aspect on
abbrev from_direction : Finding → Members
from_direction f = with_direction f.dir no_members

abbrev from_packet : Finding → Members
from_packet f = with_option (codes "packet") f.packet (from_direction f)

abbrev from_balise : Finding → Members
from_balise f = with_option (codes "balise") f.balise (from_packet f)

abbrev from_aspect : Finding → Members
from_aspect f = with_option (codes "aspect") f.aspect (from_balise f)

packet_past : (name : List ℕ) (f : Finding) → bytes_eq (codes "packet") name ≡ false → bytes_eq (codes "direction") name ≡ false
    → get_member name (from_packet f) ≡ nothing
packet_past name f packet direction = option_past name (codes "packet") f.packet (from_direction f) packet ∙ direction_past name f.dir direction

balise_past : (name : List ℕ) (f : Finding) → bytes_eq (codes "balise") name ≡ false → bytes_eq (codes "packet") name ≡ false
    → bytes_eq (codes "direction") name ≡ false → get_member name (from_balise f) ≡ nothing
balise_past name f balise packet direction = option_past name (codes "balise") f.balise (from_packet f) balise ∙ packet_past name f packet direction

aspect_past : (name : List ℕ) (f : Finding) → bytes_eq (codes "aspect") name ≡ false → bytes_eq (codes "balise") name ≡ false
    → bytes_eq (codes "packet") name ≡ false → bytes_eq (codes "direction") name ≡ false → get_member name (from_aspect f) ≡ nothing
aspect_past name f aspect balise packet direction = option_past name (codes "aspect") f.aspect (from_balise f) aspect ∙ balise_past name f balise packet direction

aspect_found : (f : Finding) → get_member (codes "aspect") (with_site f.site (from_aspect f)) ≡ option_map whole f.aspect
aspect_found f =
    site_past (codes "aspect") f.site (from_aspect f) refl refl
    ∙ option_here (codes "aspect") f.aspect (from_balise f) refl (balise_past (codes "aspect") f refl refl refl)

balise_found : (f : Finding) → get_member (codes "balise") (with_site f.site (from_aspect f)) ≡ option_map whole f.balise
balise_found f =
    site_past (codes "balise") f.site (from_aspect f) refl refl ∙ option_past (codes "balise") (codes "aspect") f.aspect (from_balise f) refl
    ∙ option_here (codes "balise") f.balise (from_packet f) refl (packet_past (codes "balise") f refl refl)

packet_found : (f : Finding) → get_member (codes "packet") (with_site f.site (from_aspect f)) ≡ option_map whole f.packet
packet_found f =
    site_past (codes "packet") f.site (from_aspect f) refl refl ∙ option_past (codes "packet") (codes "aspect") f.aspect (from_balise f) refl
    ∙ option_past (codes "packet") (codes "balise") f.balise (from_packet f) refl
    ∙ option_here (codes "packet") f.packet (from_direction f) refl (direction_past (codes "packet") f.dir refl)

direction_found : (f : Finding) → get_member (codes "direction") (with_site f.site (from_aspect f)) ≡ get_member (codes "direction") (from_direction f)
direction_found f =
    site_past (codes "direction") f.site (from_aspect f) refl refl ∙ option_past (codes "direction") (codes "aspect") f.aspect (from_balise f) refl
    ∙ option_past (codes "direction") (codes "balise") f.balise (from_packet f) refl
    ∙ option_past (codes "direction") (codes "packet") f.packet (from_direction f) refl

-- ---- the finding

abbrev text_of : Option Json → List ℕ
text_of None = []
text_of (Some j) = text_from j

-- a member that comes after the rule
after_rule : (name : List ℕ) (r : Rule) (rest : Members) → bytes_eq (codes "rule") name ≡ false → bytes_eq (codes "name") name ≡ false
    → get_member name (with_rule r rest) ≡ get_member name rest
after_rule name r rest rule words =
    get_past name (codes "rule") (string (rule_words r).0) (member (codes "name") (string (rule_words r).1) rest) rule
    ∙ get_past name (codes "name") (string (rule_words r).1) rest words

rule_found : (r : Rule) (rest : Members) → get_member (codes "rule") rest ≡ nothing → text_of (get_member (codes "rule") (with_rule r rest)) ≡ (rule_words r).0
rule_found r rest none = rw none refl

pub finding_of : Rule → Site → Option ℕ → Option Run → Option ℕ → Option ℕ → Finding
finding_of rule site aspect dir balise packet = record { rule = rule; site = site; aspect = aspect; dir = dir; balise = balise; packet = packet }

abbrev finding_from : Members → Finding
finding_from ms =
    finding_of (rule_from (text_of (get_member (codes "rule") ms))) (site_from (get_member (codes "group") ms) (get_member (codes "message") ms))
    (option_map number_from (get_member (codes "aspect") ms)) (direction_from (get_member (codes "direction") ms))
    (option_map number_from (get_member (codes "balise") ms)) (option_map number_from (get_member (codes "packet") ms))

same_finding : (r s : Rule) (a b : Site) (c d : Option ℕ) (e f : Option Run) (g h i j : Option ℕ) → r ≡ s → a ≡ b → c ≡ d → e ≡ f → g ≡ h → i ≡ j
    → finding_of r a c e g i ≡ finding_of s b d f h j
same_finding r s a b c d e f g h i j p q t u v w = cc

-- the place without the rule
abbrev place : Finding → Members
place f = with_site f.site (from_aspect f)

pub finding_back : (f : Finding) → IsFindingInRange f → finding_from (with_rule f.rule (with_place f no_members)) ≡ f
unfolding with_place finding_of
finding_back f small =
    let no_rule : get_member (codes "rule") (place f) ≡ nothing =
    site_past (codes "rule") f.site (from_aspect f) refl refl ∙ aspect_past (codes "rule") f refl refl refl refl in
    let rule = ap rule_from (rule_found f.rule (place f) no_rule) ∙ rule_back f.rule in
    let site =
    ap₂ site_from (after_rule (codes "group") f.rule (place f) refl refl) (after_rule (codes "message") f.rule (place f) refl refl)
    ∙ site_back f.site (from_aspect f) small.site (aspect_past (codes "group") f refl refl refl refl) (aspect_past (codes "message") f refl refl refl refl) in
    let aspect = ap (option_map number_from) (after_rule (codes "aspect") f.rule (place f) refl refl ∙ aspect_found f) ∙ option_back f.aspect small.aspect in
    let balise = ap (option_map number_from) (after_rule (codes "balise") f.rule (place f) refl refl ∙ balise_found f) ∙ option_back f.balise small.balise in
    let packet = ap (option_map number_from) (after_rule (codes "packet") f.rule (place f) refl refl ∙ packet_found f) ∙ option_back f.packet small.packet in
    let direction = ap direction_from (after_rule (codes "direction") f.rule (place f) refl refl ∙ direction_found f) ∙ direction_back f.dir in
    same_finding _ _ _ _ _ _ _ _ _ _ _ _ rule site aspect direction balise packet

-- ---- what is read from its text

site_numbers : (s : Site) (rest : Members) → IsSiteInRange s → MembersHaveNumbers rest → MembersHaveNumbers (with_site s rest)
site_numbers (sites.Group g) rest small have = (IsNumber-decimal g small, have)
site_numbers (sites.Message m) rest small have = (IsNumber-decimal m small, have)

site_depth : (s : Site) (rest : Members) (d : ℕ) → members_depth rest ≤ d → members_depth (with_site s rest) ≤ d
site_depth (sites.Group g) rest d few = omega (arith, few)
site_depth (sites.Message m) rest d few = omega (arith, few)

direction_numbers : (d : Option Run) → MembersHaveNumbers (with_direction d no_members)
direction_numbers None = tt
direction_numbers (Some runs.Nominal) = (tt, tt)
direction_numbers (Some runs.Reverse) = (tt, tt)

direction_depth : (d : Option Run) → members_depth (with_direction d no_members) ≤ 0
direction_depth None = omega arith
direction_depth (Some runs.Nominal) = omega arith
direction_depth (Some runs.Reverse) = omega arith

finding_numbers : (f : Finding) → IsFindingInRange f → HasNumbers (finding_json f)
unfolding with_place
finding_numbers f small =
    let packet = option_numbers (codes "packet") f.packet (from_direction f) small.packet (direction_numbers f.dir) in
    let balise = option_numbers (codes "balise") f.balise (from_packet f) small.balise packet in
    let aspect = option_numbers (codes "aspect") f.aspect (from_balise f) small.aspect balise in
    (tt, (tt, site_numbers f.site (from_aspect f) small.site aspect))

finding_depth : (f : Finding) → depth (finding_json f) ≤ 1
unfolding with_place
finding_depth f =
    let packet = option_depth (codes "packet") f.packet (from_direction f) 0 (direction_depth f.dir) in
    let balise = option_depth (codes "balise") f.balise (from_packet f) 0 packet in
    let aspect = option_depth (codes "aspect") f.aspect (from_balise f) 0 balise in
    let place = site_depth f.site (from_aspect f) 0 aspect in
    omega (arith, place)

pub findings_numbers : (fs : List Finding) → AllByRecursion IsFindingInRange fs → ItemsHaveNumbers (json_items finding_json fs)
findings_numbers [] small = tt
findings_numbers (f ∷ fs) small = (finding_numbers f small.0, findings_numbers fs small.1)

pub findings_depth : (fs : List Finding) → items_depth (json_items finding_json fs) ≤ 1
findings_depth [] = omega arith
findings_depth (f ∷ fs) = let one = finding_depth f in let more = findings_depth fs in omega (arith, one, more)

-- ---- the list

abbrev members_from : Json → Members
members_from null = no_members
members_from (boolean b) = no_members
members_from (number s) = no_members
members_from (string s) = no_members
members_from (array js) = no_members
members_from (object ms) = ms

-- the findings of a list
pub findings_from : Items → List Finding
findings_from no_items = []
findings_from (item j js) = finding_from (members_from j) ∷ findings_from js

pub findings_back : (fs : List Finding) → AllByRecursion IsFindingInRange fs → findings_from (json_items finding_json fs) ≡ fs
unfolding findings_from
findings_back [] small = refl
findings_back (f ∷ fs) small = ap₂ (λ (x : Finding) (xs : List Finding). x ∷ xs) (finding_back f small.0) (findings_back fs small.1)
