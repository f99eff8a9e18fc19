-- The findings of a railway line as JSON: an object for each finding. Numbers of rules and their names are those
-- of the report. A member that a finding does not have is omitted, as in the report. The form is this project's.
use Rattle.std.specs.Prelude.{ℕ, List, [], ◌∷◌, codes, Option, Some, None}
use Rattle.json.specs.Json.{Json, Members, array, member, no_members, object}
use Rattle.etcs_profile.specs.declared.run.Run.{Run}
use Rattle.etcs_profile.specs.declared.run.Run.TheVariants as runs
use Rattle.etcs_check.specs.declared.finding.Finding.{Finding}
use Rattle.etcs_check.specs.declared.finding.Rule.{Rule}
use Rattle.etcs_check.specs.declared.finding.Site.{Site}
use Rattle.etcs_check.specs.declared.finding.Site.TheVariants as sites
use Rattle.etcs_document.specs.ReportText.{rule_words}
use Rattle.etcs_document.specs.Verdict.{Summary}
use Rattle.etcs_findings.specs.Members.{json_items, with_number, with_option, with_text}

-- ---- one finding

-- the number of the rule, and the name of its findings
abbrev pub with_rule : Rule → Members → Members
with_rule rule rest =
    with_text (codes "rule") (rule_words rule).0 (with_text (codes "name") (rule_words rule).1 rest)

-- the index of the group or of the message
abbrev pub with_site : Site → Members → Members
with_site (sites.Group g) rest = with_number (codes "group") g rest
with_site (sites.Message m) rest = with_number (codes "message") m rest

-- the running direction, if the finding has one
abbrev pub with_direction : Option Run → Members → Members
with_direction None rest = rest
with_direction (Some runs.Nominal) rest = with_text (codes "direction") (codes "nominal") rest
with_direction (Some runs.Reverse) rest = with_text (codes "direction") (codes "reverse") rest

-- the location in the line, and the running direction
unfoldable pub with_place : Finding → Members → Members
with_place f rest =
    with_site f.site (with_option (codes "aspect") f.aspect (with_option (codes "balise") f.balise
    (with_option (codes "packet") f.packet (with_direction f.dir rest))))

abbrev pub finding_json : Finding → Json
finding_json f = object (with_rule f.rule (with_place f no_members))

-- ---- the verdict

-- the findings, in the order of the report
abbrev pub findings_json : List Finding → Json
findings_json found = array (json_items finding_json found)

abbrev pub verdict_word : List Finding → List ℕ
verdict_word [] = codes "yes"
verdict_word (_ ∷ _) = codes "no"

-- the verdict on a line: the counts of its groups and messages, and its findings
abbrev pub summary_json : Summary → Json
summary_json line =
    object (with_text (codes "verdict") (verdict_word line.1) (with_number (codes "groups") line.0.0
    (with_number (codes "messages") line.0.1
    (member (codes "findings") (findings_json line.1) no_members))))
