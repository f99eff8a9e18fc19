-- The order of findings, and the only list that a line has: by group, then by message; within each by rule,
-- then by aspect, running direction, balise and packet.
use Rattle.std.specs.Prelude.{◌≡◌, ℕ, suc, ◌<◌, ◌==◌, Bool, List, [], ◌∷◌, filter, flat_map, Option, Some, None}
use Rattle.std.specs.Cmp.Lexicographic.{slice_cmp}
use Rattle.std.specs.Ordering.{nat_cmp}
use Rattle.std.specs.declared.cmp.Ordering.TheVariants.{Less}
use Rattle.etcs_profile.specs.declared.run.Run.{Run}
use Rattle.etcs_profile.specs.declared.run.Run.TheVariants as runs
use Rattle.etcs_radio.specs.declared.message.Message.{Message}
use Rattle.etcs_group.specs.Places.{At}
use Rattle.etcs_group.specs.Group.{Aspects}
use Rattle.etcs_check.specs.Facts.{StatesFact}
use Rattle.etcs_check.specs.Findings.{all_rules}
use Rattle.etcs_check.specs.declared.finding.Finding.{Finding}
use Rattle.etcs_check.specs.declared.finding.Rule.{Rule}
use Rattle.etcs_check.specs.declared.finding.Rule.TheVariants as rules
use Rattle.etcs_check.specs.declared.finding.Site.{Site}
use Rattle.etcs_check.specs.declared.finding.Site.TheVariants as sites

-- ---- the position of a finding in the list

-- groups come before messages
abbrev pub site_order : Site → ℕ
site_order (sites.Group g) = 0
site_order (sites.Message i) = 1

-- the index of the group or of the message
abbrev pub site_place : Site → ℕ
site_place (sites.Group g) = g
site_place (sites.Message i) = i

-- the number of a rule: 1 for F1
abbrev pub rule_number : Rule → ℕ
rule_number rules.PositionWrong = 1
rule_number rules.TotalWrong = 2
rule_number rules.HeaderDiffers = 3
rule_number rules.MarkOutside = 4
rule_number rules.MarkUnanswered = 5
rule_number rules.CounterUnfit = 6
rule_number rules.CountersDiffer = 7
rule_number rules.DuplicatesDiffer = 8
rule_number rules.NotModelled = 9
rule_number rules.NoGradient = 10
rule_number rules.GradientShort = 11
rule_number rules.NoSpeed = 12
rule_number rules.SpeedShort = 13
rule_number rules.IdentityUsed = 14
rule_number rules.MarksDiffer = 15
rule_number rules.NotToldApart = 16

-- no running direction comes first, then nominal, then reverse
abbrev pub direction_order : Option Run → ℕ
direction_order None = 0
direction_order (Some runs.Nominal) = 1
direction_order (Some runs.Reverse) = 2

-- no number comes first, then 0
abbrev pub none_first : Option ℕ → ℕ
none_first None = 0
none_first (Some n) = suc n

-- The numbers by which findings are ordered: the first that differs decides.
abbrev pub sort_key : Finding → List ℕ
sort_key f =
    site_order f.site ∷ site_place f.site ∷ rule_number f.rule ∷ none_first f.aspect ∷ direction_order f.dir
    ∷ none_first f.balise ∷ none_first f.packet ∷ []

-- ---- sorted by rule

-- the finding is of this rule
abbrev pub has_rule : Rule → Finding → Bool
has_rule rule f = rule_number f.rule == rule_number rule

-- the findings rule by rule; findings of the same rule keep their order
abbrev pub by_rule : List Finding → List Finding
by_rule facts = flat_map (λ rule. filter (has_rule rule) facts) all_rules

-- ---- the list

-- The list of a line's findings: each states a fact, each fact has its finding, and the order is strict, so
-- each occurs once.
pub record IsFindings (groups : List Aspects) (messages : List Message) (found : List Finding) : Type 0 where
  pub facts : (i : ℕ) (f : Finding) → At found i f → StatesFact groups messages f
  pub all : (f : Finding) → StatesFact groups messages f → (i : ℕ) × At found i f
  pub ordered : (i j : ℕ) (f g : Finding) → i < j → At found i f → At found j g
      → slice_cmp nat_cmp (sort_key f) (sort_key g) ≡ Less
