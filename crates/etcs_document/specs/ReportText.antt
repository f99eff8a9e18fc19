-- The report of a check: whether a line has findings, and then each finding on a line of its own. The
-- words are this project's.
use Rattle.std.specs.Prelude.{◌++◌, ℕ, List, [], ◌∷◌, codes, decimal, length, flat_map, Option, Some, None}
use Rattle.etcs_profile.specs.declared.run.Run.{Run}
use Rattle.etcs_profile.specs.declared.run.Run.TheVariants as runs
use Rattle.etcs_check.specs.declared.finding.Finding.{Finding}
use Rattle.etcs_check.specs.declared.finding.Rule.{Rule}
use Rattle.etcs_check.specs.declared.finding.Rule.TheVariants as rules
use Rattle.etcs_check.specs.declared.finding.Site.{Site}
use Rattle.etcs_check.specs.declared.finding.Site.TheVariants as sites

-- ---- the rules

-- the number of a rule, and the name of its findings
unfoldable pub rule_words : Rule → List ℕ × List ℕ
rule_words rules.PositionWrong = (codes "F1", codes "position wrong")
rule_words rules.TotalWrong = (codes "F2", codes "total wrong")
rule_words rules.HeaderDiffers = (codes "F3", codes "version, identity or link flag differs")
rule_words rules.MarkOutside = (codes "F4", codes "mark points outside")
rule_words rules.MarkUnanswered = (codes "F5", codes "mark not answered")
rule_words rules.CounterUnfit = (codes "F6", codes "counter 254")
rule_words rules.CountersDiffer = (codes "F7", codes "counters differ")
rule_words rules.DuplicatesDiffer = (codes "F8", codes "packets of duplicates differ")
rule_words rules.NotModelled = (codes "F9", codes "packet not modelled")
rule_words rules.NoGradient = (codes "F10", codes "no gradient")
rule_words rules.GradientShort = (codes "F11", codes "gradient short")
rule_words rules.NoSpeed = (codes "F12", codes "no speed profile")
rule_words rules.SpeedShort = (codes "F13", codes "speed profile short")
rule_words rules.IdentityUsed = (codes "F14", codes "identity used before")
rule_words rules.MarksDiffer = (codes "F15", codes "marks differ between aspects")
rule_words rules.NotToldApart = (codes "F16", codes "aspects not told apart")

-- ---- the location of a finding

-- the group or the message
unfoldable pub site_words : Site → List ℕ
site_words (sites.Group g) = codes " group " ++ decimal g
site_words (sites.Message m) = codes " message " ++ decimal m

-- the aspect, the balise or the packet, if the finding has one: its word, and its number
unfoldable pub part_words : List ℕ → Option ℕ → List ℕ
part_words word None = []
part_words word (Some n) = codes " " ++ (word ++ (codes " " ++ decimal n))

-- the running direction, if the finding has one
unfoldable pub direction_words : Option Run → List ℕ
direction_words None = []
direction_words (Some runs.Nominal) = codes " nominal"
direction_words (Some runs.Reverse) = codes " reverse"

-- the location in the line, and the running direction
unfoldable pub place_words : Finding → List ℕ
place_words f =
    site_words f.site
    ++ (part_words (codes "aspect") f.aspect ++ (part_words (codes "balise") f.balise
    ++ (part_words (codes "packet") f.packet ++ direction_words f.dir)))

-- ---- the lines

-- the line for a finding: its number, its location, and its name
unfoldable pub finding_words : Finding → List ℕ
finding_words f =
    (rule_words f.rule).0 ++ (place_words f ++ (codes ": " ++ ((rule_words f.rule).1 ++ codes "\n")))

-- the lines for findings
abbrev pub findings_words : List Finding → List ℕ
findings_words found = flat_map finding_words found

-- The report on a line, given the counts of its groups and messages: yes if there are no findings, otherwise
-- no and each finding.
unfoldable pub report_words : ℕ → ℕ → List Finding → List ℕ
report_words groups messages [] =
    codes "yes: groups " ++ (decimal groups ++ (codes ", messages " ++ (decimal messages ++ codes "\n")))
report_words groups messages (f ∷ found) =
    codes "no: findings " ++ (decimal (length (f ∷ found)) ++ (codes "\n" ++ findings_words (f ∷ found)))
