use Rattle.std.proofs.Common.{◌≡◌, ◌∙◌, ap, codes, Some, None, false, ℕ, List, Option, Bool}
use Rattle.std.specs.Option.{option_map_or}
use Rattle.std.specs.Str.{bytes_eq}
use Rattle.clap.proofs.WalkLemmas.{first_value-rows}
use Rattle.clap.specs.Words.{first_of, found_of, rows_of}
use Rattle.etcs_run.proofs.command.is_radio.Goals as goal

-- whether a value is "true"
abbrev is_true : Option (List ℕ) → Bool
is_true value = option_map_or (λ v. bytes_eq v (codes "true")) value false

-- the flag has a value
pub returns-in-Some : goal.returns-in-Some
returns-in-Some c =
    let first : Some c.in-Some.value.now ≡ first_of (codes "radio") (rows_of (found_of c.args.matches.now)) =
    c.in-Some.ensures ∙ first_value-rows (found_of c.args.matches.now) (codes "radio") in
    c.eq.ensures ∙ ap is_true first

-- it has none
pub returns-in-None : goal.returns-in-None
returns-in-None c =
    let first : None ≡ first_of (codes "radio") (rows_of (found_of c.args.matches.now)) =
    c.in-None.ensures ∙ first_value-rows (found_of c.args.matches.now) (codes "radio") in
    ap is_true first
