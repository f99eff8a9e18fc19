-- How many bits a movement authority has.
use Rattle.std.proofs.Common.{◌+◌, ◌*◌, ◌<◌, ◌≤◌, ◌++◌, ℕ, List, [], ◌∷◌, length, Option, Some, None, arith}
use Rattle.std.specs.List.{flat_map}
use Rattle.etcs_bits.specs.layout.Combined.{option_rows}
use Rattle.etcs_bits.specs.layout.Rows.{Row, alone, width}
use Rattle.etcs_bits.specs.variables.Variables.{plain}
use Rattle.etcs_bits.proofs.WidthLemmas.{width_both}
use Rattle.etcs_profile.specs.Authority.{AuthorityValue, authority, authority_value}
use Rattle.etcs_profile.specs.Parts.{danger_point, end_timer, overlap, section, section_timer}
use Rattle.etcs_profile.specs.Terms.{TermsValue, terms}
use Rattle.etcs_profile.specs.declared.section.Section.{Section}

option_short : {X : Type 0} (rows : X → List Row) (most : ℕ) → ((x : X) → width (rows x) ≤ most) → (o : Option X) → width (option_rows rows o) ≤ 1 + most
unfolding alone
option_short rows most short None = omega arith
option_short rows most short (Some x) = omega (arith, short x)

several_short : {X : Type 0} (rows : X → List Row) (most : ℕ) → ((x : X) → width (rows x) ≤ most) → (xs : List X) → width (flat_map rows xs) ≤ length xs * most
several_short rows most short [] = omega arith
several_short rows most short (x ∷ xs) = omega (arith, width_both (rows x) (flat_map rows xs), short x, several_short rows most short xs)

section_short : (s : Section) → width (section.rows s) ≤ 41
unfolding alone
section_short s = omega (arith, option_short section_timer.rows 25 (λ t. omega arith) s.timer)

-- the rows of what follows the end section
abbrev end_rows : TermsValue → List Row
end_rows t =
    option_rows section_timer.rows t.section_timer ++ (option_rows end_timer.rows t.end_timer
    ++ (option_rows danger_point.rows t.danger_point ++ option_rows overlap.rows t.overlap))

end_short : (t : TermsValue) → width (end_rows t) ≤ 123
unfolding alone
end_short t =
    let last = option_rows overlap.rows t.overlap in
    let danger = option_rows danger_point.rows t.danger_point in
    let timer = option_rows end_timer.rows t.end_timer in
    omega (
      arith,
      width_both (option_rows section_timer.rows t.section_timer) (timer ++ (danger ++ last)),
      width_both timer (danger ++ last),
      width_both danger last,
      option_short section_timer.rows 25 (λ t. omega arith) t.section_timer,
      option_short end_timer.rows 25 (λ t. omega arith) t.end_timer,
      option_short danger_point.rows 22 (λ d. omega arith) t.danger_point,
      option_short overlap.rows 47 (λ o. omega arith) t.overlap,
    )

terms_short : (t : TermsValue) → length t.sections < 32 → width (terms.rows t) ≤ 1431
unfolding alone
terms_short t few =
    let most = several_short section.rows 41 section_short t.sections in
    let both = width_both (flat_map section.rows t.sections) (alone (plain 15) t.l_endsection ++ end_rows t) in
    omega (arith, most, both, end_short t, few)

short_by : (main : Option ℕ) (a : AuthorityValue) → length a.terms.sections < 32 → width (authority.rows (authority_value a.dir a.scale main a.terms)) ≤ 1463
unfolding alone
short_by None a few = omega (arith, terms_short a.terms few)
short_by (Some v) a few = omega (arith, terms_short a.terms few)

-- an authority of at most 31 sections has at most 1,463 bits
pub authority_short : (a : AuthorityValue) → length a.terms.sections < 32 → width (authority.rows a) ≤ 1463
authority_short a few = short_by a.main a few
