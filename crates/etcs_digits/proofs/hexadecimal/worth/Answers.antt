use Rattle.std.proofs.Common.{ℕ, ◌+◌, ◌-◌, ◌%◌, ◌≡◌, ◌<◌, ◌∙◌, ◌==◌, true, cond, ltb, bit_or, refl}
use Rattle.std.proofs.lemmas.Bool.{agree_below_at, eqb-true}
use Rattle.std.proofs.lemmas.Simd.{splat_is_map, zip2_splat}
use Rattle.etcs_digits.proofs.BlockLemmas.{worth_of}
use Rattle.etcs_digits.proofs.LaneLemmas.{choose, same_lanes, splat}
use Rattle.etcs_digits.proofs.hexadecimal.worth.Goals as goal

abbrev less : ℕ → ℕ → ℕ
less a b = (a + (256 - b)) % 256

abbrev more : ℕ → ℕ → ℕ
more a b = (a + b) % 256

abbrev below : ℕ → ℕ → ℕ
below a b = cond (ltb a b) 255 0

-- what a lane of the result is
abbrev lane : ℕ → ℕ
lane x =
    let digit = less x 48 in
    let letter = less (bit_or x 32) 97 in
    cond (ltb 127 (below digit 10)) digit (cond (ltb 127 (below letter 6)) (more letter 10) 255)

each : (x : ℕ) → x < 256 → lane x ≡ worth_of x
each x small = eqb-true _ _ (agree_below_at (λ x. lane x == worth_of x) (λ _. true) 256 x refl small)

pub returns : goal.returns
returns c =
    let v = c.args.text in
    let long = c.fits-text.0 in
    let digit = zip2_splat less v 16 48 long in
    let letter = splat less _ 97 16 v long (zip2_splat bit_or v 16 32 long) in
    let of_letter = choose _ _ _ v (splat below _ 6 16 v long letter) (splat more _ 10 16 v long letter) (splat_is_map v 16 255 long) in
    choose _ _ _ v (splat below _ 10 16 v long digit) digit of_letter
    ∙ same_lanes _ worth_of v each c.fits-text.1
