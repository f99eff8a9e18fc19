-- Numbers that are taken from one number of more bits.
use Rattle.std.proofs.Common.{◌≡◌, ℕ, ◌+◌, ◌/◌, ◌%◌, ◌^◌, ◌≤◌, length, take, drop, Ok, refl, sym, ap, ◌∙◌, arith}
use Rattle.std.proofs.lemmas.Bool.{le-ltb}
use Rattle.etcs_bits.specs.bits.Number.{num_of_bits}
use Rattle.etcs_bits.specs.layout.Rows.{Place}
use Rattle.etcs_bits.specs.layout.Reading.{forward, taken}
use Rattle.etcs_bits.proofs.NumberLemmas.{num_of_window}
use Rattle.etcs_bits.proofs.StepLemmas.{length-next}
use Rattle.etcs_bits.proofs.ViewLemmas.{part_of_part}

-- the number of w bits, `from` bits behind the first of them all and k before the last
pub taken_within : (p : Place) (whole from w k n : ℕ) → from + w + k ≡ whole → p.at + whole ≤ length p.bits
    → n ≡ num_of_bits (take whole (drop p.at p.bits))
    → taken w (forward p from) ≡ Ok (n / 2 ^ k % 2 ^ w, forward (forward p from) w)
taken_within p whole from w k n e fits is =
    let len : from + w + k ≡ length (take whole (drop p.at p.bits)) = e ∙ sym (length-next p.bits p.at whole fits) in
    let here : num_of_bits (take w (drop (p.at + from) p.bits)) ≡ n / 2 ^ k % 2 ^ w =
    ap num_of_bits (sym (part_of_part p.bits p.at whole from w (omega (arith, e))))
    ∙ num_of_window (take whole (drop p.at p.bits)) from w k len ∙ ap (λ m. m / 2 ^ k % 2 ^ w) (sym is) in
    rw (le-ltb (length p.bits) (p.at + from + w) (omega (arith, e, fits)), here) refl
