-- The identity of a balise group (SUBSET-026, 7.5.1).
use Rattle.std.specs.Prelude.{ℕ, refl}
use Rattle.etcs_bits.specs.declared.variables.identity.Identity.{Identity}
use Rattle.etcs_bits.specs.layout.Format.{Format, ◌then◌, struct}
use Rattle.etcs_bits.specs.layout.Struct.{Struct, two_ways}
use Rattle.etcs_bits.specs.variables.VariableFormats.{nid_c, nid_bg}

-- the country or region, and the number there
abbrev pub identity_struct : Struct (ℕ × ℕ) Identity
identity_struct =
    two_ways
    (λ p. record { country = p.0; group = p.1 })
    (λ i. (i.country, i.group)) (λ _. refl) (λ _. refl)

-- NID_C, NID_BG
abbrev pub identity : Format Identity
identity = struct identity_struct (nid_c then nid_bg)
