-- The group that a message or a position report refers to, as one variable of 24 bits (SUBSET-026, 7.5.1,
-- NID_LRBG and NID_PRVLRBG): NID_C in the first ten bits, NID_BG in the other fourteen.
use Rattle.std.specs.Prelude.{◌≡◌, ℕ, ◌+◌, ◌-◌, ◌*◌, ◌/◌, ◌%◌, List, [], ◌∷◌, refl}
use Rattle.std.proofs.Common.{arith, ap₂, subst, sym, ◌∙◌}
use Rattle.etcs_bits.specs.declared.variables.identity.Identity.{Identity}
use Rattle.etcs_bits.specs.layout.Rows.{Row, row, AreAllowed}
use Rattle.etcs_bits.specs.layout.Fields.{Fields, one, ◌▹◌, AreRowsOf}
use Rattle.etcs_bits.specs.layout.Found.{row_number}
use Rattle.etcs_bits.specs.layout.Laid.{IsLayout}
use Rattle.etcs_bits.specs.layout.Format.{Format}
use Rattle.etcs_bits.specs.variables.Variables.{plain, free}

-- NID_C and NID_BG as one number of 24 bits. The second row has no bits, so that its number can only
-- be 0. Its number is the group divided by 2 ^ 14: so no group has more than the fourteen bits of NID_BG.
abbrev pub lrbg_rows : Identity → List Row
lrbg_rows i = row (plain 24) (i.country * 16384 + i.group) ∷ (row (free 0) (i.group / 16384) ∷ [])

abbrev pub lrbg_fields : Fields
lrbg_fields = one (plain 24) ▹ one (free 0)

-- ---- the identity that rows hold
-- Pinned by the law a_record_is_read_as_it_is_spelled.

abbrev pub lrbg_value : List Row → Identity
lrbg_value rows = record {
  country = row_number 0 rows / 16384 - row_number 1 rows;
  group = row_number 0 rows % 16384 + row_number 1 rows * 16384;
}

-- ---- proofs of the laws of `Layout`

lrbg_are_rows : (i : Identity) → AreRowsOf lrbg_fields (lrbg_rows i)
lrbg_are_rows i = (
  row (plain 24) (i.country * 16384 + i.group) ∷ [],
  row (free 0) (i.group / 16384) ∷ [],
  refl,
  (i.country * 16384 + i.group, [], refl, refl),
  (i.group / 16384, [], refl, refl),
)

lrbg_record : (i : Identity) → lrbg_value (lrbg_rows i) ≡ i
lrbg_record i =
    let country : (i.country * 16384 + i.group) / 16384 - i.group / 16384 ≡ i.country = omega arith in
    let group : (i.country * 16384 + i.group) % 16384 + i.group / 16384 * 16384 ≡ i.group = omega arith in
    ap₂ (λ (c g : ℕ). record { country = c; group = g }) country group

lrbg_records : (r : List Row) → AreRowsOf lrbg_fields r → AreAllowed r → (i : Identity) × (lrbg_rows i ≡ r)
lrbg_records r (first, second, e, (n, end, is, none), (m, end_too, is_too, none_too)) allowed =
    let whole : r ≡ row (plain 24) n ∷ (row (free 0) m ∷ []) = rw (e, is, none, is_too, none_too) refl in
    let here = subst (λ (rows : List Row). AreAllowed rows) whole allowed in
    let both : n / 16384 * 16384 + n % 16384 ≡ n = omega arith in
    let fits : n % 16384 / 16384 ≡ m = omega (arith, here.1.0.0) in (
      record { country = n / 16384; group = n % 16384 },
      ap₂ (λ (a b : ℕ). row (plain 24) a ∷ (row (free 0) b ∷ [])) both fits ∙ sym whole,
    )

pub lrbg_laid : IsLayout lrbg_fields lrbg_rows lrbg_value
lrbg_laid = record { are_rows = lrbg_are_rows; is_record = lrbg_record; has_record = lrbg_records }

-- ---- the record

-- NID_LRBG, 24 bits
abbrev pub nid_lrbg : Format Identity
nid_lrbg = record { fields = lrbg_fields; rows = lrbg_rows; of = lrbg_value; laid = lrbg_laid }

-- NID_PRVLRBG, 24 bits
abbrev pub nid_prvlrbg : Format Identity
nid_prvlrbg = nid_lrbg
