-- The variables of a layout as members of an object, each at its own key. Keys without a variable must be
-- absent: NID_NTC is in the object if and only if it is in the bits.
use Rattle.std.specs.Prelude.{◌≡◌, ◌^◌, ℕ, Bool, true, false, List, [], ◌∷◌, Option, Result, Ok, Err, if◌then◌else◌, drop, option_map, refl}
use Rattle.etcs_schema.specs.Prelude.{slice_get, arith, ap, sym, ◌∙◌, Data, AreRowsOf, Fields, nothing, field, ◌▹◌, sized, Format, AreAllowed, Row, row}
use Rattle.etcs_schema.specs.Entries.{Entry, HasEntries, entry_keys}
use Rattle.etcs_schema.specs.Fault.{Fault, Range, here}
use Rattle.etcs_schema.specs.ReadBack.{AreReadBack, number_back, number_depth}
use Rattle.etcs_schema.specs.Reading.{◌>>=◌, allowed_number, required_member, absent_member, unwanted_or}
use Rattle.etcs_schema.specs.Codec.{MemberCodec, key_again, number_again, number_data, optional}
use Rattle.etcs_schema.specs.Variables.{is_allowed, number_allowed}

-- the number of the row at this index, if there is one
abbrev pub row_number : ℕ → List Row → Option ℕ
row_number i rows = option_map (λ r. r.number) (slice_get rows i)

-- each number at its key, and nothing at the remaining keys
abbrev pub variable_entries : List (List ℕ) → List Row → List Entry
variable_entries [] rows = []
variable_entries (k ∷ ks) rows =
    (k, optional number_data (row_number 0 rows)) ∷ variable_entries ks (drop 1 rows)

-- the rows whose numbers are at the keys
abbrev pub rows_read : Fields → List (List ℕ) → Data → Result (List Row) Fault
rows_read nothing [] d = Ok []
rows_read nothing (k ∷ ks) d = absent_member k d >>= λ u. rows_read nothing ks d
rows_read (field x next) (k ∷ ks) d =
    required_member (allowed_number (is_allowed x)) k d >>= λ n. rows_read (next n) ks d
    >>= λ rows. Ok (row x n ∷ rows)
rows_read other ks d = Err (here Range)

-- there is a key for each variable, whatever the numbers are, and the variable has at most 64 bits
abbrev pub HasKeys : Fields → List (List ℕ) → Type 0
HasKeys nothing ks = Unit {0}
HasKeys (field x next) (k ∷ ks) = (number_depth (2 ^ x.width) ≡ 0) × ((n : ℕ) → HasKeys (next n) ks)
HasKeys other ks = ⊥

-- the fields after a number have keys if the fields of both branches have keys
pub keys_by : (a b : Fields) (ks : List (List ℕ)) (is : Bool) → HasKeys a ks → HasKeys b ks
    → HasKeys (if is then a else b) ks
keys_by a b ks true one other = one
keys_by a b ks false one other = other

pub keys_at : (ks : List (List ℕ)) (rows : List Row) → entry_keys (variable_entries ks rows) ≡ ks
keys_at [] rows = refl
keys_at (k ∷ ks) rows = ap (λ ls. k ∷ ls) (keys_at ks (drop 1 rows))

pub rows_again : (n : ℕ) (fields : Fields) (ks : List (List ℕ)) → HasKeys fields ks → (rows : List Row)
    → AreRowsOf fields rows → AreAllowed rows → AreReadBack n (variable_entries ks rows)
    × ((d : Data) → HasEntries (variable_entries ks rows) d → rows_read fields ks d ≡ Ok rows)
unfolding absent_member
rows_again n nothing [] has rows are allowed = (tt, λ d holds. ap Ok (sym are))
rows_again n nothing (k ∷ ks) has rows are allowed =
    let rest = rows_again n nothing ks has [] refl tt in
    rw are ((tt, rest.0), λ d holds. rw (ap (unwanted_or k) holds.0) (rest.1 d holds.1))
rows_again n (field x next) [] has rows are allowed = absurd has
rows_again n (field x next) (k ∷ ks) has rows are allowed =
    let both = rw are.2 at allowed in
    let rest = rows_again n (next are.0) ks (has.1 are.0) are.1 are.3 both.1 in
    let read = number_again (is_allowed x) are.0 (number_allowed x are.0 both.0) in
    rw are.2 (
      (number_back (2 ^ x.width) n are.0 (omega (arith, has.0)) both.0.0, rest.0),
      λ d holds.
          rw (key_again number_data (allowed_number (is_allowed x)) k are.0 d read (holds.0, tt), rest.1 d holds.1)
          refl,
    )
rows_again n (a ▹ b) ks has rows are allowed = absurd has
rows_again n (sized before body) ks has rows are allowed = absurd has

-- the variables of a layout, each at its key
abbrev pub keyed_variables : {X : Type 0} (ks : List (List ℕ)) (layout : Format X) → HasKeys layout.fields ks
    → MemberCodec layout.rows
keyed_variables ks layout has = record {
  keys = ks;
  to = λ x. variable_entries ks (layout.rows x);
  of = λ d. rows_read layout.fields ks d >>= λ rows. Ok (layout.of rows);
  has_keys = λ x. keys_at ks (layout.rows x);
  again = λ x d allowed holds.
      ap (λ r. r >>= λ rows. Ok (layout.of rows))
      ((rows_again 0 layout.fields ks has (layout.rows x) (layout.laid.are_rows x) allowed).1 d holds)
      ∙ ap Ok (layout.laid.is_record x);
  back = (
    0,
    λ n _ x h. (rows_again n layout.fields ks has (layout.rows x) (layout.laid.are_rows x) h).0,
  );
}
