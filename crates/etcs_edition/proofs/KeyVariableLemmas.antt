-- The numbers that variables can have at a key by the edition are those that the codecs read.
use Rattle.std.proofs.Common.{◌≡◌, ℕ, zero, suc, ◌^◌, ◌<◌, ◌≤◌, ◌==◌, Bool, true, false, List, [], ◌∷◌, Result, Ok, Err, refl, sym, arith, lit<}
use Rattle.std.specs.Prelude.{◌&&◌, ◌||◌, nat_le, nat_lt, codes, if◌then◌else◌}
use Rattle.std.proofs.lemmas.Bool.{and_parts, eqb-true, leb-true, ltb-true, false≢true}
use Rattle.std.proofs.lemmas.Bool.Decides.{nat_tests}
use Rattle.serde_json.specs.Data.{Data}
use Rattle.etcs_bits.specs.declared.variables.level.Level.{Level}
use Rattle.etcs_bits.specs.layout.Rows.{row}
use Rattle.etcs_bits.specs.variables.Identity.{identity_struct}
use Rattle.etcs_bits.specs.variables.Level.{level_numbered, level_variable, m_level}
use Rattle.etcs_bits.specs.variables.Train3.{train3_number, train3_value, train3_variable}
use Rattle.etcs_bits.specs.variables.Variables.{dir_number, dir_variable, dup_number, duplicate_variable, plain, ranged, scale_number, scale_variable, version_number, version_variable}
use Rattle.etcs_bits.specs.variables.VariableValues.{dir_value, dup_value, flag_value, scale_value, version_value}
use Rattle.etcs_radio.specs.declared.integrity.Integrity.{Integrity}
use Rattle.etcs_radio.specs.Integrity.{length_numbered, length_variable, q_length}
use Rattle.etcs_json.specs.Report.{identity as identity_codec, integrity as integrity_codec, side}
use Rattle.etcs_json.specs.Telegrams.{is_size, size, size_from_bits}
use Rattle.etcs_json.specs.Transition.{level as level_codec}
use Rattle.etcs_schema.specs.Codec.{key as key_codec}
use Rattle.etcs_schema.specs.Fault.{Fault}
use Rattle.etcs_schema.specs.KeyedVariables.{rows_read}
use Rattle.etcs_schema.specs.Reading.{◌>>=◌, absent_member, allowed_number, required_member}
use Rattle.etcs_schema.specs.Variables.{direction, duplicate, flag, is_allowed, scale, variable, version}
use Rattle.etcs_edition.specs.Wire.{Field, allowed_if, any_number, bit, up_to}
use Rattle.etcs_edition.specs.Variables.{dir_field, dup_field, identity_fields, level_fields, release_speed_field, scale_field, static_speed_field, train3_field, version_field}
use Rattle.etcs_edition.specs.Telegram.{user_bits}
use Rattle.etcs_edition.specs.TrainPackets.{integrity_fields}
use Rattle.etcs_edition.specs.Keys.{Members, is_writable, number_of, one, key, with_next, level, identity, q_scale}
use Rattle.etcs_edition.proofs.KeyLemmas.{Alike, Are, Both, Keyed, keyed_key, keyed_named, keyed_then, named_alike, number_alike, one_alike, Passes, required_alike}
use Rattle.etcs_edition.proofs.KeyPartLemmas.{absent_both, present_alike}
use Rattle.etcs_edition.proofs.VariableLemmas.{none_above, only_last}

-- ---- which numbers

-- a test of numbers below m
small : (n m : ℕ) (p q : Bool) → (n < m → p ≡ q) → (nat_lt n m && p) ≡ (nat_lt n m && q)
small n m p q same = by_test (nat_lt n m) refl
  where
    by_test : (b : Bool) → nat_lt n m ≡ b → (b && p) ≡ (b && q)
    by_test true is = same (ltb-true n m is)
    by_test false is = refl

-- a field that can be written has a number in range
low : (w n : ℕ) (ok : Bool) → is_writable (allowed_if w n ok) ≡ true → n < 2 ^ w
low w n ok is = ltb-true n (2 ^ w) (and_parts (nat_lt n (2 ^ w)) ok is).0

passes : (w n : ℕ) (ok : Bool) → is_writable (allowed_if w n ok) ≡ true → ok ≡ true
passes w n ok is = (and_parts (nat_lt n (2 ^ w)) ok is).1

-- 0, 1 and 2
module _ {X : Type 0} (number : X → ℕ) (value : ℕ → X) (field : X → Field)
    (zeroth : any_number 2 0 ≡ field (value 0)) (first : any_number 2 1 ≡ field (value 1))
    (second : any_number 2 2 ≡ field (value 2)) where
  pub three_names : (n : ℕ) → is_writable (up_to 2 2 n) ≡ true → up_to 2 2 n ≡ field (value n)
  three_names n is = named n (leb-true n 2 (passes 2 n (nat_le n 2) is))
    where
      named : (n : ℕ) → n ≤ 2 → up_to 2 2 n ≡ field (value n)
      named zero few = zeroth
      named (suc zero) few = first
      named (suc (suc zero)) few = second
      named (suc (suc (suc n))) few = absurd (omega (arith, few))

pub dir_alike : Alike (Are (λ v. dir_field v ∷ [])) (one (up_to 2 2)) direction.of
dir_alike =
    named_alike (up_to 2 2) (is_allowed dir_variable) dir_value dir_field (λ n. small n 4 _ _ (two n))
    (three_names dir_number dir_value dir_field refl refl refl)
  where
    two : (n : ℕ) → n < 4 → nat_le n 2 ≡ (n == dir_number (dir_value n))
    two zero few = refl
    two (suc zero) few = refl
    two (suc (suc zero)) few = refl
    two (suc (suc (suc zero))) few = refl
    two (suc (suc (suc (suc n)))) few = absurd (omega (arith, few))

pub scale_alike : Alike (Are (λ v. scale_field v ∷ [])) (one (up_to 2 2)) scale.of
scale_alike =
    named_alike (up_to 2 2) (is_allowed scale_variable) scale_value scale_field (λ n. small n 4 _ _ (two n))
    (three_names scale_number scale_value scale_field refl refl refl)
  where
    two : (n : ℕ) → n < 4 → nat_le n 2 ≡ (n == scale_number (scale_value n))
    two zero few = refl
    two (suc zero) few = refl
    two (suc (suc zero)) few = refl
    two (suc (suc (suc zero))) few = refl
    two (suc (suc (suc (suc n)))) few = absurd (omega (arith, few))

pub dup_alike : Alike (Are (λ v. dup_field v ∷ [])) (one (up_to 2 2)) duplicate.of
dup_alike =
    named_alike (up_to 2 2) (is_allowed duplicate_variable) dup_value dup_field (λ n. small n 4 _ _ (two n))
    (three_names dup_number dup_value dup_field refl refl refl)
  where
    two : (n : ℕ) → n < 4 → nat_le n 2 ≡ (n == dup_number (dup_value n))
    two zero few = refl
    two (suc zero) few = refl
    two (suc (suc zero)) few = refl
    two (suc (suc (suc zero))) few = refl
    two (suc (suc (suc (suc n)))) few = absurd (omega (arith, few))

pub side_alike : Alike (Are (λ v. train3_field v ∷ [])) (one (up_to 2 2)) side.of
side_alike =
    named_alike (up_to 2 2) (is_allowed train3_variable) train3_value train3_field (λ n. small n 4 _ _ (two n))
    (three_names train3_number train3_value train3_field refl refl refl)
  where
    two : (n : ℕ) → n < 4 → nat_le n 2 ≡ (n == train3_number (train3_value n))
    two zero few = refl
    two (suc zero) few = refl
    two (suc (suc zero)) few = refl
    two (suc (suc (suc zero))) few = refl
    two (suc (suc (suc (suc n)))) few = absurd (omega (arith, few))

pub flag_alike : Alike (Are (λ v. bit v ∷ [])) (one (any_number 1)) flag.of
flag_alike =
    named_alike (any_number 1) (is_allowed (plain 1)) flag_value bit (λ _. refl) (λ n is. named n (low 1 n true is))
  where
    named : (n : ℕ) → n < 2 → any_number 1 n ≡ bit (flag_value n)
    named zero few = refl
    named (suc zero) few = refl
    named (suc (suc n)) few = absurd (omega (arith, few))

either_is : (n : ℕ) (b : Bool) → (n == 32) ≡ b → (n == 32 || (n == 33)) ≡ (n == version_number (version_value n))
either_is n true is = rw is (sym is)
either_is n false is = rw is refl

abbrev pub version_key : ℕ → Field
version_key n = allowed_if 7 n (n == 32 || (n == 33))

pub version_alike : Alike (Are (λ v. version_field v ∷ [])) (one version_key) version.of
version_alike =
    named_alike version_key (is_allowed version_variable) version_value version_field
    (λ n. small n 128 _ _ (λ _. either_is n (n == 32) refl))
    (λ n is. named n (n == 32) (n == 33) refl refl (passes 7 n (n == 32 || (n == 33)) is))
  where
    named : (n : ℕ) (first second : Bool) → (n == 32) ≡ first → (n == 33) ≡ second → (n == 32 || (n == 33)) ≡ true
        → version_key n ≡ version_field (version_value n)
    named n true second is also ok = let same = eqb-true n 32 is in rw same refl
    named n false true is also ok = let same = eqb-true n 33 also in rw same refl
    named n false false is also ok = let none = rw (is, also) at ok in absurd (false≢true none)

abbrev pub size_key : ℕ → Field
size_key n = allowed_if 10 n (n == 210 || (n == 830))

pub size_alike : Alike (Are (λ s. any_number 10 (user_bits s) ∷ [])) (one size_key) size.of
size_alike =
    named_alike size_key is_size size_from_bits (λ s. any_number 10 (user_bits s)) (λ n. grind (arith, nat_tests))
    (λ n is. named n (n == 210) (n == 830) refl refl (passes 10 n (n == 210 || (n == 830)) is))
  where
    named : (n : ℕ) (first second : Bool) → (n == 210) ≡ first → (n == 830) ≡ second → (n == 210 || (n == 830)) ≡ true
        → size_key n ≡ any_number 10 (user_bits (size_from_bits n))
    named n true second is also ok = let same = eqb-true n 210 is in rw same refl
    named n false true is also ok = let same = eqb-true n 830 also in rw same refl
    named n false false is also ok = let none = rw (is, also) at ok in absurd (false≢true none)

-- ---- numbers

-- a number of w bits
pub any_alike : (w : ℕ) → (nat_le 1 w && nat_le w 32) ≡ true → Alike (Are (λ n. any_number w n ∷ [])) (one (any_number w)) (variable (plain w)).of
any_alike w is = one_alike (any_number w) (is_allowed (plain w)) (λ n. rw is refl)

pub speed_alike : Alike (Are (λ n. up_to 7 120 n ∷ [])) (one (up_to 7 120)) (variable (ranged 7 120 128)).of
speed_alike =
    one_alike (up_to 7 120) (is_allowed (ranged 7 120 128))
    (λ n. small n 128 _ _ (λ few. sym (none_above (nat_le n 120) n 128 few)))

pub two_alike : Alike (Are (λ n. up_to 2 2 n ∷ [])) (one (up_to 2 2)) (variable (ranged 2 2 4)).of
two_alike =
    one_alike (up_to 2 2) (is_allowed (ranged 2 2 4)) (λ n. small n 4 _ _ (λ few. sym (none_above (nat_le n 2) n 4 few)))

pub release_speed_alike : Alike (Are (λ n. release_speed_field n ∷ [])) (one release_speed_field) (variable (ranged 7 120 126)).of
release_speed_alike = one_alike release_speed_field (is_allowed (ranged 7 120 126)) (λ _. refl)

pub static_speed_alike : Alike (Are (λ n. static_speed_field n ∷ [])) (one static_speed_field) (variable (ranged 7 120 127)).of
static_speed_alike =
    one_alike static_speed_field (is_allowed (ranged 7 120 127))
    (λ n. small n 128 _ _ (λ few. sym (only_last (nat_le n 120) n 127 few)))

-- ---- members

pub keyed_any : (name : List ℕ) (w : ℕ) → (nat_le 1 w && nat_le w 32) ≡ true
    → Keyed (key name (any_number w)) (key_codec name (variable (plain w))) (λ n. any_number w n ∷ [])
keyed_any name w is = keyed_key name (one (any_number w)) (variable (plain w)) (λ n. any_number w n ∷ []) (any_alike w is)

pub keyed_scale : Keyed q_scale (key_codec (codes "q_scale") scale) (λ v. scale_field v ∷ [])
keyed_scale = keyed_key (codes "q_scale") (one (up_to 2 2)) scale (λ v. scale_field v ∷ []) scale_alike

pub keyed_identity : (country group : List ℕ) → Keyed (identity country group) (identity_codec country group) identity_fields
keyed_identity country group =
    keyed_named identity_fields identity_struct.make identity_struct.parts identity_struct.again
    (keyed_then (keyed_any country 10 refl) (keyed_any group 14 refl))

-- ---- a variable, and a second one after some of its numbers

-- a number and what follows it, and then a record of both
both_twice : {A B X Y Z : Type 0} (R : A → X → Type 0) (S : B → Z → Type 0) (r : Result A Fault) (s : Result X Fault)
    (f : A → Result B Fault) (g : X → Result Y Fault) (h : Y → Result Z Fault) → Both R r s
    → ((a : A) (x : X) → R a x → Both S (f a) (g x >>= h)) → Both S (r >>= f) ((s >>= g) >>= h)
both_twice R S (Ok a) (Ok x) f g h both next = next a x both
both_twice R S (Err e) (Err k) f g h both next = both
both_twice R S (Ok a) (Err k) f g h both next = absurd both
both_twice R S (Err e) (Ok x) f g h both next = absurd both

-- the members after the number of a level
abbrev level_read : ℕ → Data → Result (List Field) Fault
level_read n d =
    (if n == 1 then required_member (one (any_number 8)) (codes "nid_ntc") d
    else (absent_member (codes "nid_ntc") d >>= λ _. Ok []))
    >>= λ later. Ok (up_to 3 4 n ∷ later)

abbrev level_made : ℕ → Data → Result Level Fault
level_made n d =
    (rows_read (level_numbered.next n) (codes "nid_ntc" ∷ []) d >>= λ rows. Ok (row level_variable n ∷ rows))
    >>= λ rows. Ok (m_level.of rows)

level_absent : (n : ℕ) (d : Data) → Are level_fields (up_to 3 4 n ∷ []) (m_level.of (row level_variable n ∷ []))
    → Both (Are level_fields)
    ((absent_member (codes "nid_ntc") d >>= λ _. Ok []) >>= λ later. Ok (up_to 3 4 n ∷ later))
    (((absent_member (codes "nid_ntc") d >>= λ _. Ok []) >>= λ rows. Ok (row level_variable n ∷ rows)) >>= λ rows. Ok (m_level.of rows))
level_absent n d are =
    absent_both level_fields m_level.of (up_to 3 4 n) (row level_variable n) (absent_member (codes "nid_ntc") d) are

level_next : (d : Data) (n : ℕ) → n ≤ 4 → Both (Are level_fields) (level_read n d) (level_made n d)
level_next d zero few = level_absent 0 d (refl, ((lit< tt, refl), tt))
level_next d (suc zero) few =
    present_alike level_fields m_level.of (up_to 3 4 1) (row level_variable 1) (any_number 8) (plain 8) (codes "nid_ntc")
    (λ _. refl) (lit< tt, refl) (λ _. refl) d
level_next d (suc (suc zero)) few = level_absent 2 d (refl, ((lit< tt, refl), tt))
level_next d (suc (suc (suc zero))) few = level_absent 3 d (refl, ((lit< tt, refl), tt))
level_next d (suc (suc (suc (suc zero)))) few = level_absent 4 d (refl, ((lit< tt, refl), tt))
level_next d (suc (suc (suc (suc (suc n))))) few = absurd (omega (arith, few))

level_numbers : (n : ℕ) → is_writable (up_to 3 4 n) ≡ is_allowed level_variable n
level_numbers n = grind (arith, nat_tests)

pub keyed_level : (name : List ℕ) → Keyed (level name) (level_codec name) level_fields
keyed_level name = record {
  keys = refl;
  alike = λ d.
      let test : ℕ → Bool = λ n. is_writable (up_to 3 4 n) in
      both_twice (Passes test) (Are level_fields) (required_member (number_of (up_to 3 4)) name d)
      (required_member (allowed_number (is_allowed level_variable)) name d) (λ n. level_read n d)
      (λ n. rows_read (level_numbered.next n) (codes "nid_ntc" ∷ []) d >>= λ rows. Ok (row level_variable n ∷ rows))
      (λ rows. Ok (m_level.of rows))
      (required_alike (Passes test) (number_of (up_to 3 4)) (allowed_number (is_allowed level_variable))
      (number_alike test (is_allowed level_variable) level_numbers) name d)
      (λ n k both. rw (sym both.0) (level_next d n (leb-true n 4 (passes 3 n (nat_le n 4) both.1))));
}

abbrev length_read : ℕ → Data → Result (List Field) Fault
length_read n d =
    (if n == 1 || (n == 2) then required_member (one (any_number 15)) (codes "l_trainint") d
    else (absent_member (codes "l_trainint") d >>= λ _. Ok []))
    >>= λ later. Ok (any_number 2 n ∷ later)

abbrev length_made : ℕ → Data → Result Integrity Fault
length_made n d =
    (rows_read (length_numbered.next n) (codes "l_trainint" ∷ []) d >>= λ rows. Ok (row length_variable n ∷ rows))
    >>= λ rows. Ok (q_length.of rows)

length_absent : (n : ℕ) (d : Data) → Are integrity_fields (any_number 2 n ∷ []) (q_length.of (row length_variable n ∷ []))
    → Both (Are integrity_fields)
    ((absent_member (codes "l_trainint") d >>= λ _. Ok []) >>= λ later. Ok (any_number 2 n ∷ later))
    (((absent_member (codes "l_trainint") d >>= λ _. Ok []) >>= λ rows. Ok (row length_variable n ∷ rows)) >>= λ rows. Ok (q_length.of rows))
length_absent n d are =
    absent_both integrity_fields q_length.of (any_number 2 n) (row length_variable n) (absent_member (codes "l_trainint") d) are

length_next : (d : Data) (n : ℕ) → n < 4 → Both (Are integrity_fields) (length_read n d) (length_made n d)
length_next d zero few = length_absent 0 d (refl, ((lit< tt, refl), tt))
length_next d (suc zero) few =
    present_alike integrity_fields q_length.of (any_number 2 1) (row length_variable 1) (any_number 15) (plain 15)
    (codes "l_trainint") (λ _. refl) (lit< tt, refl) (λ _. refl) d
length_next d (suc (suc zero)) few =
    present_alike integrity_fields q_length.of (any_number 2 2) (row length_variable 2) (any_number 15) (plain 15)
    (codes "l_trainint") (λ _. refl) (lit< tt, refl) (λ _. refl) d
length_next d (suc (suc (suc zero))) few = length_absent 3 d (refl, ((lit< tt, refl), tt))
length_next d (suc (suc (suc (suc n)))) few = absurd (omega (arith, few))

length_numbers : (n : ℕ) → is_writable (any_number 2 n) ≡ is_allowed length_variable n
length_numbers n = grind (arith, nat_tests)

abbrev pub length_members : Members
length_members = with_next (codes "q_length") (any_number 2) (λ n. n == 1 || (n == 2)) (codes "l_trainint") (any_number 15)

pub keyed_length : Keyed length_members integrity_codec integrity_fields
keyed_length = record {
  keys = refl;
  alike = λ d.
      let test : ℕ → Bool = λ n. is_writable (any_number 2 n) in
      both_twice (Passes test) (Are integrity_fields) (required_member (number_of (any_number 2)) (codes "q_length") d)
      (required_member (allowed_number (is_allowed length_variable)) (codes "q_length") d) (λ n. length_read n d)
      (λ n. rows_read (length_numbered.next n) (codes "l_trainint" ∷ []) d >>= λ rows. Ok (row length_variable n ∷ rows))
      (λ rows. Ok (q_length.of rows))
      (required_alike (Passes test) (number_of (any_number 2)) (allowed_number (is_allowed length_variable))
      (number_alike test (is_allowed length_variable) length_numbers) (codes "q_length") d)
      (λ n k both. rw (sym both.0) (length_next d n (low 2 n true both.1)));
}

-- ---- members with one of these variables

pub keyed_dir : Keyed (key (codes "q_dir") (up_to 2 2)) (key_codec (codes "q_dir") direction) (λ v. dir_field v ∷ [])
keyed_dir = keyed_key (codes "q_dir") (one (up_to 2 2)) direction (λ v. dir_field v ∷ []) dir_alike

pub keyed_flag : (name : List ℕ) → Keyed (key name (any_number 1)) (key_codec name flag) (λ v. bit v ∷ [])
keyed_flag name = keyed_key name (one (any_number 1)) flag (λ v. bit v ∷ []) flag_alike

pub keyed_side : (name : List ℕ) → Keyed (key name (up_to 2 2)) (key_codec name side) (λ v. train3_field v ∷ [])
keyed_side name = keyed_key name (one (up_to 2 2)) side (λ v. train3_field v ∷ []) side_alike

pub keyed_two : (name : List ℕ) → Keyed (key name (up_to 2 2)) (key_codec name (variable (ranged 2 2 4))) (λ n. up_to 2 2 n ∷ [])
keyed_two name = keyed_key name (one (up_to 2 2)) (variable (ranged 2 2 4)) (λ n. up_to 2 2 n ∷ []) two_alike

pub keyed_speed : (name : List ℕ)
    → Keyed (key name (up_to 7 120)) (key_codec name (variable (ranged 7 120 128))) (λ n. up_to 7 120 n ∷ [])
keyed_speed name = keyed_key name (one (up_to 7 120)) (variable (ranged 7 120 128)) (λ n. up_to 7 120 n ∷ []) speed_alike

pub keyed_release_speed : (name : List ℕ)
    → Keyed (key name release_speed_field) (key_codec name (variable (ranged 7 120 126))) (λ n. release_speed_field n ∷ [])
keyed_release_speed name =
    keyed_key name (one release_speed_field) (variable (ranged 7 120 126)) (λ n. release_speed_field n ∷ []) release_speed_alike

pub keyed_static_speed : (name : List ℕ)
    → Keyed (key name static_speed_field) (key_codec name (variable (ranged 7 120 127))) (λ n. static_speed_field n ∷ [])
keyed_static_speed name =
    keyed_key name (one static_speed_field) (variable (ranged 7 120 127)) (λ n. static_speed_field n ∷ []) static_speed_alike
