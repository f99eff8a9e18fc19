-- What is read of keys by the edition is what the codecs read, part by part.
use Rattle.std.proofs.Common.{◌≡◌, ℕ, suc, ◌+◌, ◌^◌, ◌<◌, ◌≤◌, Bool, true, false, List, [], ◌∷◌, ◌++◌, length, Option, Some, None, Result, Ok, Err, refl, sym, ap, ap₂, ◌∙◌, arith, lit<}
use Rattle.std.specs.Prelude.{nat_le, nat_lt, if◌then◌else◌, option_and_then}
use Rattle.std.specs.List.{AllByRecursion, flat_map}
use Rattle.std.proofs.lemmas.Bool.{and_parts, leb-true, ltb-true}
use Rattle.serde_json.specs.Data.{Data, Items}
use Rattle.serde_json.specs.Find.{as_array, as_number, as_u64, get}
use Rattle.etcs_bits.specs.layout.Rows.{Row}
use Rattle.etcs_schema.specs.Codec.{Codec, MemberCodec, first_and_others, first_and_rest, key as key_codec, list, named, non_empty_list, optional_key, ◌then◌ as ◌and◌}
use Rattle.etcs_schema.specs.Fault.{Fault, Range, Step, here, key as at_key, list_item, prefixed, prefixed_result}
use Rattle.etcs_schema.specs.Reading.{◌>>=◌, allowed_number, allowed_or, as_kind, bounded_list, bounded_list_or, data_list, has_bounded_length, indexed_items, key_or, option_or, optional_member, required_member, with_first}
use Rattle.etcs_edition.specs.Wire.{Field, any_number, IsWritable, qualified, iterated}
use Rattle.etcs_edition.specs.Keys.{Reader, Members, is_writable, number_of, one, ◌then◌, optional, elements, first_and_further}
use Rattle.etcs_edition.proofs.AgreeLemmas.{fit_append}

-- ---- two results: both are read, and the relation holds of what is read, or both have the same fault

abbrev pub Both : {A X : Type 0} → (A → X → Type 0) → Result A Fault → Result X Fault → Type 0
Both R (Ok a) (Ok x) = R a x
Both R (Err f) (Err g) = f ≡ g
Both R (Ok a) (Err g) = ⊥
Both R (Err f) (Ok x) = ⊥

pub both_bind : {A B X Y : Type 0} (R : A → X → Type 0) (S : B → Y → Type 0) (r : Result A Fault) (s : Result X Fault)
    (f : A → Result B Fault) (g : X → Result Y Fault) → Both R r s → ((a : A) (x : X) → R a x → Both S (f a) (g x))
    → Both S (r >>= f) (s >>= g)
both_bind R S (Ok a) (Ok x) f g both next = next a x both
both_bind R S (Err e) (Err h) f g both next = both
both_bind R S (Ok a) (Err h) f g both next = absurd both
both_bind R S (Err e) (Ok x) f g both next = absurd both

pub both_prefixed : {A X : Type 0} (R : A → X → Type 0) (step : Step) (r : Result A Fault) (s : Result X Fault)
    → Both R r s → Both R (prefixed_result step r) (prefixed_result step s)
both_prefixed R step (Ok a) (Ok x) both = both
both_prefixed R step (Err e) (Err h) both = ap (prefixed step) both
both_prefixed R step (Ok a) (Err h) both = absurd both
both_prefixed R step (Err e) (Ok x) both = absurd both

-- a test on both sides
pub both_if : {A X : Type 0} (R : A → X → Type 0) (test : Bool) (r : Result A Fault) (s : Result X Fault) (f : Fault)
    → (test ≡ true → Both R r s) → Both R (if test then r else Err f) (if test then s else Err f)
both_if R true r s f both = both refl
both_if R false r s f both = refl

-- ---- a value at a key

abbrev pub Alike : {A X : Type 0} → (A → X → Type 0) → (Data → Result A Fault) → (Data → Result X Fault) → Type 0
Alike R read of = (d : Data) → Both R (read d) (of d)

at_key_or : {A X : Type 0} (R : A → X → Type 0) (read : Data → Result A Fault) (of : Data → Result X Fault)
    → Alike R read of → (name : List ℕ) (o : Option Data) → Both R (key_or read name o) (key_or of name o)
at_key_or R read of same name None = refl
at_key_or R read of same name (Some d) = both_prefixed R (at_key name) (read d) (of d) (same d)

pub required_alike : {A X : Type 0} (R : A → X → Type 0) (read : Data → Result A Fault) (of : Data → Result X Fault)
    → Alike R read of → (name : List ℕ) → Alike R (required_member read name) (required_member of name)
unfolding required_member
required_alike R read of same name d = at_key_or R read of same name (get name d)

-- a part that can be absent
abbrev pub Maybe : {A X : Type 0} → (A → X → Type 0) → Option A → Option X → Type 0
Maybe R None None = Unit {0}
Maybe R (Some a) (Some x) = R a x
Maybe R None (Some x) = ⊥
Maybe R (Some a) None = ⊥

at_option_or : {A X : Type 0} (R : A → X → Type 0) (read : Data → Result A Fault) (of : Data → Result X Fault)
    → Alike R read of → (name : List ℕ) (o : Option Data) → Both (Maybe R) (option_or read name o) (option_or of name o)
at_option_or R read of same name None = tt
at_option_or R read of same name (Some d) =
    both_bind R (Maybe R) (prefixed_result (at_key name) (read d)) (prefixed_result (at_key name) (of d))
    (λ a. Ok (Some a)) (λ x. Ok (Some x)) (both_prefixed R (at_key name) (read d) (of d) (same d)) (λ a x both. both)

optional_alike : {A X : Type 0} (R : A → X → Type 0) (read : Data → Result A Fault) (of : Data → Result X Fault)
    → Alike R read of → (name : List ℕ) → Alike (Maybe R) (optional_member read name) (optional_member of name)
unfolding optional_member
optional_alike R read of same name d = at_option_or R read of same name (get name d)

-- ---- lists

-- the relation holds of each two items, and there are n of them
abbrev pub Each : {A X : Type 0} → (A → X → Type 0) → List A → List X → Type 0
Each R [] [] = Unit {0}
Each R (a ∷ items) (x ∷ xs) = R a x × Each R items xs
Each R [] (x ∷ xs) = ⊥
Each R (a ∷ items) [] = ⊥

abbrev Counted : {A X : Type 0} → (A → X → Type 0) → ℕ → List A → List X → Type 0
Counted R n items xs = Each R items xs × (length items ≡ n)

one_more : {A X : Type 0} (R : A → X → Type 0) (n : ℕ) (a : A) (x : X) (r : Result (List A) Fault) (s : Result (List X) Fault)
    → R a x → Both (Counted R n) r s → Both (Counted R (suc n)) (with_first a r) (with_first x s)
one_more R n a x (Ok items) (Ok xs) first both = ((first, both.0), ap suc both.1)
one_more R n a x (Err e) (Err h) first both = both
one_more R n a x (Ok items) (Err h) first both = absurd both
one_more R n a x (Err e) (Ok xs) first both = absurd both

pub items_alike : {A X : Type 0} (R : A → X → Type 0) (read : Data → Result A Fault) (of : Data → Result X Fault)
    → Alike R read of → (i : ℕ) (ds : List Data)
    → Both (Counted R (length ds)) (indexed_items read i ds) (indexed_items of i ds)
items_alike R read of same i [] = (tt, refl)
items_alike R read of same i (d ∷ ds) =
    both_bind R (Counted R (suc (length ds))) (prefixed_result (list_item i) (read d)) (prefixed_result (list_item i) (of d))
    (λ a. with_first a (indexed_items read (i + 1) ds)) (λ x. with_first x (indexed_items of (i + 1) ds))
    (both_prefixed R (list_item i) (read d) (of d) (same d)) (λ a x first.
    one_more R (length ds) a x (indexed_items read (i + 1) ds) (indexed_items of (i + 1) ds) first
    (items_alike R read of same (i + 1) ds))

-- no more than so many items
abbrev pub Few : {A X : Type 0} → (A → X → Type 0) → ℕ → List A → List X → Type 0
Few R high items xs = Each R items xs × (length items ≤ high)

few_items : {A X : Type 0} (R : A → X → Type 0) (n high : ℕ) (r : Result (List A) Fault) (s : Result (List X) Fault)
    → n ≤ high → Both (Counted R n) r s → Both (Few R high) r s
few_items R n high (Ok items) (Ok xs) few both = (both.0, omega (arith, both.1, few))
few_items R n high (Err e) (Err h) few both = both
few_items R n high (Ok items) (Err h) few both = absurd both
few_items R n high (Err e) (Ok xs) few both = absurd both

bounded_or : {A X : Type 0} (R : A → X → Type 0) (read : Data → Result A Fault) (of : Data → Result X Fault)
    → Alike R read of → (low high : ℕ) (o : Option Items)
    → Both (Few R high) (bounded_list_or read low high o) (bounded_list_or of low high o)
bounded_or R read of same low high None = refl
bounded_or R read of same low high (Some ds) =
    let items = data_list ds in
    both_if (Few R high) (has_bounded_length low high items) (indexed_items read 0 items) (indexed_items of 0 items)
    (here Range) (λ fits.
    few_items R (length items) high (indexed_items read 0 items) (indexed_items of 0 items)
    (leb-true (length items) high (and_parts (nat_le low (length items)) (nat_le (length items) high) fits).1)
    (items_alike R read of same 0 items))

pub bounded_alike : {A X : Type 0} (R : A → X → Type 0) (read : Data → Result A Fault) (of : Data → Result X Fault)
    → Alike R read of → (low high : ℕ) → Alike (Few R high) (bounded_list read low high) (bounded_list of low high)
unfolding bounded_list
bounded_alike R read of same low high d = bounded_or R read of same low high (as_array d)

-- ---- fields of a record

-- the fields are those of the record, and can be written
abbrev pub Are : {X : Type 0} → (X → List Field) → List Field → X → Type 0
Are fields fs x = (fs ≡ fields x) × AllByRecursion IsWritable fs

-- the members that are read as fields are those that the codec reads as a record
pub record Keyed {X : Type 0} {rows : X → List Row} (m : Members) (c : MemberCodec rows) (fields : X → List Field) : Type 0 where
  pub keys : m.keys ≡ c.keys
  pub alike : Alike (Are fields) m.read c.of

pub keyed_then : {A B : Type 0} {rows_a : A → List Row} {rows_b : B → List Row} {m n : Members} {a : MemberCodec rows_a}
    {b : MemberCodec rows_b} {f : A → List Field} {g : B → List Field} → Keyed m a f → Keyed n b g
    → Keyed (m then n) (a and b) (λ p. f p.0 ++ g p.1)
keyed_then {m = m} {n = n} {a = a} {b = b} {f = f} {g = g} x y = record {
  keys = ap₂ (λ (ks ls : List (List ℕ)). ks ++ ls) x.keys y.keys;
  alike = λ d.
      both_bind (Are f) (Are (λ p. f p.0 ++ g p.1)) (m.read d) (a.of d)
      (λ first. n.read d >>= λ later. Ok (first ++ later)) (λ v. b.of d >>= λ w. Ok (v, w)) (x.alike d) (λ fs v front.
      both_bind (Are g) (Are (λ p. f p.0 ++ g p.1)) (n.read d) (b.of d)
      (λ later. Ok (fs ++ later)) (λ w. Ok (v, w)) (y.alike d) (λ gs w back.
      (ap₂ (λ (xs ys : List Field). xs ++ ys) front.0 back.0, fit_append fs gs front.1 back.1)));
}

-- what a record is made of
pub both_made : {P S : Type 0} (fields : S → List Field) (make : P → S) (r : Result (List Field) Fault) (s : Result P Fault)
    → Both (Are (λ p. fields (make p))) r s → Both (Are fields) r (s >>= λ p. Ok (make p))
both_made fields make (Ok fs) (Ok p) both = both
both_made fields make (Err e) (Err h) both = both
both_made fields make (Ok fs) (Err h) both = absurd both
both_made fields make (Err e) (Ok p) both = absurd both

pub keyed_named : {P S : Type 0} {rows : P → List Row} {m : Members} {a : MemberCodec rows} (fields : S → List Field)
    (make : P → S) (parts : S → P) (same : (s : S) → make (parts s) ≡ s) → Keyed m a (λ p. fields (make p))
    → Keyed m (named make parts same a) fields
keyed_named {m = m} {a = a} fields make parts same x = record {
  keys = x.keys;
  alike = λ d. both_made fields make (m.read d) (a.of d) (x.alike d);
}

pub keyed_key : {X : Type 0} (name : List ℕ) (read : Reader) (s : Codec X) (fields : X → List Field)
    → Alike (Are fields) read s.of
    → Keyed (record { keys = name ∷ []; read = required_member read name }) (key_codec name s) fields
keyed_key name read s fields same = record {
  keys = refl;
  alike = required_alike (Are fields) read s.of same name;
}

-- ---- parts with a qualifier, and lists

qualified_are : {X : Type 0} (fields : X → List Field) (o : Option (List Field)) (p : Option X) → Maybe (Are fields) o p
    → Are (qualified fields) (qualified (λ fs. fs) o) p
qualified_are fields None None both = (refl, ((lit< tt, refl), tt))
qualified_are fields (Some fs) (Some x) both =
    (ap (λ (gs : List Field). any_number 1 1 ∷ gs) both.0, ((lit< tt, refl), both.1))
qualified_are fields None (Some x) both = absurd both
qualified_are fields (Some fs) None both = absurd both

both_qualified : {X : Type 0} (fields : X → List Field) (r : Result (Option (List Field)) Fault) (o : Result (Option X) Fault)
    → Both (Maybe (Are fields)) r o → Both (Are (qualified fields)) (r >>= λ found. Ok (qualified (λ fs. fs) found)) o
both_qualified fields (Ok o) (Ok p) both = qualified_are fields o p both
both_qualified fields (Err e) (Err h) both = both
both_qualified fields (Ok o) (Err h) both = absurd both
both_qualified fields (Err e) (Ok p) both = absurd both

pub keyed_optional : {X : Type 0} (name : List ℕ) (read : Reader) (s : Codec X) (fields : X → List Field)
    → Alike (Are fields) read s.of → Keyed (optional name read) (optional_key name s) (qualified fields)
keyed_optional name read s fields same = record {
  keys = refl;
  alike = λ d.
      both_qualified fields (optional_member read name d) (optional_member s.of name d)
      (optional_alike (Are fields) read s.of same name d);
}

pub flat_are : {X : Type 0} (fields : X → List Field) (items : List (List Field)) (xs : List X) → Each (Are fields) items xs
    → Are (flat_map fields) (flat_map (λ fs. fs) items) xs
flat_are fields [] [] each = (refl, tt)
flat_are fields (fs ∷ items) (x ∷ xs) each =
    let later = flat_are fields items xs each.1 in
    (ap₂ (λ (gs hs : List Field). gs ++ hs) each.0.0 later.0, fit_append fs (flat_map (λ gs. gs) items) each.0.1 later.1)
flat_are fields [] (x ∷ xs) each = absurd each
flat_are fields (fs ∷ items) [] each = absurd each

same_count : {A X : Type 0} (R : A → X → Type 0) (items : List A) (xs : List X) → Each R items xs → length items ≡ length xs
same_count R [] [] each = refl
same_count R (a ∷ items) (x ∷ xs) each = ap suc (same_count R items xs each.1)
same_count R [] (x ∷ xs) each = absurd each
same_count R (a ∷ items) [] each = absurd each

iterated_are : {X : Type 0} (fields : X → List Field) (items : List (List Field)) (xs : List X) → Each (Are fields) items xs
    → length items < 32 → Are (iterated fields) (iterated (λ fs. fs) items) xs
iterated_are fields items xs each few =
    let flat = flat_are fields items xs each in (
      ap₂ (λ (n : ℕ) (fs : List Field). any_number 5 n ∷ fs) (same_count (Are fields) items xs each) flat.0,
      ((few, refl), flat.1),
    )

both_iterated : {X : Type 0} (fields : X → List Field) (r : Result (List (List Field)) Fault) (o : Result (List X) Fault)
    → Both (Few (Are fields) 31) r o → Both (Are (iterated fields)) (r >>= λ xs. Ok (iterated (λ fs. fs) xs)) o
both_iterated fields (Ok items) (Ok xs) both = iterated_are fields items xs both.0 (omega (arith, both.1))
both_iterated fields (Err e) (Err h) both = both
both_iterated fields (Ok items) (Err h) both = absurd both
both_iterated fields (Err e) (Ok xs) both = absurd both

pub keyed_elements : {X : Type 0} (name : List ℕ) (read : Reader) (s : Codec X) (fields : X → List Field)
    → Alike (Are fields) read s.of → Keyed (elements name read) (key_codec name (list s)) (iterated fields)
keyed_elements name read s fields same = record {
  keys = refl;
  alike = λ d.
      both_iterated fields (required_member (bounded_list read 0 31) name d) (required_member (bounded_list s.of 0 31) name d)
      (required_alike (Few (Are fields) 31) (bounded_list read 0 31) (bounded_list s.of 0 31)
      (bounded_alike (Are fields) read s.of same 0 31) name d);
}

-- an element and the further ones
abbrev pub first_fields : {X : Type 0} → (X → List Field) → X × List X → List Field
first_fields fields p = fields p.0 ++ iterated fields p.1

abbrev Several : {X : Type 0} → (X → List Field) → List Field × List (List Field) → X × List X → Type 0
Several fields p q = Are fields p.0 q.0 × (Each (Are fields) p.1 q.1 × (length p.1 < 32))

first_alike : {X : Type 0} (fields : X → List Field) (items : List (List Field)) (xs : List X) → Few (Are fields) 32 items xs
    → Both (Several fields) (first_and_rest items) (first_and_rest xs)
first_alike fields [] [] few = refl
first_alike fields (fs ∷ items) (x ∷ xs) few = (few.0.0, (few.0.1, omega (arith, few.1)))
first_alike fields [] (x ∷ xs) few = absurd few.0
first_alike fields (fs ∷ items) [] few = absurd few.0

several_alike : {X : Type 0} (read : Reader) (s : Codec X) (fields : X → List Field) → Alike (Are fields) read s.of
    → Alike (Several fields) (first_and_others read 32) (first_and_others s.of 32)
several_alike read s fields same d =
    both_bind (Few (Are fields) 32) (Several fields) (bounded_list read 1 32 d) (bounded_list s.of 1 32 d) first_and_rest
    first_and_rest (bounded_alike (Are fields) read s.of same 1 32 d) (first_alike fields)

both_several : {X : Type 0} (fields : X → List Field) (r : Result (List Field × List (List Field)) Fault)
    (o : Result (X × List X) Fault) → Both (Several fields) r o
    → Both (Are (first_fields fields)) (r >>= λ xs. Ok (xs.0 ++ iterated (λ fs. fs) xs.1)) o
both_several fields (Ok p) (Ok q) both =
    let later = iterated_are fields p.1 q.1 both.1.0 both.1.1 in (
      ap₂ (λ (fs gs : List Field). fs ++ gs) both.0.0 later.0,
      fit_append p.0 (iterated (λ fs. fs) p.1) both.0.1 later.1,
    )
both_several fields (Err e) (Err h) both = both
both_several fields (Ok p) (Err h) both = absurd both
both_several fields (Err e) (Ok q) both = absurd both

pub keyed_further : {X : Type 0} (name : List ℕ) (read : Reader) (s : Codec X) (fields : X → List Field)
    → Alike (Are fields) read s.of
    → Keyed (first_and_further name read) (key_codec name (non_empty_list s)) (first_fields fields)
keyed_further name read s fields same = record {
  keys = refl;
  alike = λ d.
      both_several fields (required_member (first_and_others read 32) name d)
      (required_member (first_and_others s.of 32) name d)
      (required_alike (Several fields) (first_and_others read 32) (first_and_others s.of 32)
      (several_alike read s fields same) name d);
}

-- ---- variables

pub writable_one : (f : Field) → is_writable f ≡ true → IsWritable f
writable_one f is =
    let parts = and_parts (nat_lt f.number (2 ^ f.width)) f.allowed is in
    (ltb-true f.number (2 ^ f.width) parts.0, parts.1)

-- one number that passes the test
abbrev pub Passes : (ℕ → Bool) → ℕ → ℕ → Type 0
Passes test n k = (n ≡ k) × (test n ≡ true)

passes_or : (test allowed : ℕ → Bool) (n : ℕ) (b : Bool) → test n ≡ b → allowed n ≡ b
    → Both (Passes test) (if test n then Ok n else Err (here Range)) (if allowed n then Ok n else Err (here Range))
passes_or test allowed n true is also = rw (is, also) (refl, is)
passes_or test allowed n false is also = rw (is, also) refl

number_or : (test allowed : ℕ → Bool) → ((n : ℕ) → test n ≡ allowed n) → (o : Option ℕ)
    → Both (Passes test) (allowed_or test o) (allowed_or allowed o)
number_or test allowed same None = refl
number_or test allowed same (Some n) = passes_or test allowed n (test n) refl (sym (same n))

pub number_alike : (test allowed : ℕ → Bool) → ((n : ℕ) → test n ≡ allowed n)
    → Alike (Passes test) (allowed_number test) (allowed_number allowed)
unfolding allowed_number
number_alike test allowed same d = number_or test allowed same (option_and_then as_u64 (as_number d))

-- a variable whose numbers are kept
pub one_alike : (variable : ℕ → Field) (allowed : ℕ → Bool) → ((n : ℕ) → is_writable (variable n) ≡ allowed n)
    → Alike (Are (λ n. variable n ∷ [])) (one variable) (allowed_number allowed)
one_alike variable allowed same d =
    both_kept (number_of variable d) (allowed_number allowed d) (number_alike (λ n. is_writable (variable n)) allowed same d)
  where
    both_kept : (r s : Result ℕ Fault) → Both (Passes (λ n. is_writable (variable n))) r s
        → Both (Are (λ n. variable n ∷ [])) (r >>= λ n. Ok (variable n ∷ [])) s
    both_kept (Ok n) (Ok k) both =
        (ap (λ (i : ℕ). variable i ∷ []) both.0, (writable_one (variable n) both.1, tt))
    both_kept (Err e) (Err h) both = both
    both_kept (Ok n) (Err h) both = absurd both
    both_kept (Err e) (Ok k) both = absurd both

-- a variable whose numbers have names
pub named_alike : {X : Type 0} (variable : ℕ → Field) (allowed : ℕ → Bool) (value : ℕ → X) (field : X → Field)
    → ((n : ℕ) → is_writable (variable n) ≡ allowed n)
    → ((n : ℕ) → is_writable (variable n) ≡ true → variable n ≡ field (value n))
    → Alike (Are (λ v. field v ∷ [])) (one variable) (λ d. as_kind value (allowed_number allowed d))
named_alike variable allowed value field same names d =
    both_bind (Passes (λ n. is_writable (variable n))) (Are (λ v. field v ∷ [])) (number_of variable d)
    (allowed_number allowed d) (λ n. Ok (variable n ∷ [])) (λ n. Ok (value n))
    (number_alike (λ n. is_writable (variable n)) allowed same d) (λ n k both. (
      ap (λ (f : Field). f ∷ []) (names n both.1) ∙ ap (λ (i : ℕ). field (value i) ∷ []) both.0,
      (writable_one (variable n) both.1, tt),
    ))
