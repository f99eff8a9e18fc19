-- The JSON form of a type: what a value is written as, what is read, and that reading what was written gives
-- the same value, if the rows of its bits are allowed. The text of what was written is read back, too.
use Rattle.std.specs.Prelude.{◌≡◌, ◌≤◌, ◌+◌, ◌-◌, ◌++◌, ◌==◌, ◌&&◌, ℕ, suc, max, Bool, true, List, [], ◌∷◌, length, ltb, Option, Some, None, IfSome, Result, Ok, Err, if◌then◌else◌, option_map, refl}
use Rattle.std.specs.List.{AllByRecursion}
use Rattle.json.specs.Tree.{ItemsHaveNumbers, items_depth}
use Rattle.serde_json.specs.Read.{of_items}
use Rattle.serde_json.specs.Written.{items_outline}
use Rattle.etcs_schema.specs.Prelude.{is_itself, flat_map, ap, ◌∙◌, arith, and_from, and_parts, le-leb, ltb-true, Data, Items, item, no_items, array, number, unsigned, body_rows, counted_rows, option_rows, pair_rows, l_packet, AreAllowed, IsAllowed, Row, Variable, alone, width}
use Rattle.etcs_bits.specs.lemmas.RowLemmas.{allowed_first, allowed_second}
use Rattle.etcs_bits.specs.layout.Struct.{Struct}
use Rattle.etcs_schema.specs.Entries.{Entry, entry_keys, entries_object, are_apart, HasEntries}
use Rattle.etcs_schema.specs.lemmas.EntryLemmas.{object_has_entries, object_known, holds_parts, entry_keys-append}
use Rattle.etcs_schema.specs.ReadBack.{AreReadBack, IsReadBack, NumbersAreRead, ReadsBack, number_back, number_depth, object_back}
use Rattle.etcs_schema.specs.Fault.{Fault, Range, key as key_step, prefixed_result, here}
use Rattle.etcs_schema.specs.Reading.{◌>>=◌, allowed_number, indexed_items, data_list, bounded_list, only_keys, required_member, key_or, optional_member, option_or, as_kind}

-- the form of a value whose bits have these rows
pub record Codec (X : Type 0) : Type 0 where
  pub rows : X → List Row
  pub to : X → Data
  pub of : Data → Result X Fault
  pub again : (x : X) → AreAllowed (rows x) → of (to x) ≡ Ok x
  pub back : ReadsBack rows (λ n x. IsReadBack n (to x))

-- some members of an object, in the order in which they are read
pub record MemberCodec {X : Type 0} (rows : X → List Row) : Type 0 where
  pub keys : List (List ℕ)
  pub to : X → List Entry
  pub of : Data → Result X Fault
  pub has_keys : (x : X) → entry_keys (to x) ≡ keys
  pub again : (x : X) (d : Data) → AreAllowed (rows x) → HasEntries (to x) d → of d ≡ Ok x
  pub back : ReadsBack rows (λ n x. AreReadBack n (to x))

-- the rows after one row are allowed
pub rest_allowed : (x : Variable) (n : ℕ) (rows : List Row) → AreAllowed (alone x n ++ rows)
    → AreAllowed rows
unfolding alone
rest_allowed x n rows allowed = allowed.1

-- ---- values

abbrev pub number_data : ℕ → Data
number_data n = number (unsigned n)

pub number_again : (allowed : ℕ → Bool) (n : ℕ) → allowed n ≡ true
    → allowed_number allowed (number_data n) ≡ Ok n
unfolding allowed_number
number_again allowed n is = rw is refl

-- the form of a struct is the form of its parts; `make` and `parts` convert between the two
abbrev pub renamed : {X Y : Type 0} (make : X → Y) (parts : Y → X) → ((y : Y) → make (parts y) ≡ y) → Codec X
    → Codec Y
renamed make parts same s = record {
  rows = λ y. s.rows (parts y);
  to = λ y. s.to (parts y);
  of = λ d. as_kind make (s.of d);
  again = λ y allowed. ap (as_kind make) (s.again (parts y) allowed) ∙ ap Ok (same y);
  back = (s.back.0, λ n deep y. s.back.1 n deep (parts y));
}

-- the forms of the items
abbrev pub encoded_items : {X : Type 0} → (X → Data) → List X → Items
encoded_items to [] = no_items
encoded_items to (x ∷ xs) = item (to x) (encoded_items to xs)

encoded_count : {X : Type 0} (to : X → Data) (xs : List X)
    → length (data_list (encoded_items to xs)) ≡ length xs
encoded_count to [] = refl
encoded_count to (x ∷ xs) = rw (encoded_count to xs) refl

pub items_again : {X : Type 0} (s : Codec X) (i : ℕ) (xs : List X) → AreAllowed (flat_map s.rows xs)
    → indexed_items s.of i (data_list (encoded_items s.to xs)) ≡ Ok xs
items_again s i [] h = refl
items_again s i (x ∷ xs) h =
    rw (
      s.again x (allowed_first (s.rows x) (flat_map s.rows xs) h),
      items_again s (i + 1) xs (allowed_second (s.rows x) (flat_map s.rows xs) h),
    ) refl

pub list_again : {X : Type 0} (s : Codec X) (low high : ℕ) (xs : List X) → low ≤ length xs → length xs ≤ high
    → AreAllowed (flat_map s.rows xs)
    → bounded_list s.of low high (array (encoded_items s.to xs)) ≡ Ok xs
unfolding bounded_list
list_again s low high xs some few h =
    rw (encoded_count s.to xs, and_from _ _ (le-leb low (length xs) some) (le-leb (length xs) high few))
    (items_again s 0 xs h)

pub counted_again : {X : Type 0} (s : Codec X) (xs : List X) → AreAllowed (counted_rows s.rows xs)
    → bounded_list s.of 0 31 (array (encoded_items s.to xs)) ≡ Ok xs
unfolding alone
counted_again s xs h = list_again s 0 31 xs (omega arith) (omega (arith, h.0.0)) h.1

items_back : {X : Type 0} (s : Codec X) (n : ℕ) → s.back.0 ≤ n → NumbersAreRead → n ≤ 127 → (xs : List X)
    → AreAllowed (flat_map s.rows xs)
    → (of_items (items_outline (encoded_items s.to xs)) ≡ Some (encoded_items s.to xs))
    × ItemsHaveNumbers (items_outline (encoded_items s.to xs))
    × (items_depth (items_outline (encoded_items s.to xs)) ≤ n)
unfolding IsReadBack
items_back s n deep numbers few [] h = (refl, tt, omega arith)
items_back s n deep numbers few (x ∷ xs) h =
    let one = s.back.1 n deep x (allowed_first (s.rows x) (flat_map s.rows xs) h) numbers few in
    let more = items_back s n deep numbers few xs (allowed_second (s.rows x) (flat_map s.rows xs) h) in
    (rw (one.0, more.0) refl, (one.1, more.1), omega arith)

pub list_back : {X : Type 0} (s : Codec X) (n : ℕ) → suc s.back.0 ≤ n → (xs : List X)
    → AreAllowed (flat_map s.rows xs) → IsReadBack n (array (encoded_items s.to xs))
unfolding IsReadBack
list_back s n deep xs h numbers few =
    let all = items_back s (n - 1) (omega arith) numbers (omega arith) xs h in
    (ap (option_map array) all.0, all.1, omega arith)

-- up to 31 items, after their count
abbrev pub list : {X : Type 0} → Codec X → Codec (List X)
list s = record {
  rows = counted_rows s.rows;
  to = λ xs. array (encoded_items s.to xs);
  of = bounded_list s.of 0 31;
  again = counted_again s;
  back = (suc s.back.0, λ n deep xs h. list_back s n deep xs (rest_allowed _ _ (flat_map s.rows xs) h));
}

abbrev pub first_and_rest : {X : Type 0} → List X → Result (X × List X) Fault
first_and_rest [] = Err (here Range)
first_and_rest (x ∷ xs) = Ok (x, xs)

-- a list of 1 to `high` items, as the first and the others
abbrev pub first_and_others : {X : Type 0} → (Data → Result X Fault) → ℕ → Data → Result (X × List X) Fault
first_and_others read high d = bounded_list read 1 high d >>= first_and_rest

pub all_append : {A : Type 0} (P : A → Type 0) (xs ys : List A) → AllByRecursion P xs → AllByRecursion P ys
    → AllByRecursion P (xs ++ ys)
all_append P [] ys a b = b
all_append P (x ∷ xs) ys a b = (a.0, all_append P xs ys a.1 b)

pub all_allowed : {X : Type 0} (rows : X → List Row) (p : X × List X)
    → AreAllowed (pair_rows rows (counted_rows rows) p) → AreAllowed (flat_map rows (p.0 ∷ p.1))
unfolding alone
all_allowed rows p h =
    all_append IsAllowed (rows p.0) (flat_map rows p.1) (allowed_first (rows p.0) (counted_rows rows p.1) h)
    (allowed_second (rows p.0) (counted_rows rows p.1) h).1

pub first_again : {X : Type 0} (s : Codec X) (p : X × List X)
    → AreAllowed (pair_rows s.rows (counted_rows s.rows) p)
    → first_and_others s.of 32 (array (encoded_items s.to (p.0 ∷ p.1))) ≡ Ok p
unfolding alone
first_again s p h =
    let further = allowed_second (s.rows p.0) (counted_rows s.rows p.1) h in
    ap (λ r. r >>= first_and_rest)
    (list_again s 1 32 (p.0 ∷ p.1) (omega arith) (omega (arith, further.0.0)) (all_allowed s.rows p h))

-- 1 to 32 items: the first, and the others after their count
abbrev pub non_empty_list : {X : Type 0} → Codec X → Codec (X × List X)
non_empty_list s = record {
  rows = pair_rows s.rows (counted_rows s.rows);
  to = λ p. array (encoded_items s.to (p.0 ∷ p.1));
  of = first_and_others s.of 32;
  again = first_again s;
  back = (suc s.back.0, λ n deep p h. list_back s n deep (p.0 ∷ p.1) (all_allowed s.rows p h));
}

-- ---- members

pub key_again : {X : Type 0} (to : X → Data) (read : Data → Result X Fault) (name : List ℕ) (x : X) (d : Data)
    → read (to x) ≡ Ok x → HasEntries ((name, Some (to x)) ∷ []) d → required_member read name d ≡ Ok x
unfolding required_member
key_again to read name x d again holds =
    ap (key_or read name) holds.0 ∙ ap (prefixed_result (key_step name)) again

-- a required key
abbrev pub key : {X : Type 0} → List ℕ → (s : Codec X) → MemberCodec s.rows
key name s = record {
  keys = name ∷ [];
  to = λ x. (name, Some (s.to x)) ∷ [];
  of = required_member s.of name;
  has_keys = λ x. refl;
  again = λ x d allowed. key_again s.to s.of name x d (s.again x allowed);
  back = (s.back.0, λ n deep x h. (s.back.1 n deep x h, tt));
}

abbrev pub optional : {X : Type 0} → (X → Data) → Option X → Option Data
optional to None = None
optional to (Some x) = Some (to x)

pub option_again : {X : Type 0} (s : Codec X) (name : List ℕ) (o : Option X) (d : Data)
    → AreAllowed (option_rows s.rows o) → HasEntries ((name, optional s.to o) ∷ []) d
    → optional_member s.of name d ≡ Ok o
unfolding optional_member alone
option_again s name None d allowed holds = ap (option_or s.of name) holds.0
option_again s name (Some x) d allowed holds = rw (holds.0, s.again x allowed.1) refl

pub option_back : {X : Type 0} (s : Codec X) (name : List ℕ) (n : ℕ) → s.back.0 ≤ n → (o : Option X)
    → AreAllowed (option_rows s.rows o) → AreReadBack n ((name, optional s.to o) ∷ [])
unfolding alone
option_back s name n deep None h = (tt, tt)
option_back s name n deep (Some x) h = (s.back.1 n deep x h.1, tt)

-- a key that is present if and only if the option is `Some`
abbrev pub optional_key : {X : Type 0} → List ℕ → (s : Codec X) → MemberCodec (option_rows s.rows)
optional_key name s = record {
  keys = name ∷ [];
  to = λ o. (name, optional s.to o) ∷ [];
  of = optional_member s.of name;
  has_keys = λ o. refl;
  again = option_again s name;
  back = (s.back.0, option_back s name);
}

abbrev pub decoded_pair : {A B : Type 0} → (Data → Result A Fault) → (Data → Result B Fault) → Data
    → Result (A × B) Fault
decoded_pair a b d = a d >>= λ x. b d >>= λ y. Ok (x, y)

pub then_again : {A B : Type 0} {rows_a : A → List Row} {rows_b : B → List Row} (a : MemberCodec rows_a)
    (b : MemberCodec rows_b) (p : A × B) (d : Data)
    → AreAllowed (pair_rows rows_a rows_b p)
    → HasEntries (a.to p.0 ++ b.to p.1) d → decoded_pair a.of b.of d ≡ Ok p
then_again {rows_a = rows_a} {rows_b = rows_b} a b p d allowed holds =
    let parts = holds_parts (a.to p.0) (b.to p.1) d holds in
    rw (
      a.again p.0 d (allowed_first (rows_a p.0) (rows_b p.1) allowed) parts.0,
      b.again p.1 d (allowed_second (rows_a p.0) (rows_b p.1) allowed) parts.1,
    ) refl

pub then_back : {A B : Type 0} {rows_a : A → List Row} {rows_b : B → List Row} (a : MemberCodec rows_a)
    (b : MemberCodec rows_b) (n : ℕ) → max a.back.0 b.back.0 ≤ n → (p : A × B)
    → AreAllowed (pair_rows rows_a rows_b p) → AreReadBack n (a.to p.0 ++ b.to p.1)
then_back {rows_a = rows_a} {rows_b = rows_b} a b n deep p h =
    all_append (λ e. IfSome e.1 (IsReadBack n)) (a.to p.0) (b.to p.1)
    (a.back.1 n (omega arith) p.0 (allowed_first (rows_a p.0) (rows_b p.1) h))
    (b.back.1 n (omega arith) p.1 (allowed_second (rows_a p.0) (rows_b p.1) h))

-- members, and then more members
infixr 5 ◌then◌
abbrev pub ◌then◌ : {A B : Type 0} {rows_a : A → List Row} {rows_b : B → List Row}
    → MemberCodec rows_a → MemberCodec rows_b
    → MemberCodec (pair_rows rows_a rows_b)
a then b = record {
  keys = a.keys ++ b.keys;
  to = λ p. a.to p.0 ++ b.to p.1;
  of = decoded_pair a.of b.of;
  has_keys = λ p. entry_keys-append (a.to p.0) (b.to p.1) ∙ rw (a.has_keys p.0, b.has_keys p.1) refl;
  again = then_again a b;
  back = (max a.back.0 b.back.0, then_back a b);
}

-- the members of a struct are the members of its parts
abbrev pub named : {X Y : Type 0} {rows : X → List Row} (with_parts : X → Y) (parts_of : Y → X)
    → ((y : Y) → with_parts (parts_of y) ≡ y) → MemberCodec rows → MemberCodec (λ y. rows (parts_of y))
named with_parts parts_of same a = record {
  keys = a.keys;
  to = λ y. a.to (parts_of y);
  of = λ d. a.of d >>= λ x. Ok (with_parts x);
  has_keys = λ y. a.has_keys (parts_of y);
  again =
      λ y d allowed holds. ap (λ r. r >>= λ x. Ok (with_parts x)) (a.again (parts_of y) d allowed holds)
      ∙ ap Ok (same y);
  back = (a.back.0, λ n deep y. a.back.1 n deep (parts_of y));
}

-- members as a struct, whose bits have the same parts
abbrev pub struct : {P S : Type 0} {rows : P → List Row} (s : Struct P S) → MemberCodec rows
    → MemberCodec (λ x. rows (s.parts x))
struct s a = named s.make s.parts s.again a

-- members whose bits have these rows; if these are allowed, so are the rows of the parts
abbrev pub with_bits : {X : Type 0} {other : X → List Row} (rows : X → List Row)
    → ((x : X) → AreAllowed (rows x) → AreAllowed (other x)) → MemberCodec other → MemberCodec rows
with_bits rows keeps a = record {
  keys = a.keys;
  to = a.to;
  of = a.of;
  has_keys = a.has_keys;
  again = λ x d allowed. a.again x d (keeps x allowed);
  back = (a.back.0, λ n deep x allowed. a.back.1 n deep x (keeps x allowed));
}

-- members after a number that is in the bits, but not a member
abbrev pub unstated : {X : Type 0} {rows : X → List Row} (x : Variable) (n : ℕ) → MemberCodec rows
    → MemberCodec (λ v. alone x n ++ rows v)
unstated {rows = rows} x n a = with_bits (λ v. alone x n ++ rows v) (λ v. rest_allowed x n (rows v)) a

-- members whose bits follow L_PACKET
abbrev pub sized : {X : Type 0} {rows : X → List Row} (before : ℕ)
    → MemberCodec rows → MemberCodec (body_rows before rows)
sized {rows = rows} before a =
    with_bits (body_rows before rows)
    (λ x. rest_allowed l_packet (before + (13 + width (rows x))) (rows x)) a

-- a key with a fixed number, whose bits are not among the rows
abbrev pub fixed : List ℕ → ℕ → MemberCodec {X = Unit {0}} (λ _. [])
fixed name k = record {
  keys = name ∷ [];
  to = λ _. (name, Some (number_data k)) ∷ [];
  of = λ d. required_member (allowed_number (λ n. n == k)) name d >>= λ _. Ok tt;
  has_keys = λ _. refl;
  again = λ _ d _ holds. ap (λ r. r >>= λ _. Ok tt)
      (key_again number_data (allowed_number (λ n. n == k)) name k d
      (number_again (λ n. n == k) k (is_itself k)) holds);
  back = (number_depth (suc k), λ n deep _ _. (number_back (suc k) n k deep (omega arith), tt));
}

abbrev pub only : {X : Type 0} → Fault → (X → Bool) → X → Result X Fault
only fault holds x = if holds x then Ok x else Err fault

-- members of records that pass a test; allowed rows pass it, and a record that fails it has the fault
abbrev pub tested : {X : Type 0} {rows : X → List Row} → Fault → (test : X → Bool)
    → ((x : X) → AreAllowed (rows x) → test x ≡ true) → MemberCodec rows → MemberCodec rows
tested fault test passes a = record a {
  of = λ d. a.of d >>= only fault test;
  again = λ x d allowed holds. rw (a.again x d allowed holds, passes x allowed) refl;
}

-- ---- objects

-- no key occurs twice, and the object is not too deep to be read
abbrev pub are_readable : {X : Type 0} {rows : X → List Row} → MemberCodec rows → Bool
are_readable members = are_apart members.keys && ltb members.back.0 127

pub entries_apart : {X : Type 0} {rows : X → List Row} (members : MemberCodec rows)
    → are_readable members ≡ true → (x : X) → are_apart (entry_keys (members.to x)) ≡ true
entries_apart members readable x = ap are_apart (members.has_keys x) ∙ (and_parts _ _ readable).0

-- the members of an object
pub record ObjectMembers {X : Type 0} (rows : X → List Row) : Type 0 where
  pub members : MemberCodec rows
  pub readable : are_readable members ≡ true

-- only these members
abbrev pub closed : {X : Type 0} {rows : X → List Row} (members : MemberCodec rows)
    → are_readable members ≡ true
    → ObjectMembers rows
closed members readable = record { members = members; readable = readable }

pub object_again : {X : Type 0} {rows : X → List Row} (o : ObjectMembers rows) (x : X) → AreAllowed (rows x)
    → (only_keys o.members.keys (entries_object (o.members.to x))
    >>= λ u. o.members.of (entries_object (o.members.to x))) ≡ Ok x
unfolding only_keys
object_again o x allowed =
    let known = rw (o.members.has_keys x) at (object_known (o.members.to x)) in
    let holds = object_has_entries (o.members.to x) (entries_apart o.members o.readable x) in
    rw known (o.members.again x (entries_object (o.members.to x)) allowed holds)

pub object_back_of : {X : Type 0} {rows : X → List Row} (o : ObjectMembers rows) (n : ℕ)
    → suc o.members.back.0 ≤ n → (x : X) → AreAllowed (rows x)
    → IsReadBack n (entries_object (o.members.to x))
object_back_of o n deep x allowed =
    object_back n (o.members.to x) (entries_apart o.members o.readable x) (omega arith)
    (o.members.back.1 (n - 1) (omega arith) x allowed)

-- an object with only these members
abbrev pub object : {X : Type 0} {rows : X → List Row} → ObjectMembers rows → Codec X
object {rows = rows} o = record {
  rows = rows;
  to = λ x. entries_object (o.members.to x);
  of = λ d. only_keys o.members.keys d >>= λ u. o.members.of d;
  again = object_again o;
  back = (suc o.members.back.0, object_back_of o);
}

-- the members of an object, with the rows of its bits
pub record Object (X : Type 0) : Type 0 where
  pub rows : X → List Row
  pub members : MemberCodec rows
  pub readable : are_readable members ≡ true

abbrev pub whole : {X : Type 0} {rows : X → List Row} → ObjectMembers rows → Object X
whole {rows = rows} o = record { rows = rows; members = o.members; readable = o.readable }

abbrev pub object_codec : {X : Type 0} → Object X → Codec X
object_codec o = object (closed o.members o.readable)

pub object_shallow : {X : Type 0} {rows : X → List Row} (o : ObjectMembers rows) → (object o).back.0 ≤ 127
object_shallow o = let few = ltb-true o.members.back.0 127 (and_parts _ _ o.readable).1 in omega (arith, few)
