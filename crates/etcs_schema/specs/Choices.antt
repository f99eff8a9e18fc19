-- Values that are distinguished by a number, such as packets by NID_PACKET. The number is read before any
-- other key of the object, and decides the form of the whole object.
use Rattle.std.specs.Prelude.{◌≡◌, ℕ, ◌≤◌, ◌++◌, ◌==◌, ◌⊎◌, max, Bool, true, false, List, ◌∷◌, Option, Some, None, Result, Ok, Err, if◌then◌else◌, refl}
use Rattle.etcs_schema.specs.Prelude.{is_itself, arith, ap, inl, inr, subst, sym, ◌∙◌, ne_eqb, true≢false, Data, Members, as_object, get, AreAllowed, IsAllowed, Row, Variable, alone, row}
use Rattle.etcs_bits.specs.layout.Choice.{either_allows, either_number, either_rows}
use Rattle.etcs_schema.specs.Entries.{Entry, HasEntries, entries_object}
use Rattle.etcs_schema.specs.lemmas.EntryLemmas.{object_has_entries}
use Rattle.etcs_schema.specs.Fault.{Fault, Kind, Range, at_once, here, key as key_step}
use Rattle.etcs_schema.specs.ReadBack.{IsReadBack, ReadsBack}
use Rattle.etcs_schema.specs.Reading.{◌>>=◌, as_kind, allowed_number, required_member}
use Rattle.etcs_schema.specs.Codec.{ObjectMembers, MemberCodec, Codec, are_readable, entries_apart, object_shallow, rest_allowed, fixed, key_again, named, number_again, number_data, object, ◌then◌}

-- ---- what is read first

abbrev pub object_or : Option Members → Result (Unit {0}) Fault
object_or None = Err (here Kind)
object_or (Some ms) = Ok tt

-- an object with any keys
unfoldable pub any_object : Data → Result (Unit {0}) Fault
any_object d = object_or (as_object d)

-- a required member; other keys are not checked
abbrev pub tag_member : {A : Type 0} → (Data → Result A Fault) → List ℕ → Data → Result A Fault
tag_member read name d = any_object d >>= λ u. required_member read name d

-- ---- an object with a number

-- the members of an object after its number k, which is at the key `name`
pub record NumberedMembers (name : List ℕ) (k : ℕ) {X : Type 0} (rows : X → List Row) : Type 0 where
  pub members : MemberCodec rows
  pub readable : are_readable (fixed name k then members) ≡ true

abbrev pub numbered_members : {name : List ℕ} {k : ℕ}
    {X : Type 0} {rows : X → List Row} (members : MemberCodec rows)
    → are_readable (fixed name k then members) ≡ true → NumberedMembers name k rows
numbered_members members readable = record { members = members; readable = readable }

-- the number, which must be k, and the members after it
abbrev pub with_number : {name : List ℕ} {k : ℕ} {X : Type 0} {rows : X → List Row}
    → NumberedMembers name k rows
    → ObjectMembers rows
with_number {name = name} {k = k} o = record {
  members = named (λ p. p.1) (λ x. (tt, x)) (λ _. refl) (fixed name k then o.members);
  readable = o.readable;
}

-- an object with this number at the key
abbrev pub HasNumber : List ℕ → ℕ → Data → Type 0
HasNumber name n d = (any_object d ≡ Ok tt) × (get name d ≡ Some (number_data n))

-- the members of an object begin with this number
pub begins_with : {X : Type 0} {rows : X → List Row} (name : List ℕ) (n : ℕ) (o : ObjectMembers rows) (x : X)
    (rest : List Entry) → o.members.to x ≡ (name, Some (number_data n)) ∷ rest
    → HasNumber name n ((object o).to x)
unfolding any_object
begins_with name n o x rest begins =
    let all = object_has_entries (o.members.to x) (entries_apart o.members o.readable x) in
    let front = subst (λ es. HasEntries es (entries_object (o.members.to x))) begins all in
    (refl, front.0)

-- ---- what the number decides

-- the numbers that have a form; the number of a value, which is the number of the variable x in the bits, and
-- the rows after it; the value's form, with that number at the key; and what an object with a number is read
-- as
pub record Choice (name : List ℕ) (x : Variable) (X : Type 0) : Type 0 where
  pub allows : ℕ → Bool
  pub number : X → ℕ
  pub rows : X → List Row
  pub to : X → Data
  pub of : ℕ → Data → Result X Fault
  pub is_number : (v : X) → allows (number v) ≡ true
  pub has_number : (v : X) → HasNumber name (number v) (to v)
  pub again : (v : X) → AreAllowed (alone x (number v) ++ rows v) → of (number v) (to v) ≡ Ok v
  pub back : ReadsBack (λ v. alone x (number v) ++ rows v) (λ n v. IsReadBack n (to v))
  pub shallow : back.0 ≤ 127

-- only the number k
abbrev pub last : {name : List ℕ} {x : Variable} {k : ℕ} {A : Type 0} {rows : A → List Row}
    → NumberedMembers name k rows → Choice name x A
last {name = name} {x = x} {k = k} {rows = rows} o = record {
  allows = λ n. n == k;
  number = λ _. k;
  rows = rows;
  to = (object (with_number o)).to;
  of = λ n d. if n == k then (object (with_number o)).of d else Err (at_once Range (key_step name));
  is_number = λ _. is_itself k;
  has_number = λ v. begins_with name k (with_number o) v (o.members.to v) refl;
  again =
      λ v allowed. rw (is_itself k) ((object (with_number o)).again v (rest_allowed x k (rows v) allowed));
  back = (
    (object (with_number o)).back.0,
    λ n deep v allowed. (object (with_number o)).back.1 n deep v (rest_allowed x k (rows v) allowed),
  );
  shallow = object_shallow (with_number o);
}

-- one of two functions, by the kind of the value
abbrev pub by_kind : {A B C : Type 0} → (A → C) → (B → C) → A ⊎ B → C
by_kind f g (inl x) = f x
by_kind f g (inr y) = g y

abbrev pub decoded_either : {A B : Type 0} → ℕ
    → (Data → Result A Fault) → (ℕ → Data → Result B Fault) → ℕ → Data
    → Result (A ⊎ B) Fault
decoded_either k read rest n d = if n == k then as_kind inl (read d) else as_kind inr (rest n d)

is_another : (allows : ℕ → Bool) (k n : ℕ) → allows k ≡ false → allows n ≡ true → (n == k) ≡ false
is_another allows k n fresh is = ne_eqb n k (λ same. true≢false (sym is ∙ ap allows same ∙ fresh))

pub either_is_number : {name : List ℕ} {x : Variable} {A B : Type 0} (k : ℕ) (c : Choice name x B)
    → c.allows k ≡ false → (v : A ⊎ B) → either_allows k c.allows (either_number k c.number v) ≡ true
either_is_number k c fresh (inl x) = rw (is_itself k) refl
either_is_number k c fresh (inr y) =
    rw (is_another c.allows k (c.number y) fresh (c.is_number y)) (c.is_number y)

pub either_has_number : {name : List ℕ} {x : Variable} {k : ℕ} {A B : Type 0} {rows : A → List Row}
    (o : NumberedMembers name k rows) (c : Choice name x B) (v : A ⊎ B)
    → HasNumber name (either_number k c.number v) (by_kind (object (with_number o)).to c.to v)
either_has_number {name = name} {k = k} o c (inl x) =
    begins_with name k (with_number o) x (o.members.to x) refl
either_has_number o c (inr y) = c.has_number y

pub either_again : {name : List ℕ} {x : Variable} {k : ℕ} {A B : Type 0} {rows : A → List Row}
    (o : NumberedMembers name k rows) (c : Choice name x B) → c.allows k ≡ false
    → (v : A ⊎ B) → AreAllowed (alone x (either_number k c.number v) ++ either_rows rows c.rows v)
    → decoded_either k (object (with_number o)).of c.of (either_number k c.number v)
    (by_kind (object (with_number o)).to c.to v) ≡ Ok v
either_again {x = x} {k = k} {rows = rows} o c fresh (inl v) allowed =
    rw (is_itself k)
    (ap (as_kind inl) ((object (with_number o)).again v (rest_allowed x k (rows v) allowed)))
either_again {k = k} o c fresh (inr v) allowed =
    rw (is_another c.allows k (c.number v) fresh (c.is_number v)) (ap (as_kind inr) (c.again v allowed))

pub either_back : {name : List ℕ} {x : Variable} {k : ℕ} {A B : Type 0} {rows : A → List Row}
    (o : NumberedMembers name k rows) (c : Choice name x B) (n : ℕ)
    → max (object (with_number o)).back.0 c.back.0 ≤ n
    → (v : A ⊎ B) → AreAllowed (alone x (either_number k c.number v) ++ either_rows rows c.rows v)
    → IsReadBack n (by_kind (object (with_number o)).to c.to v)
either_back {x = x} {k = k} {rows = rows} o c n deep (inl v) allowed =
    (object (with_number o)).back.1 n (omega arith) v (rest_allowed x k (rows v) allowed)
either_back o c n deep (inr v) allowed = c.back.1 n (omega arith) v allowed

-- the number k, or one of other numbers
abbrev pub either : {name : List ℕ} {x : Variable} {k : ℕ} {A B : Type 0} {rows : A → List Row}
    → NumberedMembers name k rows → (c : Choice name x B) → c.allows k ≡ false
    → Choice name x (A ⊎ B)
either {k = k} {rows = rows} o c fresh = record {
  allows = either_allows k c.allows;
  number = either_number k c.number;
  rows = either_rows rows c.rows;
  to = by_kind (object (with_number o)).to c.to;
  of = decoded_either k (object (with_number o)).of c.of;
  is_number = either_is_number k c fresh;
  has_number = either_has_number o c;
  again = either_again o c fresh;
  back = (max (object (with_number o)).back.0 c.back.0, either_back o c);
  shallow = omega (arith, object_shallow (with_number o), c.shallow);
}

pub as_other : (x y : Variable) (n : ℕ) (rows : List Row) → x.width ≡ y.width → y.allows n ≡ true
    → AreAllowed (alone x n ++ rows) → AreAllowed (alone y n ++ rows)
unfolding alone
as_other x y n rows same is allowed = ((rw same at allowed.0.0, is), allowed.1)

-- every number that the variable y allows; the number is a member of the object itself and a part of the
-- value
abbrev pub others : {name : List ℕ} {x : Variable} {X : Type 0} (y : Variable) (number : X → ℕ)
    (rows : X → List Row) (o : ObjectMembers (λ v. alone y (number v) ++ rows v))
    → x.width ≡ y.width → ((v : X) → y.allows (number v) ≡ true)
    → ((v : X) → HasNumber name (number v) ((object o).to v)) → Choice name x X
others {x = x} y number rows o same is_number has_number = record {
  allows = y.allows;
  number = number;
  rows = rows;
  to = (object o).to;
  of = λ _ d. (object o).of d;
  is_number = is_number;
  has_number = has_number;
  again = λ v allowed. (object o).again v (as_other x y (number v) (rows v) same (is_number v) allowed);
  back = (
    (object o).back.0,
    λ n deep v allowed.
        (object o).back.1 n deep v (as_other x y (number v) (rows v) same (is_number v) allowed),
  );
  shallow = object_shallow o;
}

-- ---- the number first, and then the form that it decides

pub chosen_again : {X : Type 0} {x : Variable} (name : List ℕ) (test : ℕ → Bool) (c : Choice name x X)
    → ((v : X) → IsAllowed (row x (c.number v)) → test (c.number v) ≡ true)
    → (v : X) → AreAllowed (alone x (c.number v) ++ c.rows v)
    → (tag_member (allowed_number test) name (c.to v) >>= λ n. c.of n (c.to v)) ≡ Ok v
unfolding alone
chosen_again name test c passes v allowed =
    let number = c.has_number v in
    rw (
      number.0,
      key_again number_data (allowed_number test) name (c.number v) (c.to v)
          (number_again test (c.number v) (passes v allowed.0)) (number.1, tt),
    ) (c.again v allowed)

-- an object whose number passes the test, as every number that is allowed in the bits does
abbrev pub chosen : {X : Type 0} {x : Variable} (name : List ℕ) (test : ℕ → Bool) (c : Choice name x X)
    → ((v : X) → IsAllowed (row x (c.number v)) → test (c.number v) ≡ true) → Codec X
chosen {x = x} name test c passes = record {
  rows = λ v. alone x (c.number v) ++ c.rows v;
  to = c.to;
  of = λ d. tag_member (allowed_number test) name d >>= λ n. c.of n d;
  again = chosen_again name test c passes;
  back = c.back;
}
