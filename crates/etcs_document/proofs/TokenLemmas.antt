-- A text's tokens, read as a value step by step.
use Rattle.std.proofs.Common.{◌≡◌, ℕ, ◌-◌, ◌<◌, ◌≤◌, List, [], ◌∷◌, ◌++◌, length, Bool, true, false, Option, Some, None, Result, Ok, Err, option_and_then, option_map, refl, ap, subst, ◌∙◌, arith}
use Rattle.std.specs.Bool.{then_some}
use Rattle.std.specs.Prelude.{IfOk, IfSome, IsOk, MatchResult}
use Rattle.std.specs.Result.{result_ok}
use Rattle.json.proofs.Grammar.{items_end, items_more, left, members_more, read_key-shorter, skip_value-shorter, value-begin_array}
use Rattle.json.specs.Json as json
use Rattle.json.specs.Json.{after_end_array, items, parse_map, read_key, value}
use Rattle.json.specs.Token.{Token}
use Rattle.serde_json.specs.Data.{Data, Items, Members, array, item, no_items, no_members, object, put}
use Rattle.serde_json.specs.Read.{converted, of_items, of_json, of_members}
use Rattle.etcs_schema.specs.Entries.{Entry, put_or}
use Rattle.etcs_schema.specs.Reading.{data_list}
use Rattle.etcs_document.specs.DocumentFault.{DocumentFault, Gives}
use Rattle.etcs_document.specs.declared.line_error.LineError.{LineError}
use Rattle.etcs_document.specs.Tokens.{HasMembers, first_value, prepend_items}

-- ---- what was converted

one_found : {A B : Type 0} (a : A) (r s : List Token) (x : Option B) (b : B) → option_map {U = B × List Token} (λ y. (y, r)) x ≡ Some (b, s) → (r ≡ s) × (x ≡ Some b)
one_found a r s None b e = absurd (cc)
one_found {B} a r s (Some y) b e = let same : ◌≡◌ {A = B × List Token} (y, r) (b, s) = cc in (ap (λ p. p.1) same, ap (λ p. Some p.0) same)

pub converted_some : {A B : Type 0} (f : A → Option B) (o : Option (A × List Token)) (b : B) (r : List Token) → converted f o ≡ Some (b, r) → (a : A) × (o ≡ Some (a, r)) × (f a ≡ Some b)
converted_some f None b r e = absurd (cc)
converted_some f (Some p) b r e = let both = one_found p.0 p.1 r (f p.0) b e in (p.0, ap (λ s. Some (p.0, s)) both.0, both.1)

twice : {A B : Type 0} (g : A → B) (r : List Token) (x : Option A) → option_map (λ b. (b, r)) (option_map g x) ≡ parse_map g (option_map (λ a. (a, r)) x)
twice g r None = refl
twice g r (Some a) = refl

converted-array : (o : Option (json.Items × List Token)) → converted of_json (parse_map json.array o) ≡ parse_map array (converted of_items o)
converted-array None = refl
converted-array (Some p) = twice array p.1 (of_items p.0)

pub converted-object : (o : Option (json.Members × List Token)) → converted of_json (parse_map json.object o) ≡ parse_map object (converted (λ ms. of_members ms no_members) o)
converted-object None = refl
converted-object (Some p) = twice object p.1 (of_members p.0 no_members)

with_item : (j : json.Json) (d : Data) → of_json j ≡ Some d → (o : Option (json.Items × List Token)) → converted of_items (parse_map (json.item j) o) ≡ parse_map (item d) (converted of_items o)
with_item j d e None = refl
with_item j d e (Some p) = rw e (twice (item d) p.1 (of_items p.0))

with_member : (k : List ℕ) (j : json.Json) (d : Data) (old : Members) → of_json j ≡ Some d → (o : Option (json.Members × List Token))
    → converted (λ ms. of_members ms old) (parse_map (json.member k j) o) ≡ converted (λ ms. of_members ms (put k d old)) o
with_member k j d old e None = refl
with_member k j d old e (Some p) = rw e

-- ---- one value

pub value_shorter : (depth : ℕ) (old new : List Token) (d : Data) → first_value depth old ≡ Some (d, new) → length new < length old
value_shorter depth old new d e =
    let j = converted_some of_json (value depth old) d new e in skip_value-shorter depth old new (ap left j.1)

-- ---- members

pub key_stands : (depth : ℕ) (name : List ℕ) (d : Data) (old mid new : List Token) → read_key old ≡ Some (Some name, mid) → first_value depth mid ≡ Some (d, new)
    → HasMembers depth ((name, Some d) ∷ []) old new
key_stands depth name d old mid new named e = record {
  one_by_one = λ ms turns enough.
      let j = converted_some of_json (value depth mid) d new e in
      let fewer : length new < length mid = value_shorter depth mid new d e in
      let less : length mid < length old = read_key-shorter old (Some name) mid named in
      let some : 0 < turns = omega arith in
      let rest : length new ≤ turns - 1 = omega arith in
      (turns - 1, rest, ap (converted (λ r. of_members r ms)) (members_more (value depth) turns name old mid new j.0 some named j.1) ∙ with_member name j.0 d ms j.2 _);
}

-- one member, and then more members
pub then_stand : (depth : ℕ) (e : Entry) (es : List Entry) (old mid new : List Token) → HasMembers depth (e ∷ []) old mid → HasMembers depth es mid new → HasMembers depth (e ∷ es) old new
then_stand depth e es old mid new one rest = record {
  one_by_one = λ ms turns enough.
      let a = one.one_by_one ms turns enough in
      let b = rest.one_by_one (put_or e.0 e.1 ms) a.0 a.1 in
      (b.0, b.1, a.2 ∙ b.2);
}

-- ---- lists

-- these items, and then the items that are found
abbrev pub joined_items : List Data → Option (Items × List Token) → Option (Items × List Token)
joined_items ds found = option_and_then (λ p. Some (prepend_items ds p.0, p.1)) found

-- these values are the first items of the tokens
pub record HasItems (depth : ℕ) (ds : List Data) (old new : List Token) : Type 0 where
  pub one_by_one : (turns : ℕ) → length old ≤ turns → (left : ℕ) × (length new ≤ left)
      × (converted of_items (items (value depth) turns old)
      ≡ joined_items ds (converted of_items (items (value depth) left new)))

nothing_after : (o : Option (Items × List Token)) → o ≡ joined_items [] o
nothing_after None = refl
nothing_after (Some p) = refl

pub no_items_yet : (depth : ℕ) (old : List Token) → HasItems depth [] old old
no_items_yet depth old = record { one_by_one = λ turns enough. (turns, enough, nothing_after (converted of_items (items (value depth) turns old))) }

onto_more : (ds : List Data) (d : Data) (rest : Items) → prepend_items ds (item d rest) ≡ prepend_items (ds ++ d ∷ []) rest
onto_more [] d rest = refl
onto_more (e ∷ ds) d rest = ap (item e) (onto_more ds d rest)

after_more : (ds : List Data) (d : Data) (o : Option (Items × List Token)) → joined_items ds (parse_map (item d) o) ≡ joined_items (ds ++ d ∷ []) o
after_more ds d None = refl
after_more ds d (Some p) = ap (λ is. Some (is, p.1)) (onto_more ds d p.0)

-- one more item
pub item_more : (depth : ℕ) (ds : List Data) (d : Data) (old mid new : List Token) → HasItems depth ds old mid → after_end_array mid ≡ None → first_value depth mid ≡ Some (d, new)
    → HasItems depth (ds ++ d ∷ []) old new
item_more depth ds d old mid new some going e =
    let j = converted_some of_json (value depth mid) d new e in
    let fewer : length new < length mid = value_shorter depth mid new d e in
    record {
      one_by_one = λ turns enough.
          let a = some.one_by_one turns enough in
          let more : 0 < a.0 = omega (arith, a.1) in
          let rest : length new ≤ a.0 - 1 = omega (arith, a.1) in (
            a.0 - 1,
            rest,
            a.2 ∙ ap (joined_items ds) (ap (converted of_items) (items_more (value depth) a.0 mid new j.0 more going j.1) ∙ with_item j.0 d j.2 _) ∙ after_more ds d _,
          );
    }

-- the items between the brackets of a list
pub list_stands : (depth : ℕ) (ds : List Data) (old begun ended new : List Token) → 0 < depth → old ≡ Token.begin_array ∷ begun
    → HasItems (depth - 1) ds begun ended → after_end_array ended ≡ Some new → first_value depth old ≡ Some (array (prepend_items ds no_items), new)
list_stands depth ds old begun ended new deep begins some ends =
    let p = value (depth - 1) in
    let turn = some.one_by_one (length begun) (omega arith) in
    let over = ap (λ o. joined_items ds (converted of_items o)) (items_end p turn.0 ended new turn.1 ends) in
    ap (λ ts. first_value depth ts) begins ∙ ap (converted of_json) (value-begin_array depth begun deep)
    ∙ converted-array (items p (length begun) begun) ∙ ap (parse_map array) (turn.2 ∙ over)

pub same_list : (ds : List Data) → data_list (prepend_items ds no_items) ≡ ds
same_list [] = refl
same_list (d ∷ ds) = ap (λ r. d ∷ r) (same_list ds)

-- ---- what a call returned, if it returned anything

pub then_some_is : {A : Type 0} (b : Bool) (x y : A) → Some y ≡ then_some b x → (b ≡ true) × (y ≡ x)
then_some_is true x y is = (refl, cc)
then_some_is false x y is = absurd cc

pub if_then : {A : Type 0} (Q : A → Type 0) (b : Bool) (x : A) (o : Option A) → o ≡ then_some b x → (b ≡ true → Q x) → IfSome o Q
if_then Q true x o is more = rw is (more refl)
if_then Q false x o is more = rw is tt

pub ok_part : {A E : Type 0} (P : A → Type 0) (Q : E → Type 0) (r : Result A E) (x : A) → MatchResult r P Q → Some x ≡ result_ok r → P x
ok_part P Q (Ok y) x h is = let same : y ≡ x = cc in subst P same h
ok_part P Q (Err e) x h is = absurd cc

pub ok_some : {A E B : Type 0} (P Q : A → Type 0) (r : Result A E) (o : Option A) → IfOk r P → (IsOk r → B) → o ≡ result_ok r → ((x : A) → P x → B → Q x) → IfSome o Q
ok_some P Q (Ok x) o is made same more = rw same (more x is (made refl))
ok_some P Q (Err e) o is made same more = rw same tt

pub gives_ok : {X : Type 0} (r : Result X LineError) (reading : Result X DocumentFault) → Gives (λ x. x) r reading → IfOk r (λ x. reading ≡ Ok x)
gives_ok (Ok x) reading is = is
gives_ok (Err e) reading is = tt

pub if_some : {A : Type 0} (P Q : A → Type 0) (o : Option A) → IfSome o P → ((x : A) → P x → Q x) → IfSome o Q
if_some P Q None h more = tt
if_some P Q (Some x) h more = more x h
