-- A document's tokens, read and checked a step at a time.
use Rattle.std.proofs.Common.{◌≡◌, ℕ, suc, ◌+◌, ◌-◌, ◌<◌, ◌≤◌, true, List, [], ◌∷◌, ◌++◌, length, codes, Option, Some, None, Result, Ok, refl, ap, ◌∙◌, arith}
use Rattle.std.specs.Prelude.{◌&&◌, nat_le, nat_lt, option_map}
use Rattle.std.specs.Option.{ok_or}
use Rattle.std.specs.Result.{result_map_both}
use Rattle.std.proofs.lemmas.Bool.{eq-eqb}
use Rattle.std.proofs.lemmas.Bool.Decides.{nat_tests}
use Rattle.json.proofs.Grammar.{members_end, value-begin_object, value_is}
use Rattle.json.specs.Json.{Json, after_end_array, members, parse_map, read_key, value}
use Rattle.json.specs.Token.{Token}
use Rattle.serde_json.specs.Data.{Data, array, no_items, no_members, object, string}
use Rattle.serde_json.specs.Find.{as_array}
use Rattle.serde_json.specs.Read.{converted, of_json, of_members}
use Rattle.etcs_document.proofs.TokenLemmas.{HasItems, converted-object, converted_some, item_more, key_stands, list_stands, no_items_yet, same_list, value_shorter}
use Rattle.etcs_document.specs.Document.{◌then◌, as_values, aspect_telegrams, balise_telegram, controlled_group, document_group, document_message, group_aspect, group_path, has_count, in_form, listed_aspects, only_aspect, only_values, read_indexed}
use Rattle.etcs_document.specs.DocumentFault.{DocumentFault, bad_message, bad_telegram}
use Rattle.etcs_document.specs.DocumentTokens.{AreBalises, AreEach, HasGroup, IsAspect, IsBalises, IsFirst, IsGroup, IsList, IsMessage, IsTelegram}
use Rattle.etcs_schema.specs.Entries.{Entry, with_entries, entries_object}
use Rattle.etcs_schema.specs.Fault.{Kind, here, key as key_step, prefixed_result}
use Rattle.etcs_schema.specs.Reading.{required_member, data_list, only_keys}
use Rattle.etcs_group.specs.Controlled.{IsControlled}
use Rattle.etcs_group.specs.Places.{At}
use Rattle.etcs_document.specs.Tokens.{HasMembers, first_value, prepend_items}
use Rattle.etcs_radio.specs.TextMeaning.{message_of_text}
use Rattle.etcs_radio.specs.declared.message.Message.{Message}
use Rattle.etcs_telegram.specs.Record.{Telegram}
use Rattle.etcs_telegram.specs.TextMeaning.{telegram_of_text}

-- ---- texts

text_stands : (depth : ℕ) (text : List ℕ) (old new : List Token) → old ≡ Token.string text ∷ new → first_value depth old ≡ Some (string text, new)
text_stands depth text old new begins =
    ap (λ ts. first_value depth ts) begins ∙ rw (value_is depth (Token.string text ∷ new)) refl

pub telegram_taken : (depth : ℕ) (text : List ℕ) (old new : List Token) (t : Telegram) → old ≡ Token.string text ∷ new → telegram_of_text text ≡ Ok t → IsFirst IsTelegram depth old t new
unfolding balise_telegram
telegram_taken depth text old new t begins is = record {
  found = string text;
  stands = text_stands depth text old new begins;
  is = λ g a b. ap (result_map_both (λ x. x) (bad_telegram g a b)) is;
}

pub message_taken : (depth : ℕ) (text : List ℕ) (old new : List Token) (m : Message) → old ≡ Token.string text ∷ new → message_of_text text ≡ Ok m → IsFirst IsMessage depth old m new
unfolding document_message
message_taken depth text old new m begins is = record {
  found = string text;
  stands = text_stands depth text old new begins;
  is = λ i. ap (result_map_both (λ x. x) (bad_message i)) is;
}

-- ---- values one after the other

pub first_shorter : {X : Type 0} (Is : Data → X → Type 0) (depth : ℕ) (old : List Token) (x : X) (new : List Token) → IsFirst Is depth old x new → length new < length old
first_shorter Is depth old x new one = value_shorter depth old new one.found one.stands

-- a list does not end at a value
value_goes : (depth : ℕ) (old : List Token) (found : Json × List Token) → value depth old ≡ Some found → after_end_array old ≡ None
value_goes depth (Token.end_array ∷ ts) found is = absurd (cc (value_is depth (Token.end_array ∷ ts)))
value_goes depth old found is = refl

first_goes : {X : Type 0} (Is : Data → X → Type 0) (depth : ℕ) (old : List Token) (x : X) (new : List Token) → IsFirst Is depth old x new → after_end_array old ≡ None
first_goes Is depth old x new one =
    let j = converted_some of_json (value depth old) one.found new one.stands in value_goes depth old (j.0, new) j.1

-- the first items of the tokens are the items of xs
pub record AreFirst {X : Type 0} (Is : Data → X → Type 0) (depth : ℕ) (old : List Token) (xs : List X) (new : List Token) : Type 0 where
  pub found : List Data
  pub stand : HasItems depth found old new
  pub are : AreEach Is found xs

pub none_first : {X : Type 0} (Is : Data → X → Type 0) (depth : ℕ) (old : List Token) → AreFirst Is depth old [] old
none_first Is depth old = record { found = []; stand = no_items_yet depth old; are = tt }

each_and : {X : Type 0} (Is : Data → X → Type 0) (ds : List Data) (xs : List X) (d : Data) (x : X) → AreEach Is ds xs → Is d x → AreEach Is (ds ++ d ∷ []) (xs ++ x ∷ [])
each_and Is [] [] d x are is = (is, tt)
each_and Is [] (y ∷ ys) d x are is = absurd are
each_and Is (e ∷ ds) [] d x are is = absurd are
each_and Is (e ∷ ds) (y ∷ ys) d x are is = (are.0, each_and Is ds ys d x are.1 is)

-- one more
pub first_more : {X : Type 0} (Is : Data → X → Type 0) (depth : ℕ) (old : List Token) (xs : List X) (x : X) (mid new : List Token) → AreFirst Is depth old xs mid
    → IsFirst Is depth mid x new → AreFirst Is depth old (xs ++ x ∷ []) new
first_more Is depth old xs x mid new some one = record {
  found = some.found ++ one.found ∷ [];
  stand = item_more depth some.found one.found old mid new some.stand (first_goes Is depth mid x new one) one.stands;
  are = each_and Is some.found xs one.found x some.are one.is;
}

-- the values between the brackets of a list
pub list_taken : {X : Type 0} (Is : Data → X → Type 0) (depth : ℕ) (old begun ended new : List Token) (xs : List X) → 0 < depth → old ≡ Token.begin_array ∷ begun
    → AreFirst Is (depth - 1) begun xs ended → after_end_array ended ≡ Some new → IsFirst (IsList Is) depth old xs new
list_taken Is depth old begun ended new xs deep begins some ends = record {
  found = array (prepend_items some.found no_items);
  stands = list_stands depth some.found old begun ended new deep begins some.stand ends;
  is = (some.found, refl, some.are);
}

-- ---- objects

-- the members between the braces of an object
pub object_stands : (depth : ℕ) (es : List Entry) (old begun ended new : List Token) → 0 < depth → old ≡ Token.begin_object ∷ begun → HasMembers (depth - 1) es begun ended → read_key ended ≡ Some (None, new)
    → first_value depth old ≡ Some (entries_object es, new)
object_stands depth es old begun ended new deep begins stand ends =
    let p = value (depth - 1) in
    let turn = stand.one_by_one no_members (length begun) (omega arith) in
    let over = ap (converted (λ r. of_members r (with_entries no_members es))) (members_end p turn.0 ended new turn.1 ends) in
    ap (λ ts. first_value depth ts) begins ∙ ap (converted of_json) (value-begin_object depth begun deep)
    ∙ converted-object (members p (length begun) begun) ∙ ap (parse_map object) (turn.2 ∙ over)

-- the object with one key
abbrev with_key : List ℕ → Data → Data
with_key name d = entries_object ((name, Some d) ∷ [])

-- ---- balises and aspects

pub list_values : (ds : List Data) (d : Data) → d ≡ array (prepend_items ds no_items) → as_values d ≡ Ok ds
unfolding as_values
list_values ds d is = ap (λ x. ok_or (option_map data_list (as_array x)) (here Kind)) is ∙ ap (λ l. Ok l) (same_list ds)

pub each_read : {X : Type 0} (Is : Data → X → Type 0) (read : ℕ → Data → Result X DocumentFault) → ((d : Data) (x : X) → Is d x → (n : ℕ) → read n d ≡ Ok x)
    → (n : ℕ) (ds : List Data) (xs : List X) → AreEach Is ds xs → read_indexed read n ds ≡ Ok xs
each_read Is read to n [] [] are = refl
each_read Is read to n [] (x ∷ xs) are = absurd are
each_read Is read to n (d ∷ ds) [] are = absurd are
each_read Is read to n (d ∷ ds) (x ∷ xs) are = rw (to d x are.0 n, each_read Is read to (n + 1) ds xs are.1) refl

same_count : {X : Type 0} (Is : Data → X → Type 0) (ds : List Data) (xs : List X) → AreEach Is ds xs → length ds ≡ length xs
same_count Is [] [] are = refl
same_count Is [] (x ∷ xs) are = absurd are
same_count Is (d ∷ ds) [] are = absurd are
same_count Is (d ∷ ds) (x ∷ xs) are = ap suc (same_count Is ds xs are.1)

balises_are : (ds : List Data) (ts : List Telegram) → AreEach IsTelegram ds ts → (nat_lt 0 (length ts) && nat_le (length ts) 8) ≡ true → AreBalises ds ts
unfolding aspect_telegrams
balises_are ds ts are few = λ g a first has.
    rw (same_count IsTelegram ds ts are, few, has) (each_read IsTelegram (balise_telegram g a) (λ d t is b. is g a b) 0 ds ts are)

-- a list of one to eight balises
pub balises_taken : (depth : ℕ) (old : List Token) (ts : List Telegram) (new : List Token) → IsFirst (IsList IsTelegram) depth old ts new → 0 < length ts → length ts ≤ 8 → IsFirst IsBalises depth old ts new
balises_taken depth old ts new one some few =
    let fits : (nat_lt 0 (length ts) && nat_le (length ts) 8) ≡ true = grind (arith, nat_tests) in
    record { found = one.found; stands = one.stands; is = (one.is.0, list_values one.is.0 one.found one.is.1, balises_are one.is.0 ts one.is.2 fits) }

balises_key : (d : Data) (ds : List Data) → as_values d ≡ Ok ds → only_values (codes "balises") (with_key (codes "balises") d) ≡ Ok ds
unfolding only_values only_keys required_member
balises_key d ds is = ap (prefixed_result (key_step (codes "balises"))) is

aspects_key : (d : Data) (ds : List Data) → as_values d ≡ Ok ds → only_values (codes "aspects") (with_key (codes "aspects") d) ≡ Ok ds
unfolding only_values only_keys required_member
aspects_key d ds is = ap (prefixed_result (key_step (codes "aspects"))) is

-- an aspect
pub aspect_taken : (depth : ℕ) (old begun mid after : List Token) (ts : List Telegram) (new : List Token) → 0 < depth → old ≡ Token.begin_object ∷ begun → read_key begun ≡ Some (Some (codes "balises"), mid)
    → IsFirst IsBalises (depth - 1) mid ts after → read_key after ≡ Some (None, new) → IsFirst IsAspect depth old ts new
aspect_taken depth old begun mid after ts new deep begins named one ends = record {
  found = with_key (codes "balises") one.found;
  stands = object_stands depth ((codes "balises", Some one.found) ∷ []) old begun after new deep begins (key_stands (depth - 1) (codes "balises") one.found begun mid after named one.stands) ends;
  is = (one.is.0, balises_key one.found one.is.0 one.is.1, one.is.2);
}

aspect_reads : (d : Data) (ts : List Telegram) → IsAspect d ts → (g : ℕ) (a first : Option ℕ) → has_count first (length ts) ≡ true → group_aspect g a first d ≡ Ok ts
unfolding group_aspect
aspect_reads d ts is g a first has = ap (λ r. in_form (group_path g a) r then aspect_telegrams g a first) is.1 ∙ is.2 g a first has

others_read : (g n i : ℕ) (ds : List Data) (xs : List (List Telegram)) → AreEach IsAspect ds xs → ((k : ℕ) (x : List Telegram) → At xs k x → length x ≡ n) → read_indexed (λ a. group_aspect g (Some a) (Some n)) i ds ≡ Ok xs
others_read g n i [] [] are counted = refl
others_read g n i [] (x ∷ xs) are counted = absurd are
others_read g n i (d ∷ ds) [] are counted = absurd are
others_read g n i (d ∷ ds) (x ∷ xs) are counted =
    let has : has_count (Some n) (length x) ≡ true = eq-eqb (length x) n (counted 0 x refl) in
    rw (aspect_reads d x are.0 g (Some i) (Some n) has, others_read g n (i + 1) ds xs are.1 (λ k y at. counted (suc k) y at)) refl

aspects_read : (ds : List Data) (xs : List (List Telegram)) → AreEach IsAspect ds xs → IsControlled xs → (g : ℕ) → listed_aspects g ds ≡ Ok xs
unfolding listed_aspects
aspects_read [] [] are is g = let some = is.some in absurd (omega arith)
aspects_read [] (x ∷ xs) are is g = absurd are
aspects_read (d ∷ ds) [] are is g = absurd are
aspects_read (d ∷ ds) (x ∷ xs) are is g =
    rw (aspect_reads d x are.0 g (Some 0) None refl, others_read g (length x) 1 ds xs are.1 (λ k y at. is.counts (suc k) y at)) refl

-- ---- groups

only_read : (d : Data) (group : List Telegram) → IsBalises d group → IsGroup (with_key (codes "balises") d) (group ∷ [])
unfolding document_group only_aspect
only_read d group is = λ g.
    let one = aspect_reads (with_key (codes "balises") d) group (is.0, balises_key d is.0 is.1, is.2) g None None refl in
    ap (λ r. r then λ only. Ok (only ∷ [])) one

controlled_read : (d : Data) (ds : List Data) (xs : List (List Telegram)) → as_values d ≡ Ok ds → AreEach IsAspect ds xs → IsControlled xs → IsGroup (with_key (codes "aspects") d) xs
unfolding document_group controlled_group
controlled_read d ds xs values are is = λ g. ap (λ r. in_form (group_path g None) r then listed_aspects g) (aspects_key d ds values) ∙ aspects_read ds xs are is g

-- the one member of a group, which has this key
member_taken : (depth : ℕ) (old mid : List Token) (name : List ℕ) (found : Data) (aspects : List (List Telegram)) (new : List Token) → read_key old ≡ Some (Some name, mid)
    → first_value depth mid ≡ Some (found, new) → IsGroup (with_key name found) aspects → HasGroup depth old aspects new
member_taken depth old mid name found aspects new named stands is = record {
  name = name;
  found = found;
  stand = key_stands depth name found old mid new named stands;
  is = is;
}

-- the balises of the one aspect
pub only_member : (depth : ℕ) (old mid : List Token) (group : List Telegram) (aspects : List (List Telegram)) (new : List Token) → read_key old ≡ Some (Some (codes "balises"), mid)
    → IsFirst IsBalises depth mid group new → aspects ≡ group ∷ [] → HasGroup depth old aspects new
only_member depth old mid group aspects new named one is = rw is (member_taken depth old mid (codes "balises") one.found (group ∷ []) new named one.stands (only_read one.found group one.is))

-- aspects that are a controlled group
pub aspects_member : (depth : ℕ) (old mid : List Token) (xs aspects : List (List Telegram)) (new : List Token) → read_key old ≡ Some (Some (codes "aspects"), mid)
    → IsFirst (IsList IsAspect) depth mid xs new → aspects ≡ xs → IsControlled xs → HasGroup depth old aspects new
aspects_member depth old mid xs aspects new named one is controlled =
    let values = list_values one.is.0 one.found one.is.1 in
    rw is (member_taken depth old mid (codes "aspects") one.found xs new named one.stands (controlled_read one.found one.is.0 xs values one.is.2 controlled))

pub group_taken : (depth : ℕ) (old begun ended : List Token) (aspects : List (List Telegram)) (new : List Token) → 0 < depth → old ≡ Token.begin_object ∷ begun → HasGroup (depth - 1) begun aspects ended
    → read_key ended ≡ Some (None, new) → IsFirst IsGroup depth old aspects new
group_taken depth old begun ended aspects new deep begins has ends = record {
  found = with_key has.name has.found;
  stands = object_stands depth ((has.name, Some has.found) ∷ []) old begun ended new deep begins has.stand ends;
  is = has.is;
}
