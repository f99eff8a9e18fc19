-- Bytes, read as tokens one by one.
use Rattle.std.proofs.Common.{◌≡◌, ℕ, eqb, ◌==◌, nat_lt, ◌+◌, ◌-◌, ◌<◌, Bool, true, false, ◌||◌, cond, List, [], ◌∷◌, ◌++◌, length, take, drop, get_or, Some, None, refl, sym, ap, ap₂, ◌∙◌, arith}
use Rattle.std.proofs.lemmas.Bool.{and_parts, eqb-true, false≢true, not-true, or_cases, or_parts}
use Rattle.std.proofs.lemmas.List.{drop_all, drop_more, length-drop, take-append-drop, take_all}
use mathlib.Core.Logic.{inl, inr}
use Rattle.json.specs.Json.{after_end_array, read_key}
use Rattle.json.specs.Lex as spec
use Rattle.json.specs.Lex.{after_comma, after_value, backslash, begins_colon, between, colon, fresh, if_allowed, in_string, lex, lex_byte, operator, may_begin, other, place_token, punctuate, quote, space, string_token, token}
use Rattle.json.specs.Run.{is_plain}
use Rattle.json.specs.Text.{after_backslash, content, plain, prepend}
use Rattle.json.specs.Token.{Token, begin_array, begin_object, string}
use Rattle.json.specs.Word.{is_operator, is_space}
use Rattle.etcs_document.specs.TokenReader.{ArePlain, can_begin, can_close, remaining_tokens}
use Rattle.etcs_document.specs.declared.token_reader.Place.{Place}
use Rattle.etcs_document.specs.declared.token_reader.Place.TheVariants.{Fresh, AfterValue, AfterComma}

-- ---- blanks

pub blank_passed : (x : ℕ) (xs : List ℕ) → is_space x ≡ true → lex between (x ∷ xs) ≡ lex between xs
unfolding lex
blank_passed x xs blank = elim (or_cases _ _ blank) [
  | inl rest ↦ elim (or_cases _ _ rest) [
    | inl rest ↦ elim (or_cases _ _ rest) [ inl e ↦ go 32 e refl | inr e ↦ go 9 e refl ]
    | inr e ↦ go 10 e refl
  ]
  | inr e ↦ go 13 e refl
]
  where
    go : (y : ℕ) → eqb x y ≡ true → lex between (y ∷ xs) ≡ lex between xs → lex between (x ∷ xs) ≡ lex between xs
    go y e is = ap (λ z. lex between (z ∷ xs)) (eqb-true x y e) ∙ is

pub blank_at : (text : List ℕ) (i : ℕ) → i < length text → is_space (get_or text i 0) ≡ true
    → lex between (drop (i + 1) text) ≡ lex between (drop i text)
blank_at text i within blank =
    sym (blank_passed _ _ blank) ∙ ap (lex between) (sym (drop_more text i 0 within))

-- ---- marks

pub comma_passed : (text rest : List ℕ) → lex between text ≡ lex between (44 ∷ rest)
    → punctuate after_comma (lex between rest) ≡ punctuate after_value (lex between text)
unfolding lex punctuate
comma_passed text rest is = ap (punctuate after_value) (sym is)

-- an object begins, or a list
pub begun : (place : Place) (text rest : List ℕ) → can_begin place ≡ true
    → (lex between text ≡ lex between (123 ∷ rest) → remaining_tokens place text ≡ begin_object ∷ punctuate fresh (lex between rest))
    × (lex between text ≡ lex between (91 ∷ rest) → remaining_tokens place text ≡ begin_array ∷ punctuate fresh (lex between rest))
unfolding lex punctuate
begun Fresh text rest may = (λ is. ap (punctuate fresh) is, λ is. ap (punctuate fresh) is)
begun AfterValue text rest may = absurd (false≢true may)
begun AfterComma text rest may = (λ is. ap (punctuate after_comma) is, λ is. ap (punctuate after_comma) is)

-- an object ends, or a list
pub ended : (place : Place) (text rest : List ℕ) (new : List Token) → can_close place ≡ true → new ≡ punctuate after_value (lex between rest)
    → (lex between text ≡ lex between (125 ∷ rest) → read_key (remaining_tokens place text) ≡ Some (None, new))
    × (lex between text ≡ lex between (93 ∷ rest) → after_end_array (remaining_tokens place text) ≡ Some new)
unfolding lex punctuate
ended Fresh text rest new may left = (λ is. ap (λ l. read_key (punctuate fresh l)) is ∙ ap (λ l. Some (None, l)) (sym left), λ is. ap (λ l. after_end_array (punctuate fresh l)) is ∙ ap Some (sym left))
ended AfterValue text rest new may left = (λ is. ap (λ l. read_key (punctuate after_value l)) is ∙ ap (λ l. Some (None, l)) (sym left), λ is. ap (λ l. after_end_array (punctuate after_value l)) is ∙ ap Some (sym left))
ended AfterComma text rest new may left = absurd (false≢true may)

pub none_left : (place : Place) (text begun : List ℕ) → can_close place ≡ true → lex between begun ≡ lex between text → length begun ≡ 0
    → remaining_tokens place text ≡ []
unfolding lex punctuate
none_left Fresh text begun may same none = ap (punctuate fresh) (sym same ∙ ap (lex between) (drop_all 0 begun (omega arith)))
none_left AfterValue text begun may same none =
    ap (punctuate after_value) (sym same ∙ ap (lex between) (drop_all 0 begun (omega arith)))
none_left AfterComma text begun may same none = absurd (false≢true may)

-- ---- strings

-- the tests of a byte that needs no escape
plain_tests : (x : ℕ) → is_plain x ≡ true → ((x == 34) ≡ false) × ((x == 92) ≡ false) × (nat_lt x 32 ≡ false)
plain_tests x is =
    let none = or_parts ((x == 34) || (x == 92)) _ (not-true _ is) in
    let both = or_parts (x == 34) _ none.0 in (both.0, both.1, none.1)

byte_within : (o s : Bool) (x : ℕ) (xs : List ℕ)
    → lex_byte in_string (cond o operator (cond s space other)) x xs (λ n. lex n xs) ≡ lex in_string xs
byte_within true s x xs = refl
byte_within false true x xs = refl
byte_within false false x xs = refl

-- a byte within a string
within_step : (x : ℕ) (xs : List ℕ) → is_plain x ≡ true → lex in_string (x ∷ xs) ≡ lex in_string xs
unfolding lex
within_step x xs is =
    let tests = plain_tests x is in
    (λ i. lex_byte in_string (cond (tests.0 i) quote (cond (tests.1 i) backslash (cond (is_operator x) operator (cond (is_space x) space other)))) x xs (λ n. lex n xs))
    ∙ byte_within (is_operator x) (is_space x) x xs

content_step : (x : ℕ) (xs : List ℕ) → is_plain x ≡ true → content plain (x ∷ xs) ≡ prepend (x ∷ []) (content plain xs)
unfolding content
content_step x xs is =
    let tests = plain_tests x is in
    λ i. cond (tests.0 i) (Some []) (cond (tests.1 i) (content after_backslash xs) (cond (tests.2 i) None (prepend (x ∷ []) (content plain xs))))

string_content : (text rest : List ℕ) → ArePlain text → content plain (text ++ 34 ∷ rest) ≡ Some text
unfolding content
string_content [] rest are = refl
string_content (x ∷ xs) rest are =
    let both = and_parts _ _ are in content_step x (xs ++ 34 ∷ rest) both.0 ∙ ap (prepend (x ∷ [])) (string_content xs rest both.1)

string_rest : (text rest : List ℕ) → ArePlain text → lex in_string (text ++ 34 ∷ rest) ≡ lex between rest
unfolding lex
string_rest [] rest are = refl
string_rest (x ∷ xs) rest are = let both = and_parts _ _ are in within_step x (xs ++ 34 ∷ rest) both.0 ∙ string_rest xs rest both.1

-- a string without escapes
pub string_passed : (text rest : List ℕ) → ArePlain text
    → lex between (34 ∷ (text ++ 34 ∷ rest)) ≡ token (string text) ∷ lex between rest
unfolding lex
string_passed text rest are =
    ap₂ (λ o l. token (string_token o) ∷ l) (string_content text rest are) (string_rest text rest are)

pub key_passed : (place : Place) (text name rest : List ℕ) → can_begin place ≡ true
    → lex between text ≡ token (string name) ∷ colon ∷ lex between rest
    → read_key (remaining_tokens place text) ≡ Some (Some name, punctuate fresh (lex between rest))
unfolding punctuate
key_passed Fresh text name rest may is = ap (λ l. read_key (punctuate fresh l)) is
key_passed AfterValue text name rest may is = absurd (false≢true may)
key_passed AfterComma text name rest may is = ap (λ l. read_key (punctuate after_comma l)) is

string_placed : (place : spec.Place) (b : Bool) (text : List ℕ) (k : spec.Place → List Token) → may_begin place ≡ true → b ≡ false
    → place_token place (string text) b k ≡ string text ∷ k after_value
string_placed place true text k may none = absurd (false≢true (sym none))
string_placed place false text k may none = ap (λ m. if_allowed m (string text) k after_value) may

pub text_passed : (place : Place) (all text rest : List ℕ) (new : List Token) → can_begin place ≡ true
    → lex between all ≡ token (string text) ∷ lex between rest → begins_colon (lex between rest) ≡ false
    → new ≡ punctuate after_value (lex between rest) → remaining_tokens place all ≡ string text ∷ new
unfolding punctuate
text_passed Fresh all text rest new may is none left =
    ap (punctuate fresh) is ∙ string_placed fresh _ text _ refl none ∙ ap (λ l. string text ∷ l) (sym left)
text_passed AfterValue all text rest new may is none left = absurd (false≢true may)
text_passed AfterComma all text rest new may is none left =
    ap (punctuate after_comma) is ∙ string_placed after_comma _ text _ refl none ∙ ap (λ l. string text ∷ l) (sym left)

-- ---- keys and texts

-- the bytes from this place on, as a slice of them
abbrev pub behind : ℕ → List ℕ → List ℕ
behind n bytes = take (length bytes - n) (drop n bytes)

behind-is : (n : ℕ) (bytes : List ℕ) → behind n bytes ≡ drop n bytes
behind-is n bytes = take_all _ _ (omega (arith, length-drop n bytes))

-- the first bytes are the bytes of the key
pub name_passed : (text begun name prefix ended after rest : List ℕ) → ArePlain name → lex between text ≡ lex between (34 ∷ begun)
    → prefix ≡ name → take (length prefix) begun ≡ prefix → ended ≡ drop (length prefix) begun
    → lex between after ≡ lex between (58 ∷ rest) → ended ≡ 34 ∷ after → lex between text ≡ token (string name) ∷ colon ∷ lex between rest
unfolding lex
name_passed text begun name prefix ended after rest are opens same front back ends closed =
    let whole : begun ≡ name ++ 34 ∷ after = sym (take-append-drop (length prefix) begun) ∙ ap₂ ◌++◌ (front ∙ same) (sym back ∙ closed) in
    opens ∙ ap (λ l. lex between (34 ∷ l)) whole ∙ string_passed name after are ∙ ap (λ l. token (string name) ∷ l) ends

-- the bytes in front of a quote are the bytes of a text
pub text_read : (all begun : List ℕ) (len : ℕ) → lex between all ≡ lex between (34 ∷ begun) → len < length begun → get_or begun len 0 ≡ 34
    → ArePlain (take len begun) → lex between all ≡ token (string (take len begun)) ∷ lex between (behind (len + 1) begun)
text_read all begun len opens within quoted are =
    let back : drop len begun ≡ 34 ∷ drop (len + 1) begun = drop_more begun len 0 within ∙ ap (λ x. x ∷ drop (len + 1) begun) quoted in
    opens ∙ ap (λ l. lex between (34 ∷ l)) (sym (take-append-drop len begun) ∙ ap (λ l. take len begun ++ l) back)
    ∙ string_passed (take len begun) (drop (len + 1) begun) are
    ∙ ap (λ l. token (string (take len begun)) ∷ lex between l) (sym (behind-is (len + 1) begun))

-- what follows a text
pub comma_follows : (all rest after : List ℕ) → lex between rest ≡ lex between all → rest ≡ 44 ∷ after
    → (punctuate after_comma (lex between after) ≡ punctuate after_value (lex between all)) × (begins_colon (lex between all) ≡ false)
unfolding lex punctuate
comma_follows all rest after same is =
    let first = sym same ∙ ap (lex between) is in (ap (punctuate after_value) (sym first), ap begins_colon first)

pub end_follows : (all rest after : List ℕ) → lex between rest ≡ lex between all → rest ≡ 93 ∷ after
    → (punctuate after_value (lex between rest) ≡ punctuate after_value (lex between all)) × (begins_colon (lex between all) ≡ false)
unfolding lex
end_follows all rest after same is = (ap (punctuate after_value) same, ap begins_colon (sym same ∙ ap (lex between) is))
