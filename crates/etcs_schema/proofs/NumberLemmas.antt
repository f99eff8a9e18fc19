-- Numbers as JSON writes them, with a sign and without.
use Rattle.std.proofs.Common.{◌≡◌, ◌∙◌, ◌==◌, ◌<◌, ◌≤◌, ◌^◌, ℕ, true, false, List, [], ◌∷◌, Option, Some, None, ap, drop, length, option_and_then, refl, sym, append-nil, arith}
use Rattle.std.specs.Prelude.{is_some, slice_index, SomeIff}
use Rattle.std.specs.Str.Parse.{AllDigits, IsNumeral, digits_value}
use Rattle.std.proofs.Math.Nat.{pow-le-pow_right}
use Rattle.std.proofs.lemmas.Bool.{ne_eqb}
use Rattle.std.proofs.lemmas.Int.Digits.{digits_value-lt}
use Rattle.std.proofs.lemmas.Float.Parse.{scan_numeral-text_of}
use Rattle.std.proofs.lemmas.Str.Parse.{digit_from_value}
use Rattle.fast_float.specs.Text.{Parts, digits_of, scan, IsInteger}
use Rattle.serde_json.specs.Data.{Num}
use Rattle.serde_json.specs.Find.{as_u64}
use Rattle.serde_json.specs.Read.{number_from, number_of}

pub signed : (s : List ℕ) → (slice_index s 0 == 45) ≡ true → number_from true (scan (drop 1 s)) ≡ number_of s
unfolding number_of
signed s e = rw e

pub plain : (s : List ℕ) → (slice_index s 0 == 45) ≡ false → number_from false (scan s) ≡ number_of s
unfolding number_of
plain s e = rw e

-- a number with a sign is negative or a float
pub never_whole : (p : Parts) → None ≡ option_and_then as_u64 (number_from true p)
never_whole p = grind arith

pub whole_from : (p : Parts) (r : Option ℕ) → SomeIff r (IsInteger p × (digits_of p < 2 ^ 64)) (digits_of p) → r ≡ option_and_then as_u64 (number_from false p)
whole_from p r h = grind arith

-- ---- plain digits

-- k digits write a number below 10 ^ k
pub few_digits : (ds : List ℕ) (k : ℕ) → AllDigits 10 ds → length ds ≤ k → digits_value 10 ds < 10 ^ k
few_digits ds k digits short =
    let ten : 0 < 10 = omega arith in
    omega (arith, digits_value-lt 10 ds digits, pow-le-pow_right ten short)

plain_parts : List ℕ → Parts
plain_parts ds = record { whole = ds; point = false; fraction = []; exponent_negative = false; exponent = []; len = length ds }

-- digits are a numeral with no other part
scanned : (ds : List ℕ) → AllDigits 10 ds → scan ds ≡ plain_parts ds
unfolding plain_parts
scanned ds digits =
    ap scan (sym (append-nil ds)) ∙ scan_numeral-text_of (plain_parts ds) (record {
      whole_digits = digits;
      fraction_digits = tt;
      exponent_digits = tt;
      no_point = λ _. refl;
      no_exponent = λ _. refl;
      len_is = ap length (sym (append-nil ds));
    })

no_sign : (ds : List ℕ) → IsNumeral 10 ds → (slice_index ds 0 == 45) ≡ false
no_sign [] numeral = absurd (omega arith)
no_sign (c ∷ cs) numeral = let digit = digit_from_value c numeral.1.0 in ne_eqb c 45 (omega arith)

from_digits : (ds : List ℕ) → IsNumeral 10 ds → number_from false (plain_parts ds) ≡ number_of ds
from_digits ds numeral = ap (number_from false) (sym (scanned ds numeral.1)) ∙ plain ds (no_sign ds numeral)

whole_plain : (ds : List ℕ) → 0 < length ds → digits_value 10 ds < 2 ^ 64 → Some (digits_value 10 ds) ≡ option_and_then as_u64 (number_from false (plain_parts ds))
unfolding plain_parts
whole_plain ds some few =
    whole_from (plain_parts ds) (Some (digits_value 10 ds)) (((some, refl, refl), rw (append-nil ds) few), sym (ap (digits_value 10) (append-nil ds)))

-- their number is a whole one
pub digits_number : (ds : List ℕ) (n : ℕ) → IsNumeral 10 ds → digits_value 10 ds ≡ n → n < 2 ^ 64 → Some n ≡ option_and_then as_u64 (number_of ds)
digits_number ds n numeral is few =
    ap Some (sym is) ∙ whole_plain ds numeral.0 (omega arith) ∙ ap (option_and_then as_u64) (from_digits ds numeral)

some_whole : (o : Option Num) (n : ℕ) → Some n ≡ option_and_then as_u64 o → true ≡ is_some o
some_whole None n is = grind arith
some_whole (Some x) n is = refl

-- the number that plain digits write is in range
pub digits_in_range : (ds : List ℕ) (n : ℕ) → IsNumeral 10 ds → digits_value 10 ds ≡ n → n < 2 ^ 64 → true ≡ is_some (number_of ds)
digits_in_range ds n numeral is few = some_whole (number_of ds) n (digits_number ds n numeral is few)
