-- Digits that are decoded up to a place.
use Rattle.std.proofs.Common.{◌≡◌, ℕ, zero, suc, ◌+◌, ◌*◌, ◌/◌, ◌%◌, ◌≤◌, min, Bool, true, List, [], ◌∷◌, ◌++◌, length, take, drop, Result, Ok, Err, refl, sym, ap, ◌∙◌, arith}
use Rattle.std.proofs.lemmas.List.{length-take-le, take-append-drop}
use Rattle.hex.specs.Hex.{◌>>=◌, decode_of, decode_pairs, decode_sized, pair_value}
use Rattle.hex.specs.declared.error.FromHexError.{FromHexError}
use Rattle.hex.proofs.HexLemmas.{decode_of-digits, decode_of-even, decode_of-ok, decode_sized-twice}
use Rattle.etcs_digits.specs.Hexadecimal.{IsHexadecimal}
use Rattle.etcs_digits.proofs.DigitLemmas.{IsDecoded}
use Rattle.etcs_radio.proofs.DecodeLemmas.{FrontOf, front_of}

-- what an `Ok` after a step shows
step_ok : {A B : Type 0} (r : Result A FromHexError) (f : A → Result B FromHexError) (y : B)
    → (r >>= f) ≡ Ok y → (x : A) × (r ≡ Ok x) × (f x ≡ Ok y)
step_ok (Ok x) f y h = (x, refl, h)
step_ok (Err e) f y h = absurd cc

-- pairs of digits spell the first bytes of all
pairs_front : (n i : ℕ) (a b all : List ℕ) → length a ≡ 2 * n → decode_pairs i (a ++ b) ≡ Ok all
    → decode_pairs i a ≡ Ok (take n all)
unfolding decode_pairs
pairs_front zero i [] b all len read = refl
pairs_front (suc n) i [] b all len read = absurd (omega (arith, len))
pairs_front zero i (x ∷ a) b all len read = absurd (omega (arith, len))
pairs_front (suc n) i (x ∷ []) b all len read = absurd (omega (arith, len))
pairs_front (suc n) i (x ∷ y ∷ a) b all len read =
    let p = step_ok (pair_value x y i) (λ byte. decode_pairs (i + 2) (a ++ b) >>= λ bytes. Ok (byte ∷ bytes)) all read in
    let q = step_ok (decode_pairs (i + 2) (a ++ b)) (λ bytes. Ok (p.0 ∷ bytes)) all p.2 in
    let rest = pairs_front n (i + 2) a b q.0 (omega (arith, len)) q.1 in
    let same : p.0 ∷ q.0 ≡ all = cc (q.2) in
    rw (p.1, rest) (ap (λ (bytes : List ℕ). Ok (take (suc n) bytes)) same)

-- a call that decodes the first digits of a text returns true, and writes the first bytes
pub front_read : (text front : List ℕ) (n : ℕ) (result : Bool) (new all : List ℕ)
    → IsDecoded (decode_sized front n) result new → decode_of text ≡ Ok all → 2 * n ≤ length text
    → front ≡ take (2 * n) text → (result ≡ true) × (new ≡ take n all)
front_read text front n result new all is read fits front_is =
    let pairs : decode_pairs 0 text ≡ Ok all = sym (decode_of-even text (decode_of-ok text all read).0) ∙ read in
    let len : length front ≡ 2 * n = ap length front_is ∙ length-take-le (2 * n) text fits in
    let cut : front ++ drop (2 * n) text ≡ text = ap (λ (xs : List ℕ). xs ++ drop (2 * n) text) front_is ∙ take-append-drop (2 * n) text in
    let first : decode_pairs 0 front ≡ Ok (take n all) = pairs_front n 0 front (drop (2 * n) text) all len (ap (decode_pairs 0) cut ∙ pairs) in
    let even : length front % 2 ≡ 0 = omega (arith, len) in
    let decoded : decode_sized front n ≡ Ok (take n all) = decode_sized-twice front n len ∙ (decode_of-even front even ∙ first) in
    rw decoded at is

-- the front of a hexadecimal text is decoded
pub front_decoded : (text front : List ℕ) (n : ℕ) (result : Bool) (new : List ℕ)
    → IsDecoded (decode_sized front n) result new → 2 * n ≤ length text → front ≡ take (2 * n) text
    → IsHexadecimal text → result ≡ true
front_decoded text front n result new is fits front_is digits =
    let all = decode_of-digits text digits.even digits.digits in
    (front_read text front n result new all.0 is all.1 fits front_is).0

-- the bytes of a text, and the front of them that was read
pub record IsSeen (text front : List ℕ) : Type 0 where
  pub all : List ℕ
  pub decoded : decode_of text ≡ Ok all
  pub is_front : FrontOf all front

pub seen : (text front : List ℕ) → IsHexadecimal text
    → ((bytes : List ℕ) → decode_of text ≡ Ok bytes → front ≡ take (min (length text / 2) 1024) bytes)
    → IsSeen text front
seen text front digits are =
    let all = decode_of-digits text digits.even digits.digits in
    let twice = (decode_of-ok text all.0 all.1).2 in
    record {
      all = all.0;
      decoded = all.1;
      is_front = rw (are all.0 all.1) (front_of all.0 (min (length text / 2) 1024) (omega (arith, twice)));
    }
