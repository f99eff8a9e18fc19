-- Hexadecimal texts are those that are decoded.
use Rattle.std.proofs.Common.{◌≡◌, ◌*◌, ◌∙◌, ℕ, Bool, true, false, List, length, Result, Ok, Err, refl, sym, ap}
use Rattle.std.specs.Prelude.{IsTrue, MatchResult}
use Rattle.std.proofs.lemmas.Bool.{true≢false}
use Rattle.hex.specs.Hex.{decode_of, decode_sized}
use Rattle.hex.specs.declared.error.FromHexError.{FromHexError}
use Rattle.hex.proofs.HexLemmas.{decode_of-digits, decode_of-ok, decode_sized-twice}
use Rattle.etcs_digits.specs.Hexadecimal.{IsHexadecimal}

-- a text that is decoded is hexadecimal
pub decoded_digits : (text bytes : List ℕ) → decode_of text ≡ Ok bytes → IsHexadecimal text
decoded_digits text bytes decoded =
    let ok = decode_of-ok text bytes decoded in
    record { even = ok.0; digits = ok.1 }

-- a text that is not decoded is not hexadecimal
pub not_decoded : (text : List ℕ) (e : FromHexError) → decode_of text ≡ Err e → IsHexadecimal text → ⊥
not_decoded text e fails h =
    let d = decode_of-digits text h.even h.digits in
    let g = d.1 in cc

-- what decoding gives, as the call returns it
abbrev pub IsDecoded : Result (List ℕ) FromHexError → Bool → List ℕ → Type 0
IsDecoded decoded result new = MatchResult decoded (λ bytes. (result ≡ true) × (new ≡ bytes)) (λ e. result ≡ false)

-- a call that returns true has written the bytes
pub bytes_written : (decoded : Result (List ℕ) FromHexError) (result : Bool) (new : List ℕ)
    → IsDecoded decoded result new → result ≡ true → decoded ≡ Ok new
bytes_written (Ok bytes) result new is ok = ap Ok (sym is.1)
bytes_written (Err e) result new is ok = absurd (true≢false (sym ok ∙ is))

-- a text that is decoded whole is hexadecimal, and only such a text is
pub whole_digits : (text : List ℕ) (n : ℕ) (result : Bool) (new : List ℕ) → length text ≡ 2 * n
    → IsDecoded (decode_sized text n) result new
    → (IsTrue result → IsHexadecimal text) × (IsHexadecimal text → IsTrue result)
whole_digits text n result new len is = (
  (λ holds. decoded_digits text new (sym (decode_sized-twice text n len) ∙ bytes_written (decode_sized text n) result new is holds)),
  (λ digits.
      let all = decode_of-digits text digits.even digits.digits in
      is_read (decode_sized text n) result new all.0 is (decode_sized-twice text n len ∙ all.1)),
)
  where
    is_read : (decoded : Result (List ℕ) FromHexError) (result : Bool) (new bytes : List ℕ)
        → IsDecoded decoded result new → decoded ≡ Ok bytes → IsTrue result
    is_read (Ok x) result new bytes is ok = cc
    is_read (Err e) result new bytes is ok = absurd cc
