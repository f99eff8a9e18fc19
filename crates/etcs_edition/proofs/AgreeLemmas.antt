-- Rows and fields that agree: all rows are allowed if and only if all fields fit, and then they have
-- the same bits.
use Rattle.std.proofs.Common.{◌≡◌, ℕ, zero, suc, ◌+◌, ◌/◌, ◌%◌, ◌^◌, ◌<◌, ◌==◌, Bool, true, false, List, [], ◌∷◌, ◌++◌, length, Option, Some, None, refl, sym, ap, ◌∙◌, append_assoc, arith}
use Rattle.std.specs.List.{AllByRecursion, flat_map}
use Rattle.etcs_bits.proofs.StandLemmas.{join-append, allowed-append}
use Rattle.etcs_bits.proofs.WidthLemmas.{width_both}
use Rattle.etcs_bits.specs.bits.Number.{num as bits_of, worth}
use Rattle.etcs_bits.specs.lemmas.RowLemmas.{allowed_first, allowed_second}
use Rattle.etcs_bits.specs.layout.Rows.{Variable, Row, alone, AreAllowed, join as row_bits, width}
use Rattle.etcs_bits.specs.layout.Combined.{option_rows, counted_rows}
use Rattle.etcs_bits.specs.variables.Variables.{plain}
use Rattle.etcs_edition.specs.Wire.{Field, num, any_number, allowed_if, bit, IsWritable, bit_count, bits_of_fields, qualified, iterated}

pub record Agree (rows : List Row) (fields : List Field) : Type 0 where
  pub fit : AreAllowed rows → AllByRecursion IsWritable fields
  pub allowed : AllByRecursion IsWritable fields → AreAllowed rows
  pub bits : AreAllowed rows → row_bits rows ≡ bits_of_fields fields
  pub size : width rows ≡ bit_count fields

pub same_num : (w n : ℕ) → bits_of w n ≡ num w n
unfolding num bits_of
same_num zero n = refl
same_num (suc w) n = ap (λ (bits : List Bool). (n / 2 ^ w % 2 == 1) ∷ bits) (same_num w n)

-- ---- lists of fields

pub fit_first : (xs ys : List Field) → AllByRecursion IsWritable (xs ++ ys) → AllByRecursion IsWritable xs
fit_first [] ys a = tt
fit_first (f ∷ xs) ys a = (a.0, fit_first xs ys a.1)

pub fit_second : (xs ys : List Field) → AllByRecursion IsWritable (xs ++ ys) → AllByRecursion IsWritable ys
fit_second [] ys a = a
fit_second (f ∷ xs) ys a = fit_second xs ys a.1

pub fit_append : (xs ys : List Field) → AllByRecursion IsWritable xs → AllByRecursion IsWritable ys → AllByRecursion IsWritable (xs ++ ys)
fit_append [] ys a b = b
fit_append (f ∷ xs) ys a b = (a.0, fit_append xs ys a.1 b)

pub bits_append : (xs ys : List Field) → bits_of_fields (xs ++ ys) ≡ bits_of_fields xs ++ bits_of_fields ys
bits_append [] ys = refl
bits_append (f ∷ xs) ys =
    ap (λ (bits : List Bool). num f.width f.number ++ bits) (bits_append xs ys)
    ∙ sym (append_assoc (num f.width f.number) (bits_of_fields xs) (bits_of_fields ys))

pub count_append : (xs ys : List Field) → bit_count (xs ++ ys) ≡ bit_count xs + bit_count ys
count_append [] ys = omega arith
count_append (f ∷ xs) ys = omega (arith, count_append xs ys)

-- ---- how agreement is put together

pub agree_nothing : Agree [] []
agree_nothing = record { fit = λ _. tt; allowed = λ _. tt; bits = λ _. refl; size = refl }

pub agree_both : {xs ys : List Row} {fs gs : List Field} → Agree xs fs → Agree ys gs → Agree (xs ++ ys) (fs ++ gs)
agree_both {xs = xs} {ys = ys} {fs = fs} {gs = gs} a b = record {
  fit = λ h. fit_append fs gs (a.fit (allowed_first xs ys h)) (b.fit (allowed_second xs ys h));
  allowed = λ h. allowed-append xs ys (a.allowed (fit_first fs gs h)) (b.allowed (fit_second fs gs h));
  bits = λ h.
      let front = a.bits (allowed_first xs ys h) in
      let back = b.bits (allowed_second xs ys h) in
      join-append xs ys ∙ rw (front, back) (sym (bits_append fs gs));
  size = omega (arith, width_both xs ys, count_append fs gs, a.size, b.size);
}

-- one row and one field agree where they have the same width and number, and that number is allowed
-- in both
pub agree_one : (x : Variable) (n : ℕ) (ok : Bool)
    → (n < 2 ^ x.width → x.allows n ≡ ok) → Agree (alone x n) (allowed_if x.width n ok ∷ [])
unfolding alone
agree_one x n ok same = record {
  fit = λ h. ((h.0.0, sym (same h.0.0) ∙ h.0.1), tt);
  allowed = λ h. ((h.0.0, same h.0.0 ∙ h.0.1), tt);
  bits = λ _. ap (λ (bits : List Bool). bits ++ []) (same_num x.width n);
  size = refl;
}

-- a field ahead of others
pub agree_then : (x : Variable) (n : ℕ) (ok : Bool) {ys : List Row} {gs : List Field}
    → (n < 2 ^ x.width → x.allows n ≡ ok) → Agree ys gs → Agree (alone x n ++ ys) (allowed_if x.width n ok ∷ gs)
agree_then x n ok same b = agree_both (agree_one x n ok same) b

-- a number that is always allowed, as one of w bits or one with a name
pub agree_any : (x : Variable) (n : ℕ) {ys : List Row} {gs : List Field}
    → x.allows n ≡ true → Agree ys gs → Agree (alone x n ++ ys) (any_number x.width n ∷ gs)
agree_any x n is b = agree_then x n true (λ _. is) b

pub agree_last : (x : Variable) (n : ℕ) → x.allows n ≡ true → Agree (alone x n) (any_number x.width n ∷ [])
agree_last x n is = agree_one x n true (λ _. is)

pub agree_flat : {X : Type 0} {rows : X → List Row} {part : X → List Field}
    → ((x : X) → Agree (rows x) (part x)) → (xs : List X) → Agree (flat_map rows xs) (flat_map part xs)
agree_flat each [] = agree_nothing
agree_flat each (x ∷ xs) = agree_both (each x) (agree_flat each xs)

pub agree_qualified : {X : Type 0} {rows : X → List Row} {part : X → List Field}
    → ((x : X) → Agree (rows x) (part x)) → (o : Option X) → Agree (option_rows rows o) (qualified part o)
agree_qualified each None = agree_last (plain 1) 0 refl
agree_qualified each (Some x) = agree_any (plain 1) 1 refl (each x)

pub agree_iterated : {X : Type 0} {rows : X → List Row} {part : X → List Field}
    → ((x : X) → Agree (rows x) (part x)) → (xs : List X) → Agree (counted_rows rows xs) (iterated part xs)
agree_iterated each xs = agree_any (plain 5) (length xs) refl (agree_flat each xs)

pub agree_bit : (b : Bool) → Agree (alone (plain 1) (worth b)) (bit b ∷ [])
agree_bit true = agree_last (plain 1) 1 refl
agree_bit false = agree_last (plain 1) 0 refl
