-- The laws of sums.
use Rattle.std.specs.Prelude.{◌≡◌, ℕ, ◌==◌, ◌⊎◌, if◌then◌else◌, Bool, true, false, List, ◌∷◌, ◌++◌, drop, refl}
use Rattle.std.proofs.Common.{ap, ap₂, subst, sym, ◌∙◌, inl, inr}
use Rattle.std.proofs.lemmas.Bool.{eqb-true, ne_eqb, eq-eqb, true≢false}
use Rattle.etcs_bits.specs.layout.Rows.{Variable, Row, row, alone, AreAllowed}
use Rattle.etcs_bits.specs.layout.Found.{row_number, either_value}
use Rattle.etcs_bits.specs.layout.Fields.{Fields, field, AreRowsOf}
use Rattle.etcs_bits.specs.layout.Laid.{IsLayout}
use Rattle.etcs_bits.specs.layout.Choice.{Choice, either_allows, either_next, either_number, either_rows}
use Rattle.etcs_bits.specs.lemmas.CombinedLemmas.{field_records}

-- only one number
pub last_value : {A : Type 0} {a : Fields} {rows_a : A → List Row} {of_a : List Row → A}
    → IsLayout a rows_a of_a → (k n : ℕ) (more : List Row)
    → (n == k) ≡ true → AreRowsOf a more → AreAllowed more
    → (x : A) × (k ≡ n) × (rows_a x ≡ more)
last_value laid k n more is w allowed =
    let x = laid.has_record more w allowed in (x.0, sym (eqb-true n k is), x.1)

pub is_itself : (k : ℕ) → (k == k) ≡ true
is_itself k = eq-eqb k k refl

-- no value of the other choice has the number k
apart : {B : Type 0} (k : ℕ) (c : Choice B) → c.allows k ≡ false → (y : B) → (c.number y == k) ≡ false
apart k c fresh y = ne_eqb (c.number y) k (λ is. true≢false (sym (c.is_number y) ∙ ap c.allows is ∙ fresh))

pub either_is_number : {A B : Type 0} (k : ℕ) (c : Choice B) → c.allows k ≡ false → (v : A ⊎ B)
    → either_allows k c.allows (either_number k c.number v) ≡ true
either_is_number k c fresh (inl x) = rw (is_itself k) refl
either_is_number k c fresh (inr y) = rw (apart k c fresh y) (c.is_number y)

pub either_are_rows : {A B : Type 0} (k : ℕ) {a : Fields} {rows_a : A → List Row} {of_a : List Row → A}
    → IsLayout a rows_a of_a → (c : Choice B) → c.allows k ≡ false → (v : A ⊎ B)
    → AreRowsOf (either_next k a c.next (either_number k c.number v)) (either_rows rows_a c.rows v)
either_are_rows k laid c fresh (inl x) = rw (is_itself k) (laid.are_rows x)
either_are_rows k laid c fresh (inr y) = rw (apart k c fresh y) (c.are_rows y)

pub either_is_value : {A B : Type 0} (k : ℕ) {a : Fields} {rows_a : A → List Row} {of_a : List Row → A}
    → IsLayout a rows_a of_a → (c : Choice B) → c.allows k ≡ false → (v : A ⊎ B)
    → either_value k of_a c.of (either_number k c.number v) (either_rows rows_a c.rows v) ≡ v
either_is_value k laid c fresh (inl x) = rw (is_itself k) (ap inl (laid.is_record x))
either_is_value k laid c fresh (inr y) = rw (apart k c fresh y) (ap inr (c.is_value y))

either_by : {A B : Type 0} (k : ℕ) {a : Fields} {rows_a : A → List Row} {of_a : List Row → A}
    → IsLayout a rows_a of_a → (c : Choice B) (n : ℕ) (more : List Row) (b : Bool) → (n == k) ≡ b
    → (if b then true else c.allows n) ≡ true → AreRowsOf (if b then a else c.next n) more → AreAllowed more
    → (v : A ⊎ B) × (either_number k c.number v ≡ n) × (either_rows rows_a c.rows v ≡ more)
either_by k laid c n more true is ok w allowed =
    let x = laid.has_record more w allowed in (inl x.0, sym (eqb-true n k is), x.1)
either_by k laid c n more false is ok w allowed =
    let y = c.has_value n more ok w allowed in (inr y.0, y.1, y.2)

pub either_has_value : {A B : Type 0} (k : ℕ) {a : Fields} {rows_a : A → List Row} {of_a : List Row → A}
    → IsLayout a rows_a of_a → (c : Choice B) (n : ℕ) (more : List Row)
    → either_allows k c.allows n ≡ true → AreRowsOf (either_next k a c.next n) more → AreAllowed more
    → (v : A ⊎ B) × (either_number k c.number v ≡ n) × (either_rows rows_a c.rows v ≡ more)
either_has_value k laid c n more ok w allowed = either_by k laid c n more (n == k) refl ok w allowed

-- every number that passes a test
pub others_value : {X A : Type 0} {test : ℕ → Bool} {a : Fields} {rows_a : A → List Row} {of_a : List Row → A}
    (number : X → ℕ) (parts : X → A) (make : ℕ → A → X) → IsLayout a rows_a of_a
    → ((n : ℕ) (p : A) → test n ≡ true → AreAllowed (rows_a p)
    → (number (make n p) ≡ n) × (parts (make n p) ≡ p))
    → (n : ℕ) (more : List Row) → test n ≡ true → AreRowsOf a more → AreAllowed more
    → (x : X) × (number x ≡ n) × (rows_a (parts x) ≡ more)
others_value {rows_a = rows_a} number parts make laid back n more ok w allowed =
    let p = laid.has_record more w allowed in
    let same = back n p.0 ok (subst AreAllowed (sym p.1) allowed) in
    (make n p.0, same.0, ap rows_a same.1 ∙ p.1)

-- the variable whose number is chosen, and what follows it
pub chosen_laid : {X : Type 0} (x : Variable) (c : Choice X) → ((n : ℕ) → x.allows n ≡ c.allows n)
    → IsLayout (field x c.next) (λ v. alone x (c.number v) ++ c.rows v)
    (λ r. c.of (row_number 0 r) (drop 1 r))
unfolding alone
chosen_laid x c same = record {
  are_rows = λ v. (c.number v, c.rows v, refl, c.are_rows v);
  is_record = λ v. c.is_value v;
  has_record = field_records c.next (λ n more here w allowed.
      let v = c.has_value n more (sym (same n) ∙ here.1) w allowed in
      (v.0, ap₂ (λ (k : ℕ) (rest : List Row). row x k ∷ rest) v.1 v.2));
}
