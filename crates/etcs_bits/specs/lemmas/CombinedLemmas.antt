-- The law of `Layout` for records that are made of others.
use Rattle.std.specs.Prelude.{◌≡◌, ℕ, zero, suc, ◌+◌, ◌-◌, List, [], ◌∷◌, ◌++◌, length, refl, Option, Some, None}
use Rattle.std.specs.List.{flat_map}
use Rattle.std.proofs.Common.{ap, ap₂, subst, sym, ◌∙◌, arith}
use Rattle.std.proofs.lemmas.Bool.{leb-true}
use Rattle.etcs_bits.specs.bits.Number.{num, num_of_bits}
use Rattle.etcs_bits.specs.lemmas.NumberLemmas.{length-num, num_of_bits-small, num-num_of_bits}
use Rattle.etcs_bits.specs.layout.Rows.{Variable, Row, row, IsAllowed, AreAllowed, alone, width}
use Rattle.etcs_bits.specs.lemmas.RowLemmas.{allowed_first, allowed_second}
use Rattle.etcs_bits.specs.layout.Fields.{Fields, one, field, ◌▹◌, sized, option, times, counted, AreRowsOf}
use Rattle.etcs_bits.specs.lemmas.CutLemmas.{cut_whole}
use Rattle.etcs_bits.specs.layout.Laid.{IsLayout}
use Rattle.etcs_bits.specs.layout.Combined.{qualifier, n_iter, pair_rows, option_rows, counted_rows, body_rows, l_kept}
use Rattle.etcs_bits.specs.layout.Found.{pair_value, option_value, item_values, counted_values, body_value, kept_value}
use Rattle.etcs_bits.specs.variables.Variables.{free}

-- each whole list of rows has a record, if a field's number decides what follows it
pub field_records : {X : Type 0} {x : Variable} {rows : X → List Row} (next : ℕ → Fields)
    → ((n : ℕ) (more : List Row) → IsAllowed (row x n) → AreRowsOf (next n) more → AreAllowed more
    → (v : X) × (rows v ≡ row x n ∷ more))
    → (r : List Row) → AreRowsOf (field x next) r → AreAllowed r → (v : X) × (rows v ≡ r)
field_records next here r (n, more, e, w) allowed =
    let each = rw e at allowed in
    let v = here n more each.0 w each.1 in
    (v.0, v.1 ∙ sym e)

-- a pair
pub pair_laid : {A B : Type 0} {a b : Fields} {rows_a : A → List Row} {rows_b : B → List Row}
    {of_a : List Row → A} {of_b : List Row → B}
    → IsLayout a rows_a of_a → IsLayout b rows_b of_b
    → IsLayout (a ▹ b) (pair_rows rows_a rows_b) (pair_value a of_a of_b)
pair_laid {A = A} {B = B} {a = a} {rows_a = rows_a} {rows_b = rows_b} v w = record {
  are_rows = λ p. (rows_a p.0, rows_b p.1, refl, v.are_rows p.0, w.are_rows p.1);
  is_record = λ p.
      rw (cut_whole a (rows_a p.0) (rows_b p.1) (v.are_rows p.0))
      (ap₂ (λ (x : A) (y : B). let both : A × B = (x, y) in both) (v.is_record p.0) (w.is_record p.1));
  has_record = λ r (first, second, e, s, t) allowed.
      let both : AreAllowed (first ++ second) = rw (← e) allowed in
      let x = v.has_record first s (allowed_first first second both) in
      let y = w.has_record second t (allowed_second first second both) in
      ((x.0, y.0), rw (e, x.1, y.1) refl);
}

-- ---- an option

option_are_rows : {X : Type 0} {fields : Fields} {rows : X → List Row} {of : List Row → X}
    → IsLayout fields rows of → (o : Option X) → AreRowsOf (option qualifier fields) (option_rows rows o)
unfolding alone
option_are_rows v None = (0, [], refl, refl)
option_are_rows {rows = rows} v (Some x) = (1, rows x, refl, v.are_rows x)

option_record : {X : Type 0} {fields : Fields} {rows : X → List Row} {of : List Row → X}
    → IsLayout fields rows of → (o : Option X) → option_value of (option_rows rows o) ≡ o
unfolding alone
option_record v None = refl
option_record v (Some x) = ap Some (v.is_record x)

option_records : {X : Type 0} {fields : Fields} {rows : X → List Row} {of : List Row → X}
    → IsLayout fields rows of → (r : List Row) → AreRowsOf (option qualifier fields) r → AreAllowed r
    → (o : Option X) × (option_rows rows o ≡ r)
unfolding alone
option_records v r (zero, more, e, w) allowed = (None, rw (e, w) refl)
option_records v r (suc zero, more, e, w) allowed =
    let x = v.has_record more w (rw e at allowed).1 in
    (Some x.0, rw (e, x.1) refl)
option_records v r (suc (suc n), more, e, w) allowed =
    absurd (omega (arith, (rw e at allowed).0.0))

pub option_laid : {X : Type 0} {fields : Fields} {rows : X → List Row} {of : List Row → X}
    → IsLayout fields rows of
    → IsLayout (option qualifier fields) (option_rows rows) (option_value of)
option_laid v = record
    { are_rows = option_are_rows v; is_record = option_record v; has_record = option_records v }

-- ---- a counted list

times_rows : {X : Type 0} {fields : Fields} {rows : X → List Row} {of : List Row → X}
    → IsLayout fields rows of → (xs : List X) → AreRowsOf (times (length xs) fields) (flat_map rows xs)
times_rows v [] = refl
times_rows {rows = rows} v (x ∷ xs) = (rows x, flat_map rows xs, refl, v.are_rows x, times_rows v xs)

items_are : {X : Type 0} {fields : Fields} {rows : X → List Row} {of : List Row → X}
    → IsLayout fields rows of → (xs : List X) → item_values fields of (length xs) (flat_map rows xs) ≡ xs
unfolding item_values
items_are v [] = refl
items_are {X = X} {fields = fields} {rows = rows} v (x ∷ xs) =
    rw (cut_whole fields (rows x) (flat_map rows xs) (v.are_rows x))
    (ap₂ (λ (y : X) (ys : List X). y ∷ ys) (v.is_record x) (items_are v xs))

-- that many records, whose rows are these
items_with : {X : Type 0} {fields : Fields} {rows : X → List Row} {of : List Row → X}
    → IsLayout fields rows of → (n : ℕ) (r : List Row) → AreRowsOf (times n fields) r → AreAllowed r
    → (xs : List X) × (length xs ≡ n) × (flat_map rows xs ≡ r)
items_with v zero r w allowed = ([], refl, sym w)
items_with v (suc n) r (first, second, e, s, t) allowed =
    let both : AreAllowed (first ++ second) = rw (← e) allowed in
    let x = v.has_record first s (allowed_first first second both) in
    let xs = items_with v n second t (allowed_second first second both) in
    (x.0 ∷ xs.0, ap suc xs.1, rw (e, x.1, xs.2) refl)

pub counted_laid : {X : Type 0} {fields : Fields} {rows : X → List Row} {of : List Row → X}
    → IsLayout fields rows of
    → IsLayout (counted n_iter fields) (counted_rows rows) (counted_values fields of)
unfolding alone
counted_laid {rows = rows} v = record {
  are_rows = λ xs. (length xs, flat_map rows xs, refl, times_rows v xs);
  is_record = λ xs. items_are v xs;
  has_record = λ r (n, more, e, w) allowed.
      let xs = items_with v n more w (rw e at allowed).1 in
      (xs.0, rw (e, xs.1, xs.2) refl);
}

-- a packet's body
pub body_laid : {X : Type 0} (before : ℕ) {fields : Fields} {rows : X → List Row} {of : List Row → X}
    → IsLayout fields rows of
    → IsLayout (sized before fields) (body_rows before rows) (body_value of)
unfolding alone
body_laid before {rows = rows} v = record {
  are_rows = λ x. (rows x, refl, v.are_rows x);
  is_record = λ x. v.is_record x;
  has_record = λ r (more, e, w) allowed.
      let x = v.has_record more w (rw e at allowed).1 in
      let count : width r ≡ 13 + width more = ap width e in
      (x.0, rw (x.1, e, count) refl);
}

-- ---- a body that is kept as bits

left : (head count : ℕ) → (head + count) - head ≡ count
left head count = omega arith

pub kept_laid : (before : ℕ)
    → IsLayout (field (l_kept before) (λ l. one (free (l - (before + 13)))))
    (λ bits. row (l_kept before) (before + 13 + length bits)
    ∷ row (free (length bits)) (num_of_bits bits) ∷ [])
    (kept_value before)
kept_laid before = record {
  are_rows = λ bits.
      let of_bits = row (free (length bits)) (num_of_bits bits) ∷ [] in (
        before + 13 + length bits,
        of_bits,
        refl,
        subst (λ k. AreRowsOf (one (free k)) of_bits)
            (sym (left (before + 13) (length bits))) (num_of_bits bits, [], refl, refl),
      );
  is_record = λ bits. ap (λ k. num k (num_of_bits bits)) (left (before + 13) (length bits))
      ∙ num-num_of_bits bits;
  has_record = λ r (l, more, e, (m, end, is, none)) allowed.
      let here = rw (e, is) at allowed in
      let bits = length-num (l - (before + 13)) m in
      let back : before + 13 + (l - (before + 13)) ≡ l = omega (arith, leb-true (before + 13) l here.0.1) in (
        num (l - (before + 13)) m,
        rw (e, is, none, bits, back, num_of_bits-small (l - (before + 13)) m here.1.0.0) refl,
      );
}
