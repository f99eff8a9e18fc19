-- What the machine does with the parts of a field, a field and a row.
use Rattle.std.proofs.Common.{◌≡◌, ◌≢◌, ◌∙◌, ◌+◌, ◌<◌, ◌==◌, ◌||◌, ℕ, true, false, ◌⊎◌, List, [], ◌∷◌, ◌++◌, ap, arith, drop, get_or, inl, inr, length, refl, sym}
use Rattle.std.proofs.lemmas.Bool.{cases_Bool, eq-eqb}
use Rattle.std.proofs.lemmas.Bool.Decides.{nat_tests}
use Rattle.etcs_rows.specs.Fields.{EndsField, GoesOn, rows_in}
use Rattle.etcs_rows.specs.LineEnd.{after_line_end, begins_with_line_end, without_line_feed}
use Rattle.etcs_rows.specs.Machine.{Action, Place, after_return, append, closed, end_blank, end_field, end_row, field_start, plain, quoted, refuse, row_start, skip, step}
use Rattle.etcs_rows.specs.Rows.{Sheet, Unfinished, begun_row, no_rows, performed, rows_after, rows_from, with_row}
use Rattle.etcs_rows.specs.declared.fields.FieldEnd.TheVariants as ends

-- ---- tests of bytes

pub is_not : (a b : ℕ) → a ≢ b → (a == b) ≡ false
is_not a b h = grind (arith, nat_tests, h)

-- ---- line ends

-- an action does not look at the place before it
forgets : (a : Action) (p q r : Place) (c n : ℕ) (after : Unfinished → Sheet)
    → performed a p c (begun_row q n) after ≡ performed a p c (begun_row r n) after
forgets skip p q r c n after = refl
forgets append p q r c n after = refl
forgets end_field p q r c n after = refl
forgets end_row p q r c n after = refl
forgets end_blank p q r c n after = refl
forgets (refuse fault) p q r c n after = refl

-- after a carriage return a line feed is passed over
after_feed : (d n : ℕ) (text : List ℕ) → rows_after d (begun_row after_return n) text ≡ rows_from d n (without_line_feed text)
unfolding rows_after
after_feed d n [] = refl
after_feed d n (c ∷ text) = elim (cases_Bool (c == 10)) [
  | inl e ↦ rw e refl
  | inr e ↦
      let same : step d after_return c ≡ step d row_start c = rw e refl in
      let kept : c ∷ text ≡ without_line_feed (c ∷ text) = rw e refl in
      ap (λ (p : Place × Action). performed p.1 p.0 c (begun_row after_return n) (λ t. rows_after d t text)) same
      ∙ forgets (step d row_start c).1 (step d row_start c).0 after_return row_start c n (λ t. rows_after d t text)
      ∙ ap (rows_after d (begun_row row_start n)) kept
]

-- a blank row
pub blank_row : (d n : ℕ) (text : List ℕ) → begins_with_line_end text ≡ true → rows_from d n text ≡ rows_from d (n + 1) (after_line_end text)
unfolding rows_after
blank_row d n [] h = let e : false ≡ true = h in cc
blank_row d n (c ∷ text) h = elim (cases_Bool (c == 13)) [
  | inl e ↦ rw e (after_feed d (n + 1) text)
  | inr e ↦ let f : (c == 10) ≡ true = rw e at h in rw (e, f) refl
]

-- a byte that ends no line is one of the first field
begins_alike : (d c : ℕ) → (c == 13 || c == 10) ≡ false → step d row_start c ≡ step d field_start c
begins_alike d c h = elim (cases_Bool (c == 13)) [
  | inl e ↦ let never : true ≡ false = rw e at h in cc
  | inr e ↦ let f : (c == 10) ≡ false = rw e at h in rw (e, f) refl
]

-- a row that is not blank begins with its first field
pub first_field : (d n : ℕ) (text : List ℕ) → 0 < length text → begins_with_line_end text ≡ false → rows_from d n text ≡ rows_in d n [] text
unfolding rows_after
first_field d n [] some h = absurd (omega arith)
first_field d n (c ∷ text) some h =
    ap (λ (p : Place × Action). performed p.1 p.0 c (begun_row row_start n) (λ t. rows_after d t text)) (begins_alike d c h)
    ∙ forgets (step d field_start c).1 (step d field_start c).0 row_start field_start c n (λ t. rows_after d t text)

-- ---- the end of a field

ends_at_end : (d : ℕ) → EndsField d [] ends.Row []
unfolding rows_after
ends_at_end d field_start n fields field is = refl
ends_at_end d plain n fields field is = refl
ends_at_end d closed n fields field is = refl
ends_at_end d row_start n fields field is = let e : false ≡ true = is in cc
ends_at_end d after_return n fields field is = let e : false ≡ true = is in cc
ends_at_end d quoted n fields field is = let e : false ≡ true = is in cc

ends_before : (d c : ℕ) (text : List ℕ) → (c == 34) ≡ false → (c == d) ≡ true → EndsField d (c ∷ text) ends.Field text
unfolding rows_after
ends_before d c text q e field_start n fields field is = rw (q, e) refl
ends_before d c text q e plain n fields field is = rw (q, e) refl
ends_before d c text q e closed n fields field is = rw (q, e) refl
ends_before d c text q e row_start n fields field is = let e : false ≡ true = is in cc
ends_before d c text q e after_return n fields field is = let e : false ≡ true = is in cc
ends_before d c text q e quoted n fields field is = let e : false ≡ true = is in cc

at_return : (d : ℕ) (text : List ℕ) → (13 == d) ≡ false → EndsField d (13 ∷ text) ends.Row (without_line_feed text)
unfolding rows_after
at_return d text e field_start n fields field is = rw e (ap (with_row (record { number = n; fields = fields ++ field ∷ [] })) (after_feed d (n + 1) text))
at_return d text e plain n fields field is = rw e (ap (with_row (record { number = n; fields = fields ++ field ∷ [] })) (after_feed d (n + 1) text))
at_return d text e closed n fields field is = rw e (ap (with_row (record { number = n; fields = fields ++ field ∷ [] })) (after_feed d (n + 1) text))
at_return d text e row_start n fields field is = let e : false ≡ true = is in cc
at_return d text e after_return n fields field is = let e : false ≡ true = is in cc
at_return d text e quoted n fields field is = let e : false ≡ true = is in cc

at_feed : (d : ℕ) (text : List ℕ) → (10 == d) ≡ false → EndsField d (10 ∷ text) ends.Row text
unfolding rows_after
at_feed d text e field_start n fields field is = rw e refl
at_feed d text e plain n fields field is = rw e refl
at_feed d text e closed n fields field is = rw e refl
at_feed d text e row_start n fields field is = let e : false ≡ true = is in cc
at_feed d text e after_return n fields field is = let e : false ≡ true = is in cc
at_feed d text e quoted n fields field is = let e : false ≡ true = is in cc

line_end_byte : (c : ℕ) → (c == 13 || c == 10) ≡ true → (c ≡ 13) ⊎ (c ≡ 10)
line_end_byte c h = elim (cases_Bool (c == 13)) [
  | inl e ↦ inl (grind (arith, nat_tests, e))
  | inr e ↦ let f : (c == 10) ≡ true = rw e at h in inr (grind (arith, nat_tests, f))
]

ends_at_line_end : (d : ℕ) (text : List ℕ) → begins_with_line_end text ≡ true → (get_or text 0 0 == d) ≡ false
    → EndsField d text ends.Row (after_line_end text)
ends_at_line_end d [] h e = let e : false ≡ true = h in cc
ends_at_line_end d (c ∷ text) h e = elim (line_end_byte c h) [
  | inl f ↦ let g : (13 == d) ≡ false = rw f at e in rw f (at_return d text g)
  | inr f ↦ let g : (10 == d) ≡ false = rw f at e in rw f (at_feed d text g)
]

-- each way in which a field ends
pub ends_with_text : (d : ℕ) (text : List ℕ) → length text ≡ 0 → EndsField d text ends.Row text
ends_with_text d [] none = ends_at_end d
ends_with_text d (c ∷ text) none = absurd (omega arith)

pub ends_before_delimiter : (d : ℕ) (text : List ℕ) → d ≢ 34 → 0 < length text → get_or text 0 0 ≡ d → EndsField d text ends.Field (drop 1 text)
ends_before_delimiter d [] q some is = absurd (omega arith)
ends_before_delimiter d (c ∷ text) q some is = ends_before d c text (is_not c 34 (λ e. q (sym is ∙ e))) (eq-eqb c d is)

pub ends_before_line_end : (d : ℕ) (text : List ℕ) → begins_with_line_end text ≡ true → get_or text 0 0 ≢ d → EndsField d text ends.Row (after_line_end text)
ends_before_line_end d text h other = ends_at_line_end d text h (is_not (get_or text 0 0) d other)

pub goes_on : (d : ℕ) (text : List ℕ) → 0 < length text → get_or text 0 0 ≢ d → begins_with_line_end text ≡ false → GoesOn d text
goes_on d [] some other h = absurd (omega arith)
goes_on d (c ∷ text) some other h = (some, rw (is_not c d other) h)

-- no row is left
pub none_left : (d n : ℕ) (text : List ℕ) → length text ≡ 0 → rows_from d n text ≡ no_rows
unfolding rows_after
none_left d n [] none = refl
none_left d n (c ∷ text) none = absurd (omega arith)
