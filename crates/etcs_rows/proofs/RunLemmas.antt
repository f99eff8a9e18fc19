-- Runs of bytes that are only the next ones of a field, and fields without quotes.
use Rattle.std.proofs.Common.{◌≡◌, ◌≢◌, ◌∙◌, ◌+◌, ◌<◌, ◌≤◌, ◌==◌, ◌||◌, ℕ, suc, Bool, true, false, List, [], ◌∷◌, ◌++◌, ap, append_assoc, arith, drop, get_or, length, refl, sym, take}
use Rattle.std.proofs.lemmas.Bool.Decides.{nat_tests}
use Rattle.std.proofs.lemmas.List.{append-nil, get_or-drop, get_or-take, length-drop, length-take-le, take-append-drop}
use Rattle.etcs_rows.specs.Fields.{BeginsWithField, EndsField, GoesOn, in_field, is_complete, is_end, is_stop, rows_in}
use Rattle.etcs_rows.specs.Machine.{Action, Place, append, field_start, plain, step}
use Rattle.etcs_rows.specs.Rows.{performed, rows_after, wrong_at}
use Rattle.etcs_rows.specs.declared.error.QuoteFault.TheVariants.{Inside}
use Rattle.etcs_rows.specs.declared.fields.FieldEnd.{FieldEnd}

-- bytes that are only the next ones of the field
pub joins : (d : ℕ) (place : Place) (n : ℕ) (fields : List (List ℕ)) (field xs rest : List ℕ)
    → ((k : ℕ) → k < length xs → step d place (get_or xs k 0) ≡ (place, append))
    → rows_after d (in_field n fields place field) (xs ++ rest) ≡ rows_after d (in_field n fields place (field ++ xs)) rest
unfolding rows_after
joins d place n fields field [] rest h = rw (append-nil field) refl
joins d place n fields field (x ∷ xs) rest h =
    let first = ap (λ (p : Place × Action). performed p.1 p.0 x (in_field n fields place field) (λ t. rows_after d t (xs ++ rest))) (h 0 (omega arith)) in
    let more = joins d place n fields (field ++ x ∷ []) xs rest (λ k below. h (suc k) (omega arith)) in
    first ∙ more ∙ ap (λ f. rows_after d (in_field n fields place f) rest) (append_assoc field (x ∷ []) xs)

-- neither of two tests holds
pub neither : (a b : Bool) → (a || b) ≡ false → (a ≡ false) × (b ≡ false)
neither true b h = let never : true ≡ false = h in (cc, cc)
neither false b h = (refl, h)

-- a byte that is no stop is the next one of a field without quotes
plain_step : (d c : ℕ) → is_stop d c ≡ false → step d plain c ≡ (plain, append)
plain_step d c h =
    let quote = neither (is_end d c) (c == 34) h in
    let feed = neither (c == d || c == 13) (c == 10) quote.0 in
    let other = neither (c == d) (c == 13) feed.0 in
    rw (quote.1, other.0, other.1, feed.1) refl

first_step : (d c : ℕ) → is_stop d c ≡ false → step d field_start c ≡ (plain, append)
first_step d c h =
    let quote = neither (is_end d c) (c == 34) h in
    let feed = neither (c == d || c == 13) (c == 10) quote.0 in
    let other = neither (c == d) (c == 13) feed.0 in
    rw (quote.1, other.0, other.1, feed.1) refl

-- where the machine is after these bytes of a field without quotes
pub plain_place : List ℕ → Place
plain_place [] = field_start
plain_place (x ∷ xs) = plain

-- the bytes of a field without quotes
reads_plain : (d n : ℕ) (fields : List (List ℕ)) (xs rest : List ℕ) → ((k : ℕ) → k < length xs → is_stop d (get_or xs k 0) ≡ false)
    → rows_in d n fields (xs ++ rest) ≡ rows_after d (in_field n fields (plain_place xs) xs) rest
unfolding rows_after plain_place
reads_plain d n fields [] rest h = refl
reads_plain d n fields (x ∷ xs) rest h =
    let first = ap (λ (p : Place × Action). performed p.1 p.0 x (in_field n fields field_start []) (λ t. rows_after d t (xs ++ rest))) (first_step d x (h 0 (omega arith))) in
    first ∙ joins d plain n fields (x ∷ []) xs rest (λ k below. plain_step d (get_or xs k 0) (h (suc k) (omega arith)))

complete : (xs : List ℕ) → is_complete (plain_place xs) ≡ true
unfolding plain_place
complete [] = refl
complete (x ∷ xs) = refl

module _ (d : ℕ) (text : List ℕ) (r : ℕ) (within : r ≤ length text) (before : (k : ℕ) → k < r → is_stop d (get_or text k 0) ≡ false) where
  taken : (k : ℕ) → k < length (take r text) → is_stop d (get_or (take r text) k 0) ≡ false
  taken k below =
      let fits : k < r = omega (arith, length-take-le r text within) in
      rw (get_or-take r text k 0 fits) (before k fits)

  reads_run : (n : ℕ) (fields : List (List ℕ)) → rows_in d n fields text ≡ rows_after d (in_field n fields (plain_place (take r text)) (take r text)) (drop r text)
  reads_run n fields = ap (rows_in d n fields) (sym (take-append-drop r text)) ∙ reads_plain d n fields (take r text) (drop r text) taken

  -- the field ends after these bytes
  pub begins_plain : (end : FieldEnd) (after : List ℕ) → EndsField d (drop r text) end after → BeginsWithField d text (take r text) end after
  begins_plain end after ends = λ n fields. reads_run n fields ∙ ends (plain_place (take r text)) n fields (take r text) (complete (take r text))

-- a quote is next in a field without quotes
stops : (d n : ℕ) (fields : List (List ℕ)) (xs rest : List ℕ) → get_or (xs ++ rest) 0 0 ≢ 34 → GoesOn d rest → is_stop d (get_or rest 0 0) ≡ true
    → rows_after d (in_field n fields (plain_place xs) xs) rest ≡ wrong_at (record { row = n; fault = Inside })
unfolding rows_after plain_place
stops d n fields xs [] unquoted goes stop = absurd (omega (arith, goes.0))
stops d n fields [] (c ∷ rest) unquoted goes stop =
    let quote : (c == 34) ≡ true = rw goes.1 at stop in
    absurd (unquoted (grind (arith, nat_tests, quote)))
stops d n fields (x ∷ xs) (c ∷ rest) unquoted goes stop =
    let quote : (c == 34) ≡ true = rw goes.1 at stop in
    rw quote refl

pub wrong_plain : (d : ℕ) (text : List ℕ) (r : ℕ) → r ≤ length text → ((k : ℕ) → k < r → is_stop d (get_or text k 0) ≡ false)
    → (r < length text → is_stop d (get_or text r 0) ≡ true) → get_or text 0 0 ≢ 34 → GoesOn d (drop r text)
    → (n : ℕ) (fields : List (List ℕ)) → rows_in d n fields text ≡ wrong_at (record { row = n; fault = Inside })
wrong_plain d text r within before at unquoted goes n fields =
    let split = take-append-drop r text in
    let some : r < length text = omega (arith, goes.0, length-drop r text) in
    let here : r + 0 ≡ r = omega arith in
    let stop : is_stop d (get_or (drop r text) 0 0) ≡ true = rw (get_or-drop r text 0 0, here) (at some) in
    reads_run d text r within before n fields
    ∙ stops d n fields (take r text) (drop r text) (rw split unquoted) goes stop
