-- A list: what it is read as, for items of any kind.
use Rattle.std.proofs.Common.{◌≡◌, ◌∙◌, ◌+◌, ℕ, Bool, false, List, [], ◌∷◌, ◌++◌, length, Some, None, Result, Ok, Err, option_map, refl, ap, sym, subst, append_assoc, append-nil}
use Rattle.std.specs.Prelude.{if◌then◌else◌}
use Rattle.std.proofs.lemmas.List.{length-append}
use Rattle.serde_json.specs.Data.{Data, Items}
use Rattle.serde_json.specs.Find.{as_array}
use Rattle.serde_json.specs.View.{view}
use Rattle.etcs_schema.specs.Fault.{ReturnsError, Fault, Returns, IsPrefixedError, Kind, Range, here, list_item, prefixed_result}
use Rattle.etcs_schema.specs.Reading.{has_bounded_length, ◌>>=◌, bounded_list_or, data_list, indexed_items, bounded_list, with_first}
use Rattle.etcs_schema.specs.declared.error.FormError.{FormError}
use Rattle.etcs_schema.proofs.Objects.{fails_same, fails_under, none_mapped, or_this, some_mapped}

-- ---- the items of a list, as a node has them

pub list_none : {A B : Type 0} (f : Items → B) (read : Data → Result A Fault) (low high : ℕ) (d : Data) → None ≡ option_map f (as_array d) → bounded_list read low high d ≡ Err (here Kind)
unfolding bounded_list
list_none f read low high d e = ap (bounded_list_or read low high) (none_mapped f (as_array d) e)

pub list_counted : {A : Type 0} (read : Data → Result A Fault) (low high : ℕ) (d : Data) (fits : Bool) → Some fits ≡ option_map (λ ds. has_bounded_length low high (data_list ds)) (as_array d)
    → (rest : List Data) → Some rest ≡ option_map data_list (as_array d) → bounded_list read low high d ≡ if fits then indexed_items read 0 rest else Err (here Range)
unfolding bounded_list
list_counted read low high d fits e rest f =
    let m = some_mapped (λ ds. has_bounded_length low high (data_list ds)) fits (as_array d) (sym e) in
    let k = some_mapped data_list rest (as_array d) (sym f) in
    let same : m.0 ≡ k.0 = ap (or_this m.0) (sym m.1 ∙ k.1) in
    ap (bounded_list_or read low high) m.1
    ∙ ap (λ b. if b then indexed_items read 0 (data_list m.0) else Err (here Range)) m.2
    ∙ ap (λ ds. if fits then indexed_items read 0 ds else Err (here Range)) (ap data_list same ∙ k.2)

pub list_misfits : {A : Type 0} (read : Data → Result A Fault) (low high : ℕ) (d : Data) → Some false ≡ option_map (λ ds. has_bounded_length low high (data_list ds)) (as_array d)
    → bounded_list read low high d ≡ Err (here Range)
unfolding bounded_list
list_misfits read low high d e =
    let m = some_mapped (λ ds. has_bounded_length low high (data_list ds)) false (as_array d) (sym e) in
    ap (bounded_list_or read low high) m.1 ∙ ap (λ b. if b then indexed_items read 0 (data_list m.0) else Err (here Range)) m.2

pub gives_equal : {X Y : Type 0} (view : X → Y) (result : Result X FormError) (r s : Result Y Fault) → Returns view result r → s ≡ r → Returns view result s
gives_equal view result r s h e = subst (Returns view result) (sym e) h

-- ---- one item after the other

-- what was found, and then what is read
abbrev pub with_front : {A : Type 0} → List A → Result (List A) Fault → Result (List A) Fault
with_front front (Ok xs) = Ok (front ++ xs)
with_front front (Err f) = Err f

front_empty : {A : Type 0} (r : Result (List A) Fault) → with_front [] r ≡ r
front_empty (Ok xs) = refl
front_empty (Err f) = refl

pub front_none : {A : Type 0} (read : Data → Result A Fault) (ds : List Data) (xs : List A) → xs ≡ [] → with_front xs (indexed_items read (length xs) ds) ≡ indexed_items read 0 ds
front_none read ds xs none = ap (λ ys. with_front ys (indexed_items read (length ys) ds)) none ∙ front_empty (indexed_items read 0 ds)

front_push : {A : Type 0} (xs : List A) (x : A) (r : Result (List A) Fault) → with_front (xs ++ x ∷ []) r ≡ with_front xs (with_first x r)
front_push xs x (Err f) = refl
front_push xs x (Ok ys) = ap Ok (append_assoc xs (x ∷ []) ys)

pub item_read : {A : Type 0} (read : Data → Result A Fault) (xs ys : List A) (old new : List Data) (d : Data) (x : A) (all : Result (List A) Fault) → old ≡ d ∷ new → read d ≡ Ok x → ys ≡ xs ++ x ∷ []
    → with_front xs (indexed_items read (length xs) old) ≡ all → with_front ys (indexed_items read (length ys) new) ≡ all
item_read read xs ys old new d x all is e pushed so_far =
    ap (λ zs. with_front zs (indexed_items read (length zs) new)) pushed
    ∙ ap (λ n. with_front (xs ++ x ∷ []) (indexed_items read n new)) (length-append xs (x ∷ []))
    ∙ front_push xs x (indexed_items read (length xs + 1) new)
    ∙ sym (ap (λ r. with_front xs (prefixed_result (list_item (length xs)) r >>= λ y. with_first y (indexed_items read (length xs + 1) new))) e)
    ∙ sym (ap (λ ds. with_front xs (indexed_items read (length xs) ds)) is) ∙ so_far

pub item_fails : {A : Type 0} (read : Data → Result A Fault) (xs : List A) (old new : List Data) (d : Data) (all : Result (List A) Fault) (inner outer : FormError) → old ≡ d ∷ new
    → with_front xs (indexed_items read (length xs) old) ≡ all → IsPrefixedError (list_item (length xs)) inner outer → ReturnsError inner (read d) → ReturnsError outer all
item_fails read xs old new d all inner outer is so_far deep fails =
    let step = list_item (length xs) in
    fails_same outer (prefixed_result step (read d)) all (fails_under step inner outer (read d) (prefixed_result step (read d)) deep fails refl)
    (λ f e. sym so_far ∙ ap (λ ds. with_front xs (indexed_items read (length xs) ds)) is ∙ ap (λ r. with_front xs (r >>= λ y. with_first y (indexed_items read (length xs + 1) new))) e)

pub all_read : {A : Type 0} (read : Data → Result A Fault) (xs : List A) (rest : List Data) (all : Result (List A) Fault) → rest ≡ []
    → with_front xs (indexed_items read (length xs) rest) ≡ all → all ≡ Ok xs
all_read read xs rest all none so_far = sym so_far ∙ ap (λ ds. with_front xs (indexed_items read (length xs) ds)) none ∙ ap Ok (append-nil xs)
