-- What is known of a list that was read: how many items it has, and what holds of each.
use Rattle.std.proofs.Common.{◌≡◌, ◌≤◌, ◌<◌, ◌+◌, ◌&&◌, ℕ, suc, Bool, true, false, List, [], ◌∷◌, length, Option, Some, None, Result, Ok, Err, IfOk, refl, ap, subst, le-leb, arith}
use Rattle.std.specs.List.{AllByRecursion}
use Rattle.std.specs.Prelude.{nat_le, if◌then◌else◌}
use Rattle.std.proofs.lemmas.Bool.{and_parts}
use Rattle.std.proofs.lemmas.Bool.Decides.{nat_tests}
use Rattle.serde_json.specs.Data.{Data, Items}
use Rattle.serde_json.specs.Find.{as_array, get}
use Rattle.etcs_schema.specs.Fault.{Fault, Range, Step, here, key, list_item, prefixed_result}
use Rattle.etcs_schema.specs.Reading.{◌>>=◌, required_member, bounded_list_or, data_list, indexed_items, key_or, bounded_list, with_first}
use Rattle.etcs_schema.specs.Codec.{Codec, decoded_pair, first_and_others, first_and_rest}

-- each item that can be read has the property
abbrev EachRead : {A : Type 0} → (A → Type 0) → (Data → Result A Fault) → Type 0
EachRead {A} P read = (d : Data) → (x : A) → read d ≡ Ok x → P x

one_more : {A : Type 0} (P : A → Type 0) (i n : ℕ) (r : Result A Fault) (rest : Result (List A) Fault) → ((x : A) → r ≡ Ok x → P x)
    → IfOk rest (λ xs. AllByRecursion P xs × (length xs ≡ n))
    → IfOk (prefixed_result (list_item i) r >>= λ x. with_first x rest) (λ xs. AllByRecursion P xs × (length xs ≡ suc n))
one_more P i n (Err f) rest has h = tt
one_more P i n (Ok x) (Err f) has h = tt
one_more P i n (Ok x) (Ok xs) has h = ((has x refl, h.0), ap suc h.1)

items_read : {A : Type 0} (P : A → Type 0) (read : Data → Result A Fault) → EachRead P read → (i : ℕ) (ds : List Data)
    → IfOk (indexed_items read i ds) (λ xs. AllByRecursion P xs × (length xs ≡ length ds))
items_read P read has i [] = (tt, refl)
items_read P read has i (d ∷ ds) = one_more P i (length ds) (read d) (indexed_items read (i + 1) ds) (has d) (items_read P read has (i + 1) ds)

few : {A : Type 0} (P : A → Type 0) (n high : ℕ) (r : Result (List A) Fault) → n ≤ high
    → IfOk r (λ xs. AllByRecursion P xs × (length xs ≡ n)) → IfOk r (λ xs. AllByRecursion P xs × (length xs ≤ high))
few P n high (Err f) le h = tt
few P n high (Ok xs) le h = (h.0, omega (arith, h.1, le))

counted_at : {A : Type 0} (P : A → Type 0) (read : Data → Result A Fault) → EachRead P read → (low high : ℕ) (ds : List Data) (fits : Bool)
    → (nat_le low (length ds) && nat_le (length ds) high) ≡ fits
    → IfOk (if fits then indexed_items read 0 ds else Err (here Range)) (λ xs. AllByRecursion P xs × (length xs ≤ high))
counted_at P read has low high ds false is = tt
counted_at P read has low high ds true is =
    let both = and_parts (nat_le low (length ds)) (nat_le (length ds) high) is in
    let le : length ds ≤ high = grind (arith, nat_tests, both.1) in
    few P (length ds) high (indexed_items read 0 ds) le (items_read P read has 0 ds)

counted_read : {A : Type 0} (P : A → Type 0) (read : Data → Result A Fault) → EachRead P read → (low high : ℕ) (o : Option Items)
    → IfOk (bounded_list_or read low high o) (λ xs. AllByRecursion P xs × (length xs ≤ high))
counted_read P read has low high None = tt
counted_read P read has low high (Some ds) = counted_at P read has low high (data_list ds) _ refl

-- a list, unless it has too many items
abbrev pub at_most : {A : Type 0} → ℕ → Result (List A) Fault → Result (List A) Fault
at_most high (Ok xs) = if nat_le (length xs) high then Ok xs else Err (here Range)
at_most high (Err f) = Err f

kept : {A : Type 0} (high : ℕ) (r : Result (List A) Fault) → IfOk r (λ xs. AllByRecursion (λ _. Unit {0}) xs × (length xs ≤ high)) → r ≡ at_most high r
kept high (Err f) h = refl
kept high (Ok xs) h = rw (le-leb (length xs) high h.1) refl

-- a list that was read has no more items than it may have
pub few_listed : {X : Type 0} (read : Data → Result X Fault) (low high : ℕ) (d : Data) → bounded_list read low high d ≡ at_most high (bounded_list read low high d)
unfolding bounded_list
few_listed read low high d = kept high _ (counted_read (λ _. Unit {0}) read (λ _ _ _. tt) low high (as_array d))

kept_under : {A : Type 0} (high : ℕ) (step : Step) (r : Result (List A) Fault) → r ≡ at_most high r → prefixed_result step r ≡ at_most high (prefixed_result step r)
kept_under high step (Err f) is = refl
kept_under high step (Ok xs) is = is

kept_or : {A : Type 0} (high : ℕ) (read : Data → Result (List A) Fault) (name : List ℕ) (o : Option Data) → ((d : Data) → read d ≡ at_most high (read d))
    → key_or read name o ≡ at_most high (key_or read name o)
kept_or high read name None has = refl
kept_or high read name (Some d) has = kept_under high (key name) (read d) (has d)

-- the same of a list at a key
pub few_at : {X : Type 0} (read : Data → Result X Fault) (low high : ℕ) (name : List ℕ) (d : Data) → required_member (bounded_list read low high) name d ≡ at_most high (required_member (bounded_list read low high) name d)
unfolding required_member
few_at read low high name d = kept_or high (bounded_list read low high) name (get name d) (few_listed read low high)

first_read : {A : Type 0} (P : A → Type 0) (high : ℕ) (r : Result (List A) Fault) → IfOk r (λ xs. AllByRecursion P xs × (length xs ≤ high))
    → IfOk (r >>= first_and_rest) (λ p. (P p.0 × AllByRecursion P p.1) × (length p.1 < high))
first_read P high (Err f) h = tt
first_read P high (Ok []) h = tt
first_read P high (Ok (x ∷ xs)) h = (h.0, omega (arith, h.1))

under_read : {A : Type 0} (P : A → Type 0) (step : Step) (r : Result A Fault) → IfOk r P → IfOk (prefixed_result step r) P
under_read P step (Err f) h = tt
under_read P step (Ok x) h = h

key_read : {A : Type 0} (P : A → Type 0) (read : Data → Result A Fault) (name : List ℕ) (o : Option Data) → ((d : Data) → IfOk (read d) P) → IfOk (key_or read name o) P
key_read P read name None has = tt
key_read P read name (Some d) has = under_read P (key name) (read d) (has d)

one_read : {X : Type 0} (P : X → Type 0) (s : Codec X) (high : ℕ) → EachRead P s.of → (d : Data)
    → IfOk (first_and_others s.of high d) (λ p. (P p.0 × AllByRecursion P p.1) × (length p.1 < high))
unfolding bounded_list
one_read P s high has d = first_read P high _ (counted_read P s.of has 1 high (as_array d))

found : {A : Type 0} (P : A → Type 0) (r : Result A Fault) (x : A) → IfOk r P → r ≡ Ok x → P x
found {A = A} P r x h is = subst (λ (s : Result A Fault). IfOk s P) is h

-- a list of from 1 to `high` items that was read at a key
pub first_and_read : {X : Type 0} (P : X → Type 0) (s : Codec X) (high : ℕ) (name : List ℕ) (d : Data) (p : X × List X) → ((d : Data) → (x : X) → s.of d ≡ Ok x → P x)
    → required_member (first_and_others s.of high) name d ≡ Ok p → (P p.0 × AllByRecursion P p.1) × (length p.1 < high)
unfolding required_member
first_and_read P s high name d p has is =
    found (λ q. (P q.0 × AllByRecursion P q.1) × (length q.1 < high)) _ p (key_read _ (first_and_others s.of high) name (get name d) (one_read P s high has)) is

-- ---- members that were read

abbrev ok_as : {A : Type 0} → A → Result A Fault
ok_as x = Ok x

same_ok : {A : Type 0} (x y : A) → ok_as x ≡ ok_as y → x ≡ y
same_ok x y is = cc

pair_read : {A B : Type 0} (r : Result A Fault) (s : Result B Fault) (p : A × B) → (r >>= λ x. s >>= λ y. Ok (x, y)) ≡ Ok p → (r ≡ Ok p.0) × (s ≡ Ok p.1)
pair_read (Err f) s p is = absurd cc
pair_read (Ok x) (Err f) p is = absurd cc
pair_read {A = A} {B = B} (Ok x) (Ok y) p is = subst (λ (q : A × B). (ok_as x ≡ ok_as q.0) × (ok_as y ≡ ok_as q.1)) (same_ok (x, y) p is) (refl, refl)

-- of two parts that were read, each was
pub both_read : {A B : Type 0} (a : Data → Result A Fault) (b : Data → Result B Fault) (d : Data) (p : A × B) → decoded_pair a b d ≡ Ok p → (a d ≡ Ok p.0) × (b d ≡ Ok p.1)
both_read a b d p is = pair_read (a d) (b d) p is
