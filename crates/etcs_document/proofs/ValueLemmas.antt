-- What was read is in the values of a document.
use Rattle.std.proofs.Common.{◌≡◌, ◌+◌, ◌∙◌, ℕ, zero, suc, List, [], ◌∷◌, Option, Some, None, Result, Ok, refl, ap, sym, subst, arith, add-zero}
use Rattle.std.specs.Option.{ok_or}
use Rattle.std.specs.Prelude.{option_map}
use Rattle.std.proofs.lemmas.Option.{none-some, same_Some}
use Rattle.serde_json.specs.Data.{Data, Items, array, boolean, item, no_items, null, number, object, string}
use Rattle.serde_json.specs.Find.{as_array, at, get, get_item}
use Rattle.etcs_document.proofs.ResultLemmas.{first_ok, same_ok, then_ok}
use Rattle.etcs_document.specs.Document.{as_values, read_indexed, with_first}
use Rattle.etcs_document.specs.DocumentFault.{DocumentFault}
use Rattle.etcs_schema.specs.Fault.{Kind, Step, here, key, prefixed_result}
use Rattle.etcs_schema.specs.Reading.{required_member, data_list, key_or}
use Rattle.etcs_group.specs.Places.{At}

-- ---- lists at keys

values_in : (step : Step) (o : Option Items) (ds : List Data) → prefixed_result step (ok_or (option_map data_list o) (here Kind)) ≡ Ok ds → (items : Items) × (o ≡ Some items) × (data_list items ≡ ds)
values_in step None ds is = absurd cc
values_in step (Some items) ds is = (items, refl, same_ok (data_list items) ds (prefixed_result step (Ok (data_list items))) refl is)

abbrev pub IsListAt : List ℕ → Option Data → List Data → Type 0
IsListAt name o ds = (v : Data) × (items : Items) × (o ≡ Some v) × (as_array v ≡ Some items) × (data_list items ≡ ds)

list_found : (name : List ℕ) (o : Option Data) (ds : List Data) → key_or as_values name o ≡ Ok ds → IsListAt name o ds
unfolding as_values
list_found name None ds is = absurd cc
list_found name (Some v) ds is = let found = values_in (key name) (as_array v) ds is in (v, found.0, refl, found.1, found.2)

-- a list that was read at a key
pub list_read : (name : List ℕ) (d : Data) (ds : List Data) → required_member as_values name d ≡ Ok ds → IsListAt name (get name d) ds
unfolding required_member
list_read name d ds is = list_found name (get name d) ds is

item_at : (k : ℕ) (items : Items) (x : Data) → At (data_list items) k x → get_item k items ≡ Some x
item_at k no_items x h = absurd (none-some x h)
item_at zero (item d ds) x h = h
item_at (suc k) (item d ds) x h = item_at k ds x h

value_at : (v : Data) (items : Items) (k : ℕ) (x : Data) → as_array v ≡ Some items → At (data_list items) k x → at k v ≡ Some x
value_at null items k x is h = absurd (none-some items is)
value_at (boolean b) items k x is h = absurd (none-some items is)
value_at (number n) items k x is h = absurd (none-some items is)
value_at (string s) items k x is h = absurd (none-some items is)
value_at (object ms) items k x is h = absurd (none-some items is)
value_at (array ds) items k x is h = item_at k ds x (subst (λ (l : Items). At (data_list l) k x) (sym (same_Some ds items is)) h)

-- the value of a list at a key
pub stands : (name : List ℕ) (d : Data) (ds : List Data) (k : ℕ) (x : Data) → IsListAt name (get name d) ds → At ds k x → (v : Data) × (get name d ≡ Some v) × (at k v ≡ Some x)
stands name d ds k x list h = (list.0, list.2, value_at list.0 list.1 k x list.3 (subst (λ (l : List Data). At l k x) (sym list.4) h))

-- ---- values one after the other

abbrev pub IsReadAt : {A : Type 0} → (ℕ → Data → Result A DocumentFault) → ℕ → List Data → ℕ → A → Type 0
IsReadAt read i ds k x = (d : Data) × At ds k d × (read (i + k) d ≡ Ok x)

-- each element that was read is in the list
pub each_at : {A : Type 0} (read : ℕ → Data → Result A DocumentFault) (i : ℕ) (ds : List Data) (xs : List A) → read_indexed read i ds ≡ Ok xs
    → (k : ℕ) (x : A) → At xs k x → IsReadAt read i ds k x
each_at {A = A} read i [] xs is k x h = absurd (none-some x (subst (λ (l : List A). At l k x) (sym (same_ok [] xs (Ok []) refl is)) h))
each_at {A = A} read i (d ∷ ds) xs is zero x h =
    let one = then_ok (read i d) (λ y. with_first y (read_indexed read (i + 1) ds)) xs is in
    let rest = first_ok one.0 (read_indexed read (i + 1) ds) xs one.2 in
    let here : At (one.0 ∷ rest.0) 0 x = subst (λ (l : List A). At l 0 x) (sym rest.2) h in
    let first : one.0 ≡ x = same_Some one.0 x here in
    (d, refl, rw (add-zero i) (one.1 ∙ ap Ok first))
each_at {A = A} read i (d ∷ ds) xs is (suc k) x h =
    let one = then_ok (read i d) (λ y. with_first y (read_indexed read (i + 1) ds)) xs is in
    let rest = first_ok one.0 (read_indexed read (i + 1) ds) xs one.2 in
    let later : At rest.0 k x = subst (λ (l : List A). At l (suc k) x) (sym rest.2) h in
    let found = each_at read (i + 1) ds rest.0 rest.1 k x later in
    let there : i + suc k ≡ i + 1 + k = omega arith in
    (found.0, found.1, rw there found.2)
