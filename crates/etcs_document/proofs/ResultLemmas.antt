-- The parts that were read, if reading succeeded.
use Rattle.std.proofs.Common.{◌≡◌, ℕ, Bool, true, false, List, ◌∷◌, Option, Some, None, Result, Ok, Err, refl}
use Rattle.std.specs.Prelude.{◌&&◌, if◌then◌else◌, length, nat_le, nat_lt}
use Rattle.std.specs.Result.{result_map_both}
use Rattle.serde_json.specs.Data.{Data}
use Rattle.etcs_document.specs.Document.{◌then◌, aspect_telegrams, balise_telegram, has_count, read_indexed, text_or, with_first}
use Rattle.etcs_document.specs.DocumentFault.{DocumentFault, bad_aspects, bad_count}
use Rattle.etcs_schema.specs.Fault.{Fault, Step}
use Rattle.etcs_schema.specs.Reading.{◌>>=◌}
use Rattle.etcs_telegram.specs.Record.{Telegram}

pub same_ok : {A E : Type 0} (x y : A) (r : Result A E) → r ≡ Ok x → r ≡ Ok y → x ≡ y
same_ok x y r is was = cc

pub then_ok : {A B : Type 0} (r : Result A DocumentFault) (next : A → Result B DocumentFault) (y : B) → (r then next) ≡ Ok y → (x : A) × (r ≡ Ok x) × (next x ≡ Ok y)
then_ok (Ok x) next y is = (x, refl, is)
then_ok (Err f) next y is = absurd cc

pub part_ok : {A B : Type 0} (r : Result A Fault) (next : A → Result B Fault) (y : B) → r >>= next ≡ Ok y → (x : A) × (r ≡ Ok x) × (next x ≡ Ok y)
part_ok (Ok x) next y is = (x, refl, is)
part_ok (Err f) next y is = absurd cc

pub mapped_ok : {A E F : Type 0} (bad : E → F) (r : Result A E) (x : A) → result_map_both (λ y. y) bad r ≡ Ok x → r ≡ Ok x
mapped_ok bad (Ok y) x is = cc
mapped_ok bad (Err e) x is = absurd cc

pub text_ok : {A E : Type 0} (path : List Step) (read : List ℕ → Result A E) (bad : E → DocumentFault) (o : Option (List ℕ)) (x : A) → text_or path read bad o ≡ Ok x
    → (text : List ℕ) × (o ≡ Some text) × (read text ≡ Ok x)
text_ok path read bad None x is = absurd cc
text_ok path read bad (Some text) x is = (text, refl, mapped_ok bad (read text) x is)

pub first_ok : {A : Type 0} (x : A) (r : Result (List A) DocumentFault) (xs : List A) → with_first x r ≡ Ok xs → (ys : List A) × (r ≡ Ok ys) × (x ∷ ys ≡ xs)
first_ok x (Ok ys) xs is = (ys, refl, cc)
first_ok x (Err f) xs is = absurd cc

pub if_ok : {A : Type 0} (test : Bool) (r : Result A DocumentFault) (f : DocumentFault) (x : A) → (if test then r else Err f) ≡ Ok x → (test ≡ true) × (r ≡ Ok x)
if_ok true r f x is = (refl, is)
if_ok false r f x is = absurd cc

-- the number of balises was tested, and each was read
pub counted_read : (g : ℕ) (a first : Option ℕ) (ds : List Data) (group : List Telegram) → aspect_telegrams g a first ds ≡ Ok group
    → ((nat_lt 0 (length ds) && nat_le (length ds) 8) ≡ true) × (has_count first (length ds) ≡ true) × (read_indexed (balise_telegram g a) 0 ds ≡ Ok group)
unfolding aspect_telegrams
counted_read g a first ds group is =
    let few = if_ok (nat_lt 0 (length ds) && nat_le (length ds) 8) _ (bad_count g) group is in
    let same = if_ok (has_count first (length ds)) (read_indexed (balise_telegram g a) 0 ds) (bad_aspects g) group few.1 in
    (few.0, same.0, same.1)
