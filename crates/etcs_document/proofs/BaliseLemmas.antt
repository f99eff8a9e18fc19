-- Each telegram that was read is the telegram of its balise's text in the document.
use Rattle.std.proofs.Common.{◌≡◌, ◌+◌, ◌∙◌, ℕ, zero, suc, List, [], ◌∷◌, length, Option, Some, None, Ok, refl, ap, sym, subst}
use Rattle.std.specs.Option.{is_some}
use Rattle.std.specs.Prelude.{IsSomeAnd, codes, if◌then◌else◌}
use Rattle.std.proofs.lemmas.Option.{none-some, same_Some}
use Rattle.serde_json.specs.Data.{Data}
use Rattle.serde_json.specs.Find.{as_str, get}
use Rattle.etcs_document.proofs.ResultLemmas.{counted_read, first_ok, mapped_ok, part_ok, same_ok, text_ok, then_ok}
use Rattle.etcs_document.proofs.ValueLemmas.{each_at, list_read, stands}
use Rattle.etcs_document.specs.Document.{◌then◌, as_values, aspect_telegrams, balise_telegram, controlled_group, document_group, document_list, group_aspect, group_path, in_form, line_groups, listed_aspects, only_aspect, only_values, other_aspects, read_indexed, with_first}
use Rattle.etcs_document.specs.DocumentFault.{bad_telegram}
use Rattle.etcs_schema.specs.Fault.{Step}
use Rattle.etcs_schema.specs.Reading.{required_member, only_keys}
use Rattle.etcs_document.specs.Verdict.{IsOnlyRecord, aspect_object, balise_text, item_text}
use Rattle.etcs_group.specs.Places.{At}
use Rattle.etcs_telegram.proofs.LawLemmas as telegrams
use Rattle.etcs_telegram.specs.Record.{Telegram}
use Rattle.etcs_telegram.specs.Text.{IsTelegramText}
use Rattle.etcs_telegram.specs.TextMeaning.{telegram_of_text}

-- ---- texts of balises

telegram_in : (g : ℕ) (a : Option ℕ) (b : ℕ) (u : Data) (t : Telegram) → balise_telegram g a b u ≡ Ok t → (text : List ℕ) × (as_str u ≡ Some text) × (telegram_of_text text ≡ Ok t)
unfolding balise_telegram
telegram_in g a b u t is = text_ok _ telegram_of_text (bad_telegram g a b) (as_str u) t is

only_telegram : (text : List ℕ) (t : Telegram) → telegram_of_text text ≡ Ok t → IsOnlyRecord IsTelegramText t text
only_telegram text t is = record {
  is = telegrams.means_text t text is;
  only = λ u read. same_ok u t (telegram_of_text text) (telegrams.text_meaning u text read) is;
}

pub some_and : {A : Type 0} (P : A → Type 0) (o : Option A) (x : A) → o ≡ Some x → P x → IsSomeAnd o P
some_and P o x is h = rw is h

-- ---- aspects

-- a group was read from the balises of this object, as balises of group g or of aspect a of it
abbrev IsReadOf : ℕ → Option ℕ → Data → List Telegram → Type 0
IsReadOf g a e group =
    (es : List Data) × (required_member as_values (codes "balises") e ≡ Ok es) × (read_indexed (balise_telegram g a) 0 es ≡ Ok group)

only_ok : (path : List Step) (name : List ℕ) (e : Data) (es : List Data) → in_form path (only_values name e) ≡ Ok es → required_member as_values name e ≡ Ok es
unfolding only_values
only_ok path name e es is = (part_ok (only_keys (name ∷ []) e) (λ _. required_member as_values name e) es (mapped_ok _ (only_values name e) es is)).2

aspect_read : (g : ℕ) (a first : Option ℕ) (e : Data) (group : List Telegram) → group_aspect g a first e ≡ Ok group → IsReadOf g a e group
unfolding group_aspect
aspect_read g a first e group is =
    let form = then_ok (in_form (group_path g a) (only_values (codes "balises") e)) (aspect_telegrams g a first) group is in
    (form.0, only_ok (group_path g a) (codes "balises") e form.0 form.1, (counted_read g a first form.0 group form.2).2)

-- the object of aspect a, among the aspects of its group, from which a group was read
abbrev IsAspectOf : ℕ → ℕ → List Data → List Telegram → Type 0
IsAspectOf g a ds group = (which : Option ℕ) × (e : Data) × At ds a e × IsReadOf g which e group

aspect_among : (g a : ℕ) (ds : List Data) (aspects : List (List Telegram)) (group : List Telegram) → listed_aspects g ds ≡ Ok aspects → At aspects a group → IsAspectOf g a ds group
unfolding listed_aspects
aspect_among g a [] aspects group is h = absurd cc
aspect_among g zero (d ∷ ds) aspects group is h =
    let one = then_ok (group_aspect g (Some 0) None d) (λ first. with_first first (other_aspects g (length first) ds)) aspects is in
    let rest = first_ok one.0 (other_aspects g (length one.0) ds) aspects one.2 in
    let here : At (one.0 ∷ rest.0) 0 group = subst (λ (l : List (List Telegram)). At l 0 group) (sym rest.2) h in
    let first : one.0 ≡ group = same_Some one.0 group here in
    (Some 0, d, refl, aspect_read g (Some 0) None d group (one.1 ∙ ap Ok first))
aspect_among g (suc a) (d ∷ ds) aspects group is h =
    let one = then_ok (group_aspect g (Some 0) None d) (λ first. with_first first (other_aspects g (length first) ds)) aspects is in
    let rest = first_ok one.0 (other_aspects g (length one.0) ds) aspects one.2 in
    let later : At rest.0 a group = subst (λ (l : List (List Telegram)). At l (suc a) group) (sym rest.2) h in
    let found = each_at (λ k. group_aspect g (Some k) (Some (length one.0))) 1 ds rest.0 rest.1 a group later in
    (Some (1 + a), found.0, found.1, aspect_read g (Some (1 + a)) (Some (length one.0)) found.0 group found.2)

-- ---- groups

-- the object of aspect a in a group's value, from which a group was read
abbrev HasAspect : ℕ → ℕ → Data → List Telegram → Type 0
HasAspect g a e group = (which : Option ℕ) × (o : Data) × (aspect_object a e ≡ Some o) × IsReadOf g which o group

only_at : (a : ℕ) (only group : List Telegram) → At (only ∷ []) a group → only ≡ group
only_at zero only group h = same_Some only group h
only_at (suc a) only group h = absurd (none-some group h)

only_read : (g a : ℕ) (e : Data) (aspects : List (List Telegram)) (group : List Telegram) → only_aspect g e ≡ Ok aspects → At aspects a group → IsReadOf g None e group
unfolding only_aspect
only_read g a e aspects group is h =
    let whole = then_ok (group_aspect g None None e) (λ only. Ok (only ∷ [])) aspects is in
    let alone : whole.0 ∷ [] ≡ aspects = same_ok (whole.0 ∷ []) aspects (Ok (whole.0 ∷ [])) refl whole.2 in
    let here : At (whole.0 ∷ []) a group = subst (λ (l : List (List Telegram)). At l a group) (sym alone) h in
    aspect_read g None None e group (whole.1 ∙ ap Ok (only_at a whole.0 group here))

aspect_or : (g a : ℕ) (e : Data) (aspects : List (List Telegram)) (group : List Telegram) (o : Option Data) → get (codes "aspects") e ≡ o → (if is_some o then controlled_group g e else only_aspect g e) ≡ Ok aspects → At aspects a group → HasAspect g a e group
unfolding controlled_group
aspect_or g a e aspects group None key_is is h = (None, e, rw key_is refl, only_read g a e aspects group is h)
aspect_or g a e aspects group (Some list) key_is is h =
    let form = then_ok (in_form (group_path g None) (only_values (codes "aspects") e)) (listed_aspects g) aspects is in
    let values = list_read (codes "aspects") e form.0 (only_ok (group_path g None) (codes "aspects") e form.0 form.1) in
    let one = aspect_among g a form.0 aspects group form.2 h in
    let found = stands (codes "aspects") e form.0 a one.1 values one.2 in
    (one.0, one.1, rw (found.1, found.2) refl, one.3)

aspect_found : (g a : ℕ) (e : Data) (aspects : List (List Telegram)) (group : List Telegram) → document_group g e ≡ Ok aspects → At aspects a group → HasAspect g a e group
unfolding document_group
aspect_found g a e aspects group is h = aspect_or g a e aspects group (get (codes "aspects") e) refl is h

-- ---- the text of each balise

-- a telegram that was read is the telegram of its text in the object of its aspect
balise_read : (g : ℕ) (which : Option ℕ) (b : ℕ) (o : Data) (group : List Telegram) (t : Telegram) → IsReadOf g which o group → At group b t
    → (text : List ℕ) × (item_text (codes "balises") b o ≡ Some text) × (telegram_of_text text ≡ Ok t)
balise_read g which b o group t read h =
    let values = list_read (codes "balises") o read.0 read.1 in
    let one = each_at (balise_telegram g which) 0 read.0 group read.2 b t h in
    let found = stands (codes "balises") o read.0 b one.0 values one.1 in
    let text = telegram_in g which (0 + b) one.0 t one.2 in
    (text.0, rw (found.1, found.2) text.1, text.2)

-- each telegram is the telegram of its text
pub telegrams_read : (d : Data) (groups : List (List (List Telegram))) → line_groups d ≡ Ok groups → (g a b : ℕ) (aspects : List (List Telegram)) (group : List Telegram) (t : Telegram)
    → At groups g aspects → At aspects a group → At group b t → IsSomeAnd (balise_text d g a b) (IsOnlyRecord IsTelegramText t)
unfolding line_groups
telegrams_read d groups is g a b aspects group t here within inside =
    let list = then_ok (document_list (codes "groups") d) (read_indexed document_group 0) groups is in
    let values = list_read (codes "groups") d list.0 (mapped_ok _ _ list.0 list.1) in
    let one = each_at document_group 0 list.0 groups list.2 g aspects here in
    let found = stands (codes "groups") d list.0 g one.0 values one.1 in
    let aspect = aspect_found (0 + g) a one.0 aspects group one.2 within in
    let text = balise_read (0 + g) aspect.0 b aspect.1 group t aspect.3 inside in
    some_and _ (balise_text d g a b) text.0 (rw (found.1, found.2, aspect.2) text.1) (only_telegram text.0 t text.2)
