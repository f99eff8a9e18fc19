-- Documents by the edition are those that are read.
use Rattle.std.proofs.Common.{◌≡◌, ℕ, suc, ◌+◌, ◌<◌, ◌∙◌, Bool, true, false, List, [], ◌∷◌, length, codes, Option, Some, None, Result, Ok, Err, Ordering, Less, Equal, Greater, nat_cmp, is_eq, refl, sym, ap, subst, arith, inl, inr, if◌then◌else◌}
use Rattle.std.specs.Prelude.{◌&&◌, nat_le, nat_lt, IsSome, IsSomeAnd}
use Rattle.std.specs.Option.{ok_or, is_some}
use Rattle.std.specs.Str.{is_utf8}
use Rattle.std.specs.Cmp.Lexicographic.{slice_cmp}
use Rattle.std.specs.Ordering.{match_ordering}
use Rattle.std.proofs.lemmas.Map.Text.{is_eq-slice_cmp}
use Rattle.std.proofs.lemmas.Bool.{eq-eqb, and_parts}
use Rattle.std.proofs.lemmas.Bool.Decides.{nat_tests}
use Rattle.std.proofs.lemmas.Slice.Eq.{bytes_eq-Decides}
use Rattle.serde_json.specs.Data.{Data, Items, no_items, item, Members, no_members, member, array, object}
use Rattle.serde_json.specs.Find.{as_array, as_str, get, get_member}
use Rattle.serde_json.specs.Read.{read as read_json}
use Rattle.etcs_schema.specs.Entries.{are_known, is_known}
use Rattle.etcs_schema.specs.Fault.{Step, Unknown, here}
use Rattle.etcs_schema.specs.Reading.{required_member, data_list, only_keys, known_or}
use Rattle.etcs_document.specs.Document.{◌then◌, as_values, aspect_telegrams, balise_telegram, controlled_group, document_group, document_line, document_list, document_message, group_aspect, group_path, has_count, in_form, json_value, line_groups, line_messages, line_of_text, listed_aspects, only_aspect, only_values, other_aspects, read_indexed, text_or, with_first}
use Rattle.etcs_document.specs.DocumentFault.{DocumentFault, bad_message, bad_telegram, no_json}
use Rattle.etcs_document.proofs.ResultLemmas.{same_ok, then_ok, part_ok, mapped_ok, text_ok, first_ok, if_ok, counted_read}
use Rattle.etcs_document.proofs.BaliseLemmas.{some_and}
use Rattle.etcs_document.proofs.SoundLemmas.{few_balises, list_controlled}
use Rattle.etcs_document.proofs.DocumentLemmas.{line_read}
use Rattle.etcs_group.specs.Group.{Telegrams, Aspects}
use Rattle.etcs_group.specs.Controlled.{IsControlled}
use Rattle.etcs_group.specs.Places.{At}
use Rattle.etcs_radio.specs.TextMeaning.{message_of_text}
use Rattle.etcs_radio.specs.declared.message.Message.{Message}
use Rattle.etcs_radio.proofs.TextLemmas as messages
use Rattle.etcs_telegram.specs.Record.{Telegram}
use Rattle.etcs_telegram.specs.TextMeaning.{telegram_of_text}
use Rattle.etcs_telegram.proofs.LawLemmas as telegrams
use Rattle.etcs_edition.specs.Telegram.{IsTelegramText}
use Rattle.etcs_edition.specs.Message.{IsMessageText}
use Rattle.etcs_document.proofs.ValueLemmas.{list_read}
use Rattle.etcs_edition.specs.Document.{Each, OnlyKeys, IsAspectObject, IsGroupObject, IsLineObject, IsLineText}
use Rattle.etcs_edition.proofs.TextLemmas.{text_read, read_text}
use Rattle.etcs_edition.proofs.MessageLemmas.{message_text_read, read_message_text}

-- ---- parts

some_of : {A : Type 0} (P : A → Type 0) (o : Option A) → IsSomeAnd o P → (x : A) × (o ≡ Some x) × P x
some_of P None is = absurd is
some_of P (Some x) is = (x, refl, is)

text_is : {A E : Type 0} (path : List Step) (read : List ℕ → Result A E) (bad : E → DocumentFault) (o : Option (List ℕ)) (text : List ℕ) (x : A)
    → o ≡ Some text → read text ≡ Ok x → text_or path read bad o ≡ Ok x
text_is path read bad o text x is h = rw (is, h) refl

balise_is : (g : ℕ) (a : Option ℕ) (b : ℕ) (v : Data) (t : Telegram) → balise_telegram g a b v ≡ Ok t → IsSomeAnd (as_str v) (IsTelegramText t)
unfolding balise_telegram
balise_is g a b v t is =
    let x = text_ok _ telegram_of_text (bad_telegram g a b) (as_str v) t is in
    some_and (IsTelegramText t) (as_str v) x.0 x.1 (read_text t x.0 (telegrams.means_text t x.0 x.2))

is_balise : (g : ℕ) (a : Option ℕ) (b : ℕ) (v : Data) (t : Telegram) → IsSomeAnd (as_str v) (IsTelegramText t) → balise_telegram g a b v ≡ Ok t
unfolding balise_telegram
is_balise g a b v t is =
    let x = some_of (IsTelegramText t) (as_str v) is in
    text_is _ telegram_of_text (bad_telegram g a b) (as_str v) x.0 t x.1 (telegrams.text_meaning t x.0 (text_read t x.0 x.2))

message_is : (i : ℕ) (v : Data) (m : Message) → document_message i v ≡ Ok m → IsSomeAnd (as_str v) (IsMessageText m)
unfolding document_message
message_is i v m is =
    let x = text_ok _ message_of_text (bad_message i) (as_str v) m is in
    some_and (IsMessageText m) (as_str v) x.0 x.1 (read_message_text m x.0 (messages.means_text m x.0 x.2))

is_message : (i : ℕ) (v : Data) (m : Message) → IsSomeAnd (as_str v) (IsMessageText m) → document_message i v ≡ Ok m
unfolding document_message
is_message i v m is =
    let x = some_of (IsMessageText m) (as_str v) is in
    text_is _ message_of_text (bad_message i) (as_str v) x.0 m x.1 (messages.text_meaning m x.0 (message_text_read m x.0 x.2))

-- ---- lists

each_is : {X : Type 0} (Is : Data → X → Type 0) (read : ℕ → Data → Result X DocumentFault)
    → ((n : ℕ) (d : Data) (x : X) → read n d ≡ Ok x → Is d x)
    → (n : ℕ) (ds : Items) (xs : List X) → read_indexed read n (data_list ds) ≡ Ok xs → Each Is ds xs
each_is Is read to n no_items [] is = tt
each_is Is read to n no_items (x ∷ xs) is = absurd cc
each_is Is read to n (item d ds) xs is =
    let one = then_ok (read n d) (λ x. with_first x (read_indexed read (n + 1) (data_list ds))) xs is in
    let rest = first_ok one.0 (read_indexed read (n + 1) (data_list ds)) xs one.2 in
    subst (λ ys. Each Is (item d ds) ys) rest.2 (to n d one.0 one.1, each_is Is read to (n + 1) ds rest.0 rest.1)

is_each : {X : Type 0} (Is : Data → X → Type 0) (read : ℕ → Data → Result X DocumentFault)
    → ((n : ℕ) (d : Data) (x : X) → Is d x → read n d ≡ Ok x)
    → (n : ℕ) (ds : Items) (xs : List X) → Each Is ds xs → read_indexed read n (data_list ds) ≡ Ok xs
is_each Is read to n no_items [] are = refl
is_each Is read to n no_items (x ∷ xs) are = absurd are
is_each Is read to n (item d ds) [] are = absurd are
is_each Is read to n (item d ds) (x ∷ xs) are = rw (to n d x are.0, is_each Is read to (n + 1) ds xs are.1) refl

same_count : {X : Type 0} (Is : Data → X → Type 0) (ds : Items) (xs : List X) → Each Is ds xs → length (data_list ds) ≡ length xs
same_count Is no_items [] are = refl
same_count Is no_items (x ∷ xs) are = absurd are
same_count Is (item d ds) [] are = absurd are
same_count Is (item d ds) (x ∷ xs) are = ap suc (same_count Is ds xs are.1)

pub read_count : {X : Type 0} (read : ℕ → Data → Result X DocumentFault) (n : ℕ) (ds : List Data) (xs : List X)
    → read_indexed read n ds ≡ Ok xs → length ds ≡ length xs
read_count read n [] [] is = refl
read_count read n [] (x ∷ xs) is = absurd cc
read_count read n (d ∷ ds) xs is =
    let one = then_ok (read n d) (λ x. with_first x (read_indexed read (n + 1) ds)) xs is in
    let rest = first_ok one.0 (read_indexed read (n + 1) ds) xs one.2 in
    ap suc (read_count read (n + 1) ds rest.0 rest.1) ∙ ap length rest.2

-- ---- keys

in_order : (keys : List (List ℕ)) (o : Ordering) (key k : List ℕ) (d : Data) (rest : Option Data) → slice_cmp nat_cmp key k ≡ o
    → is_known k keys ≡ true → (IsSome rest → is_known key keys ≡ true)
    → IsSome (match_ordering o rest (Some d) rest) → is_known key keys ≡ true
in_order keys Less key k d rest is known later some = later some
in_order keys Equal key k d rest is known later some =
    let same : key ≡ k = (bytes_eq-Decides key k).0 (sym (is_eq-slice_cmp key k) ∙ ap is_eq is) in
    ap (λ (l : List ℕ). is_known l keys) same ∙ known
in_order keys Greater key k d rest is known later some = later some

each_known : (keys : List (List ℕ)) (ms : Members) → are_known keys ms ≡ true → (key : List ℕ) → IsSome (get_member key ms) → is_known key keys ≡ true
each_known keys no_members known key some = absurd cc
each_known keys (member k d ms) known key some =
    let parts = and_parts (is_known k keys) (are_known keys ms) known in
    in_order keys (slice_cmp nat_cmp key k) key k d (get_member key ms) refl parts.0 (each_known keys ms parts.1 key) some

one_more : (o : Ordering) (d : Data) (rest : Option Data) → IsSome rest → IsSome (match_ordering o rest (Some d) rest)
one_more Less d rest some = some
one_more Equal d rest some = refl
one_more Greater d rest some = some

is_first : (o : Ordering) (d : Data) (rest : Option Data) → is_eq o ≡ true → IsSome (match_ordering o rest (Some d) rest)
is_first Less d rest is = absurd cc
is_first Equal d rest is = refl
is_first Greater d rest is = absurd cc

known_each : (keys : List (List ℕ)) (ms : Members) → ((key : List ℕ) → IsSome (get_member key ms) → is_known key keys ≡ true) → are_known keys ms ≡ true
known_each keys no_members all = refl
known_each keys (member k d ms) all =
    let same : is_eq (slice_cmp nat_cmp k k) ≡ true = is_eq-slice_cmp k k ∙ (bytes_eq-Decides k k).1 refl in
    rw (
      all k (is_first (slice_cmp nat_cmp k k) d (get_member k ms) same),
      known_each keys ms (λ key some. all key (one_more (slice_cmp nat_cmp key k) d (get_member key ms) some)),
    ) refl

-- ---- members

known_is : (keys : List (List ℕ)) (ms : Members) (u : Unit {0}) → known_or keys (Some ms) ≡ Ok u → are_known keys ms ≡ true
known_is keys ms u is = by_test (are_known keys ms) is
  where
    by_test : (b : Bool) → (if b then Ok tt else Err (here Unknown)) ≡ Ok u → b ≡ true
    by_test true is = refl
    by_test false is = absurd cc

keys_is : (keys : List (List ℕ)) (d : Data) (u : Unit {0}) → only_keys keys d ≡ Ok u → OnlyKeys keys d
unfolding only_keys
keys_is keys (object ms) u is = (refl, each_known keys ms (known_is keys ms u is))
keys_is keys d u is = absurd cc

is_keys : (keys : List (List ℕ)) (d : Data) → OnlyKeys keys d → only_keys keys d ≡ Ok tt
unfolding only_keys
is_keys keys (object ms) is = rw (known_each keys ms is.1) refl
is_keys keys d is = let none = is.0 in absurd cc

-- an object has this list at the key
abbrev HasList : List ℕ → Data → List Data → Type 0
HasList name d ds = (items : Items) × (get name d ≡ Some (array items)) × (data_list items ≡ ds)

array_is : (v : Data) (items : Items) → as_array v ≡ Some items → v ≡ array items
array_is (array ds) items is = let same : ds ≡ items = cc in ap array same
array_is v items is = absurd cc

list_is : (name : List ℕ) (d : Data) (ds : List Data) → required_member as_values name d ≡ Ok ds → HasList name d ds
list_is name d ds is =
    let x = list_read name d ds is in (x.1, x.2 ∙ ap Some (array_is x.0 x.1 x.3), x.4)

is_list : (name : List ℕ) (d : Data) (items : Items) → get name d ≡ Some (array items) → required_member as_values name d ≡ Ok (data_list items)
unfolding required_member as_values
is_list name d items is = rw is refl

only_is : (path : List Step) (name : List ℕ) (d : Data) (ds : List Data) → in_form path (only_values name d) ≡ Ok ds
    → OnlyKeys (name ∷ []) d × HasList name d ds
unfolding only_values
only_is path name d ds is =
    let x = part_ok (only_keys (name ∷ []) d) (λ _. required_member as_values name d) ds (mapped_ok _ (only_values name d) ds is) in
    (keys_is (name ∷ []) d x.0 x.1, list_is name d ds x.2)

is_only : (path : List Step) (name : List ℕ) (d : Data) (items : Items) → OnlyKeys (name ∷ []) d → get name d ≡ Some (array items)
    → in_form path (only_values name d) ≡ Ok (data_list items)
unfolding only_values
is_only path name d items keys list = rw (is_keys (name ∷ []) d keys, is_list name d items list) refl

-- ---- aspects

aspect_is : (g : ℕ) (a first : Option ℕ) (d : Data) (group : Telegrams) → group_aspect g a first d ≡ Ok group → IsAspectObject d group
unfolding group_aspect
aspect_is g a first d group is =
    let x = then_ok (in_form (group_path g a) (only_values (codes "balises") d)) (aspect_telegrams g a first) group is in
    let form = only_is (group_path g a) (codes "balises") d x.0 x.1 in
    let few = few_balises g a first x.0 group x.2 in
    let read = counted_read g a first x.0 group x.2 in
    let list = form.1 in
    record {
      keys = form.0;
      texts = list.0;
      balises = list.1;
      some = few.0;
      few = few.1;
      are = each_is (λ v t. IsSomeAnd (as_str v) (IsTelegramText t)) (balise_telegram g a) (balise_is g a) 0 list.0 group
          (ap (read_indexed (balise_telegram g a) 0) list.2 ∙ read.2);
    }

is_aspect : (g : ℕ) (a first : Option ℕ) (d : Data) (group : Telegrams) → IsAspectObject d group → has_count first (length group) ≡ true
    → group_aspect g a first d ≡ Ok group
unfolding group_aspect aspect_telegrams
is_aspect g a first d group x has =
    let form = is_only (group_path g a) (codes "balises") d x.texts x.keys x.balises in
    let some = x.some in
    let few = x.few in
    let fits : (nat_lt 0 (length group) && nat_le (length group) 8) ≡ true = grind (arith, nat_tests) in
    let count = same_count (λ v t. IsSomeAnd (as_str v) (IsTelegramText t)) x.texts group x.are in
    let read = is_each (λ v t. IsSomeAnd (as_str v) (IsTelegramText t)) (balise_telegram g a) (is_balise g a) 0 x.texts group x.are in
    rw (form, count, fits, has, read) refl

others_are : (g n i : ℕ) (ds : Items) (xs : Aspects) → Each IsAspectObject ds xs → ((k : ℕ) (x : Telegrams) → At xs k x → length x ≡ n)
    → read_indexed (λ a. group_aspect g (Some a) (Some n)) i (data_list ds) ≡ Ok xs
others_are g n i no_items [] are counted = refl
others_are g n i no_items (x ∷ xs) are counted = absurd are
others_are g n i (item d ds) [] are counted = absurd are
others_are g n i (item d ds) (x ∷ xs) are counted =
    let has : has_count (Some n) (length x) ≡ true = eq-eqb (length x) n (counted 0 x refl) in
    rw (is_aspect g (Some i) (Some n) d x are.0 has, others_are g n (i + 1) ds xs are.1 (λ k y at. counted (suc k) y at)) refl

aspects_are : (g : ℕ) (ds : Items) (xs : Aspects) → listed_aspects g (data_list ds) ≡ Ok xs → Each IsAspectObject ds xs
unfolding listed_aspects
aspects_are g no_items xs is = absurd cc
aspects_are g (item d ds) xs is =
    let one = then_ok (group_aspect g (Some 0) None d) (λ first. with_first first (other_aspects g (length first) (data_list ds))) xs is in
    let rest = first_ok one.0 (other_aspects g (length one.0) (data_list ds)) xs one.2 in
    subst (λ ys. Each IsAspectObject (item d ds) ys) rest.2 (
      aspect_is g (Some 0) None d one.0 one.1,
      each_is IsAspectObject (λ a. group_aspect g (Some a) (Some (length one.0))) (λ n e x. aspect_is g (Some n) (Some (length one.0)) e x) 1 ds rest.0 rest.1,
    )

are_aspects : (g : ℕ) (ds : Items) (xs : Aspects) → Each IsAspectObject ds xs → IsControlled xs → listed_aspects g (data_list ds) ≡ Ok xs
unfolding listed_aspects
are_aspects g no_items [] are is = let some = is.some in absurd (omega arith)
are_aspects g no_items (x ∷ xs) are is = absurd are
are_aspects g (item d ds) [] are is = absurd are
are_aspects g (item d ds) (x ∷ xs) are is =
    rw (is_aspect g (Some 0) None d x are.0 refl, others_are g (length x) 1 ds xs are.1 (λ k y at. is.counts (suc k) y at)) refl

-- ---- groups

-- each aspect of an object has a balise, so that aspects with as many balises each are those of a controlled group
are_controlled : (ds : Items) (xs : Aspects) → Each IsAspectObject ds xs → 0 < length xs
    → ((a b : ℕ) (g h : Telegrams) → At xs a g → At xs b h → length g ≡ length h) → IsControlled xs
are_controlled ds [] each some counts = absurd (omega (arith, some))
are_controlled no_items (x ∷ xs) each some counts = absurd each
are_controlled (item d ds) (x ∷ xs) each some counts =
    record { some = some; balises = each.0.some; counts = λ a g at. counts a 0 g x at refl }

group_by : (g : ℕ) (d : Data) (o : Option Data) (aspects : Aspects)
    → (if is_some o then controlled_group g d else only_aspect g d) ≡ Ok aspects → IsGroupObject d aspects
unfolding controlled_group only_aspect
group_by g d None aspects is =
    let x = then_ok (group_aspect g None None d) (λ only. Ok (only ∷ [])) aspects is in
    inr (x.0, same_ok aspects (x.0 ∷ []) (Ok (x.0 ∷ [])) x.2 refl, aspect_is g None None d x.0 x.1)
group_by g d (Some list) aspects is =
    let x = then_ok (in_form (group_path g None) (only_values (codes "aspects") d)) (listed_aspects g) aspects is in
    let form = only_is (group_path g None) (codes "aspects") d x.0 x.1 in
    let controlled = list_controlled g x.0 aspects x.2 in
    let found = form.1 in
    inl (record {
      keys = form.0;
      objects = found.0;
      list = found.1;
      are = aspects_are g found.0 aspects (ap (listed_aspects g) found.2 ∙ x.2);
      some = controlled.some;
      counts = λ a b g h at_a at_b. controlled.counts a g at_a ∙ sym (controlled.counts b h at_b);
    })

group_is : (g : ℕ) (d : Data) (aspects : Aspects) → document_group g d ≡ Ok aspects → IsGroupObject d aspects
unfolding document_group
group_is g d aspects is = group_by g d (get (codes "aspects") d) aspects is

-- an object with only the key `balises` has none `aspects`
no_value : (o : Option Data) → (IsSome o → ⊥) → o ≡ None
no_value None is = refl
no_value (Some d) is = absurd (is refl)

no_aspects : (d : Data) → OnlyKeys (codes "balises" ∷ []) d → get (codes "aspects") d ≡ None
no_aspects d keys = no_value (get (codes "aspects") d) (λ some. let known = keys.1 (codes "aspects") some in absurd cc)

is_group : (g : ℕ) (d : Data) (aspects : Aspects) → IsGroupObject d aspects → document_group g d ≡ Ok aspects
unfolding document_group controlled_group only_aspect
is_group g d aspects (inl x) =
    let form = is_only (group_path g None) (codes "aspects") d x.objects x.keys x.list in
    rw (x.list, form, are_aspects g x.objects aspects x.are (are_controlled x.objects aspects x.are x.some x.counts)) refl
is_group g d aspects (inr x) =
    rw (no_aspects d x.2.keys, is_aspect g None None d x.0 x.2 refl) (ap (λ (xs : Aspects). Ok xs) (sym x.1))

-- ---- the line

same_line : (d : Data) (p q : List Aspects × List Message) → p ≡ q → IsLineObject d p.0 p.1 → IsLineObject d q.0 q.1
same_line d p q same line = subst (λ (r : List Aspects × List Message). IsLineObject d r.0 r.1) same line

line_is : (d : Data) (groups : List Aspects) (ms : List Message) → document_line d ≡ Ok (groups, ms) → IsLineObject d groups ms
unfolding document_line line_groups line_messages
line_is d groups ms is =
    let keys = codes "groups" ∷ codes "messages" ∷ [] in
    let front = in_form [] (only_keys keys d) then λ _. line_groups d in
    let both = then_ok front (λ gs. line_messages d then λ xs. Ok (gs, xs)) (groups, ms) is in
    let head = then_ok (in_form [] (only_keys keys d)) (λ _. line_groups d) both.0 both.1 in
    let last = then_ok (line_messages d) (λ xs. Ok (both.0, xs)) (groups, ms) both.2 in
    let gs = then_ok (document_list (codes "groups") d) (read_indexed document_group 0) both.0 head.2 in
    let xs = then_ok (document_list (codes "messages") d) (read_indexed document_message 0) last.0 last.1 in
    let objects = list_is (codes "groups") d gs.0 (mapped_ok _ (required_member as_values (codes "groups") d) gs.0 gs.1) in
    let texts = list_is (codes "messages") d xs.0 (mapped_ok _ (required_member as_values (codes "messages") d) xs.0 xs.1) in
    let whole : IsLineObject d both.0 last.0 = record {
      keys = keys_is keys d head.0 (mapped_ok _ (only_keys keys d) head.0 head.1);
      group_objects = objects.0;
      message_texts = texts.0;
      first = objects.1;
      second = texts.1;
      are_groups = each_is IsGroupObject document_group group_is 0 objects.0 both.0 (ap (read_indexed document_group 0) objects.2 ∙ gs.2);
      are_messages = each_is (λ v m. IsSomeAnd (as_str v) (IsMessageText m)) document_message message_is 0 texts.0 last.0
          (ap (read_indexed document_message 0) texts.2 ∙ xs.2);
    } in
    let same : (both.0, last.0) ≡ (groups, ms) = same_ok (both.0, last.0) (groups, ms) (Ok (both.0, last.0)) (refl {a = Ok (both.0, last.0)}) last.2 in
    same_line d (both.0, last.0) (groups, ms) same whole

is_line : (d : Data) (groups : List Aspects) (ms : List Message) → IsLineObject d groups ms → document_line d ≡ Ok (groups, ms)
is_line d groups ms x =
    let first = is_list (codes "groups") d x.group_objects x.first in
    let second = is_list (codes "messages") d x.message_texts x.second in
    line_read d groups ms (is_keys (codes "groups" ∷ codes "messages" ∷ []) d x.keys)
    (rw (first, is_each IsGroupObject document_group is_group 0 x.group_objects groups x.are_groups) refl)
    (rw (second, is_each (λ v m. IsSomeAnd (as_str v) (IsMessageText m)) document_message is_message 0 x.message_texts ms x.are_messages) refl)

some_is : {A E : Type 0} (o : Option A) (e : E) (x : A) → ok_or o e ≡ Ok x → o ≡ Some x
some_is None e x is = absurd cc
some_is (Some y) e x is = cc

pub text_is_line : (bytes : List ℕ) (groups : List Aspects) (ms : List Message) → line_of_text bytes ≡ Ok (groups, ms) → IsLineText bytes groups ms
unfolding line_of_text json_value
text_is_line bytes groups ms is =
    let read = then_ok (json_value bytes) document_line (groups, ms) is in
    let json = if_ok (is_utf8 bytes) (ok_or (read_json bytes) no_json) no_json read.0 read.1 in
    record {
      document = read.0;
      utf8 = json.0;
      json = some_is (read_json bytes) no_json read.0 json.1;
      line = line_is read.0 groups ms read.2;
    }

pub line_is_text : (bytes : List ℕ) (groups : List Aspects) (ms : List Message) → IsLineText bytes groups ms → line_of_text bytes ≡ Ok (groups, ms)
unfolding line_of_text json_value
line_is_text bytes groups ms x = rw (x.utf8, x.json) (is_line x.document groups ms x.line)
