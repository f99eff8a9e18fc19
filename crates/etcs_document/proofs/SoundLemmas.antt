-- A document that was read has controlled groups. So it has no finding if and only if its line is sound.
use Rattle.std.proofs.Common.{◌≡◌, ◌+◌, ◌<◌, ◌≤◌, ◌∙◌, arith, ℕ, zero, suc, List, [], ◌∷◌, length, Option, Some, None, Result, Ok, Err, refl, ap, sym, subst}
use Rattle.std.specs.Option.{is_some}
use Rattle.std.specs.Prelude.{◌↔◌, IsOkAnd, codes, if◌then◌else◌}
use Rattle.std.proofs.lemmas.Bool.{and_parts, eqb-true, leb-true, ltb-true}
use Rattle.std.proofs.lemmas.Option.{none-some, same_Some}
use Rattle.serde_json.specs.Data.{Data}
use Rattle.serde_json.specs.Find.{get}
use Rattle.etcs_check.specs.Laws.{AreControlled, NoFindingMeansSoundLine}
use Rattle.etcs_check.specs.Soundness.{IsSoundLine}
use Rattle.etcs_document.proofs.DocumentLemmas.{read_count}
use Rattle.etcs_document.proofs.ResultLemmas.{counted_read, first_ok, same_ok, then_ok}
use Rattle.etcs_document.proofs.ValueLemmas.{each_at}
use Rattle.etcs_document.proofs.VerdictLemmas.{line_read, parts_read}
use Rattle.etcs_document.specs.Document.{◌then◌, aspect_telegrams, balise_telegram, controlled_group, document_group, document_list, group_aspect, group_path, in_form, line_groups, line_of_text, listed_aspects, only_aspect, only_values, other_aspects, read_indexed, with_first}
use Rattle.etcs_document.specs.DocumentFault.{DocumentFault}
use Rattle.etcs_document.specs.Verdict.{IsSoundText, judged, summary, summary_of_text}
use Rattle.etcs_group.specs.Controlled.{IsControlled}
use Rattle.etcs_group.specs.Places.{At}
use Rattle.etcs_radio.specs.declared.message.Message.{Message}
use Rattle.etcs_telegram.specs.Record.{Telegram}

-- ---- groups

-- an aspect after the first has as many balises as the first
aspect_counted : (g n : ℕ) (a : Option ℕ) (d : Data) (group : List Telegram) → group_aspect g a (Some n) d ≡ Ok group → length group ≡ n
unfolding group_aspect
aspect_counted g n a d group is =
    let form = then_ok (in_form (group_path g a) (only_values (codes "balises") d)) (aspect_telegrams g a (Some n)) group is in
    let read = counted_read g a (Some n) form.0 group form.2 in
    read_count (balise_telegram g a) 0 form.0 group read.2 ∙ eqb-true (length form.0) n read.1

each_counted : (g n i : ℕ) (ds : List Data) (xs : List (List Telegram)) → read_indexed (λ a. group_aspect g (Some a) (Some n)) i ds ≡ Ok xs → (k : ℕ) (x : List Telegram) → At xs k x → length x ≡ n
each_counted g n i ds xs is k x h =
    let one = each_at (λ a. group_aspect g (Some a) (Some n)) i ds xs is k x h in aspect_counted g n (Some (i + k)) one.0 x one.2

pub as_first : (first : List Telegram) (others : List (List Telegram)) → ((k : ℕ) (x : List Telegram) → At others k x → length x ≡ length first)
    → (k : ℕ) (x : List Telegram) → At (first ∷ others) k x → length x ≡ length first
as_first first others counted zero x h = ap length (sym (same_Some first x h))
as_first first others counted (suc k) x h = counted k x h

pub controlled_first : (g : ℕ) (first : List Telegram) (ds : List Data) (aspects : List (List Telegram)) → 0 < length first
    → with_first first (other_aspects g (length first) ds) ≡ Ok aspects → IsControlled aspects
controlled_first g first ds aspects some is =
    let rest = first_ok first (other_aspects g (length first) ds) aspects is in
    let controlled : IsControlled (first ∷ rest.0) = record {
      some = grind arith;
      balises = some;
      counts = as_first first rest.0 (each_counted g (length first) 1 ds rest.0 rest.1);
    } in
    subst IsControlled rest.2 controlled

-- an aspect that was read has one to eight balises
pub few_balises : (g : ℕ) (a first : Option ℕ) (ds : List Data) (group : List Telegram) → aspect_telegrams g a first ds ≡ Ok group → (0 < length group) × (length group ≤ 8)
few_balises g a first ds group is =
    let read = counted_read g a first ds group is in
    let bounds = and_parts _ _ read.0 in
    rw (read_count (balise_telegram g a) 0 ds group read.2) (ltb-true 0 (length ds) bounds.0, leb-true (length ds) 8 bounds.1)

first_balises : (g : ℕ) (a : Option ℕ) (d : Data) (group : List Telegram) → group_aspect g a None d ≡ Ok group → 0 < length group
unfolding group_aspect
first_balises g a d group is =
    let form = then_ok (in_form (group_path g a) (only_values (codes "balises") d)) (aspect_telegrams g a None) group is in
    (few_balises g a None form.0 group form.2).0

only_is_controlled : (only : List Telegram) → 0 < length only → IsControlled (only ∷ [])
only_is_controlled only some = record {
  some = grind arith;
  balises = some;
  counts = as_first only [] (λ k x h. absurd (none-some x h));
}

only_controlled : (g : ℕ) (d : Data) (aspects : List (List Telegram)) → only_aspect g d ≡ Ok aspects → IsControlled aspects
unfolding only_aspect
only_controlled g d aspects is =
    let read = then_ok (group_aspect g None None d) (λ only. Ok (only ∷ [])) aspects is in
    let one : IsControlled (read.0 ∷ []) = only_is_controlled read.0 (first_balises g None d read.0 read.1) in
    subst IsControlled (same_ok (read.0 ∷ []) aspects (Ok (read.0 ∷ [])) refl read.2) one

pub list_controlled : (g : ℕ) (ds : List Data) (aspects : List (List Telegram)) → listed_aspects g ds ≡ Ok aspects → IsControlled aspects
unfolding listed_aspects
list_controlled g [] aspects is = absurd cc
list_controlled g (d ∷ ds) aspects is =
    let first = then_ok (group_aspect g (Some 0) None d) (λ f. with_first f (other_aspects g (length f) ds)) aspects is in
    controlled_first g first.0 ds aspects (first_balises g (Some 0) d first.0 first.1) first.2

or_controlled : (g : ℕ) (d : Data) (o : Option Data) (aspects : List (List Telegram)) → (if is_some o then controlled_group g d else only_aspect g d) ≡ Ok aspects → IsControlled aspects
unfolding controlled_group
or_controlled g d None aspects is = only_controlled g d aspects is
or_controlled g d (Some list) aspects is =
    let form = then_ok (in_form (group_path g None) (only_values (codes "aspects") d)) (listed_aspects g) aspects is in
    list_controlled g form.0 aspects form.2

group_controlled : (g : ℕ) (d : Data) (aspects : List (List Telegram)) → document_group g d ≡ Ok aspects → IsControlled aspects
unfolding document_group
group_controlled g d aspects is = or_controlled g d (get (codes "aspects") d) aspects is

-- ---- the line

groups_controlled : (d : Data) (groups : List (List (List Telegram))) → line_groups d ≡ Ok groups → AreControlled groups
unfolding line_groups
groups_controlled d groups is i aspects here =
    let list = then_ok (document_list (codes "groups") d) (read_indexed document_group 0) groups is in
    let one = each_at document_group 0 list.0 groups list.2 i aspects here in
    group_controlled (0 + i) one.0 aspects one.2

pub line_controlled : (bytes : List ℕ) (groups : List (List (List Telegram))) (ms : List Message) → line_of_text bytes ≡ Ok (groups, ms) → AreControlled groups
line_controlled bytes groups ms is =
    let whole = line_read bytes (groups, ms) is in
    groups_controlled whole.0 groups (parts_read whole.0 groups ms whole.2).0

sound_or : NoFindingMeansSoundLine → (r : Result (List (List (List Telegram)) × List Message) DocumentFault)
    → ((groups : List (List (List Telegram))) (ms : List Message) → r ≡ Ok (groups, ms) → AreControlled groups)
    → IsOkAnd ((r then λ line. Ok (judged line)) then λ v. Ok (summary v)) (λ c. c.1 ≡ []) ↔ IsOkAnd r (λ line. IsSoundLine line.0 line.1)
sound_or law (Ok line) controlled = law line.0 line.1 (controlled line.0 line.1 refl)
sound_or law (Err f) controlled = (λ no. no, λ no. no)

-- bytes have no finding if and only if they are the document of a sound line
pub no_finding_sound : NoFindingMeansSoundLine → (bytes : List ℕ) → IsOkAnd (summary_of_text bytes) (λ c. c.1 ≡ []) ↔ IsSoundText bytes
no_finding_sound law bytes = sound_or law (line_of_text bytes) (line_controlled bytes)
