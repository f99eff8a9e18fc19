-- One more group or message that a checker takes.
use Rattle.std.proofs.Common.{◌≡◌, ℕ, ◌+◌, false, ◌||◌, eqb, List, [], ◌∷◌, ◌++◌, Result, Ok, Err, refl, ap, ap₂, sym, subst, ◌∙◌}
use Rattle.std.specs.Result.{OnOk, is_err}
use Rattle.std.proofs.lemmas.Bool.{both_ways}
use Rattle.std.proofs.lemmas.List.{append-nil, append_assoc, length-append}
use Rattle.etcs_radio.specs.declared.message.Message.{Message}
use Rattle.etcs_telegram.specs.Record.{Telegram}
use Rattle.etcs_group.specs.Controlled.{IsControlled}
use Rattle.etcs_check.specs.Aspects.{is_used}
use Rattle.etcs_check.specs.Identities.{HasIdentity, identity_number, is_kept}
use Rattle.etcs_check.specs.Line.{findings, group_findings, group_list, line_message_findings}
use Rattle.etcs_check.specs.LineChecker.{CheckerState, HasChecked, TakesGroups, TakesMessages}
use Rattle.etcs_check.specs.declared.finding.Finding.{Finding}
use Rattle.etcs_check.specs.declared.finding.Site.TheVariants as sites
use Rattle.etcs_check.proofs.IdentityLemmas.{kept_and, used-among}
use Rattle.etcs_check.proofs.LineLemmas.{each_and, groups_found, messages_found}

-- findings that were collected separately, and then appended
pub noted : (old none found new facts : List Finding) → none ≡ [] → found ≡ none ++ facts → new ≡ old ++ found → new ≡ old ++ facts
noted old none found new facts empty some all = all ∙ ap (λ l. old ++ l) (some ∙ ap (λ l. l ++ facts) empty)

pub unless_refused : {A E : Type 0} (r : Result A E) (P : Type 0) → is_err r ≡ false → OnOk r P → P
unless_refused (Ok x) P fine p = p
unless_refused (Err e) P fine p = absurd (both_ways _ fine refl)

-- a checker takes a group, if the identity and findings of an equal group are known
pub group_taken : (old new : CheckerState) (h g : List (List Telegram)) → h ≡ g → IsControlled h → HasIdentity h
    → new.about_groups ≡ old.about_groups ++ group_findings (sites.Group old.groups) (is_kept old.identities (identity_number h)) h → new.about_messages ≡ old.about_messages
    → new.groups ≡ old.groups + 1 → new.messages ≡ old.messages → ((n : ℕ) → is_kept new.identities n ≡ (eqb (identity_number h) n || is_kept old.identities n))
    → TakesGroups old (g ∷ []) new
group_taken old new h g is controlled numbered found others count counted kept = subst (λ x. TakesGroups old (x ∷ []) new) is (λ gs ms was.
    let used : is_kept old.identities (identity_number h) ≡ is_used gs h = was.seen (identity_number h) ∙ sym (used-among gs h was.numbered numbered) in
    record {
      about_groups =
          found ∙ ap₂ ◌++◌ (was.about_groups ∙ append-nil (group_list gs)) (ap₂ (λ n u. group_findings (sites.Group n) u h) was.groups_counted used)
          ∙ sym (groups_found gs h) ∙ sym (append-nil (group_list (gs ++ h ∷ [])));
      about_messages = others ∙ was.about_messages;
      groups_counted = count ∙ ap (λ n. n + 1) was.groups_counted ∙ sym (length-append gs (h ∷ []));
      messages_counted = counted ∙ was.messages_counted;
      seen = kept_and gs h (is_kept old.identities) (is_kept new.identities) kept was.seen;
      numbered = each_and HasIdentity gs h was.numbered numbered;
      controlled = each_and IsControlled gs h was.controlled controlled;
    })

pub message_taken : (old new : CheckerState) (m : Message) → new.about_messages ≡ old.about_messages ++ line_message_findings old.messages m → new.about_groups ≡ old.about_groups
    → new.messages ≡ old.messages + 1 → new.groups ≡ old.groups → ((n : ℕ) → is_kept new.identities n ≡ is_kept old.identities n) → TakesMessages old (m ∷ []) new
message_taken old new m found others count counted kept gs ms was = record {
  about_groups = others ∙ was.about_groups;
  about_messages =
      found ∙ ap₂ ◌++◌ was.about_messages (ap (λ n. line_message_findings n m) was.messages_counted) ∙ sym (messages_found ms m);
  groups_counted = counted ∙ was.groups_counted;
  messages_counted = count ∙ ap (λ n. n + 1) was.messages_counted ∙ sym (length-append ms (m ∷ []));
  seen = λ n. kept n ∙ was.seen n;
  numbered = was.numbered;
  controlled = was.controlled;
}

-- ---- the findings

pub held_findings : (held kept : CheckerState) (found : List Finding) (gs : List (List (List Telegram))) (ms : List Message) → held ≡ kept → found ≡ held.about_groups ++ held.about_messages → HasChecked kept gs ms → found ≡ findings gs ms
held_findings held kept found gs ms same all was =
    all ∙ ap₂ ◌++◌ (ap (λ k. k.about_groups) same ∙ was.about_groups ∙ append-nil (group_list gs)) (ap (λ k. k.about_messages) same ∙ was.about_messages)

-- ---- none, and more after some

pub no_groups : (kept : CheckerState) → TakesGroups kept [] kept
no_groups kept gs ms was = subst (λ l. HasChecked kept l ms) (sym (append-nil gs)) was

pub no_messages : (kept : CheckerState) → TakesMessages kept [] kept
no_messages kept gs ms was = subst (λ l. HasChecked kept gs l) (sym (append-nil ms)) was

pub more_groups : (was kept is : CheckerState) (xs ys : List (List (List Telegram))) → TakesGroups was xs kept → TakesGroups kept ys is → TakesGroups was (xs ++ ys) is
more_groups was kept is xs ys first then gs ms so =
    subst (λ l. HasChecked is l ms) (append_assoc gs xs ys) (then (gs ++ xs) ms (first gs ms so))

pub more_messages : (was kept is : CheckerState) (xs ys : List Message) → TakesMessages was xs kept → TakesMessages kept ys is → TakesMessages was (xs ++ ys) is
more_messages was kept is xs ys first then gs ms so =
    subst (λ l. HasChecked is gs l) (append_assoc ms xs ys) (then gs (ms ++ xs) (first gs ms so))
