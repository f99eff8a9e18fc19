-- The counters of earlier aspects, and the table in which they are marked.
use Rattle.std.proofs.Common.{◌≡◌, ℕ, ◌+◌, ◌<◌, ◌&&◌, ◌||◌, ltb, List, take, sym, ap, ◌∙◌, arith}
use Rattle.std.specs.List.{list_any}
use Rattle.std.proofs.Math.Bool.{or_comm}
use Rattle.std.proofs.lemmas.Bool.{cases_Bool, ltb-true, and_left}
use Rattle.std.proofs.lemmas.List.Folds.{list_any_more}
use Rattle.std.proofs.lemmas.Option.{slice_get_within, get_or_from_slice_get}
use mathlib.Core.Logic.{inl, inr}
use Rattle.etcs_telegram.specs.Record.{Telegram}
use Rattle.etcs_group.specs.Group.{Aspects}
use Rattle.etcs_group.specs.Places.{At}
use Rattle.etcs_check.specs.Walk.{is_taken}
use Rattle.etcs_check.specs.Findings.{has_counter, is_counter_taken}
use Rattle.etcs_check.specs.Identities.{is_marked}

-- ---- the table

-- Only the counters of these aspects are marked.
abbrev pub HasCounters : List ℕ → Aspects → Type 0
HasCounters table aspects = (n : ℕ) → n < 256 → is_marked table n ≡ list_any (has_counter n) aspects

pub taken_as : (table : List ℕ) (before : List (List Telegram)) (t : Telegram) → HasCounters table before → is_taken table t ≡ is_counter_taken before t
taken_as table before t has = elim (cases_Bool (ltb t.header.counter 254)) [
  | inl low ↦
      let lt = ltb-true _ _ low in
      ap (λ q. ltb t.header.counter 254 && q) (has t.header.counter (omega arith))
  | inr high ↦ and_left _ _ high ∙ sym (and_left _ _ high)
]

pub counters_more : (aspects : List (List Telegram)) (a : ℕ) (group : List Telegram) (table new : List ℕ) → At aspects a group → ((n : ℕ) → is_marked new n ≡ (has_counter n group || is_marked table n)) → HasCounters table (take a aspects) → HasCounters new (take (a + 1) aspects)
counters_more aspects a group table new at marked has n lt =
    marked n ∙ ap (λ q. has_counter n group || q) (has n lt) ∙ or_comm (has_counter n group) (list_any (has_counter n) (take a aspects))
    ∙ ap (λ g. list_any (has_counter n) (take a aspects) || has_counter n g) (sym (get_or_from_slice_get aspects a group group at))
    ∙ sym (list_any_more (has_counter n) aspects a group (slice_get_within aspects a group at))
