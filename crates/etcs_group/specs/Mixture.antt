-- Mixtures of aspects. If a controlled group is switched while a train passes, the train reads some
-- balises with one aspect and others with another, and may miss some. What each place shows is a
-- function of places: an aspect, or none if the balise is missed.
use Rattle.std.specs.Prelude.{◌≡◌, ℕ, ◌<◌, nat_lt, Bool, ◌&&◌, List, length, slice_get, Option, Some, is_none, option_and_then, filter_map}
use Rattle.std.specs.List.{range_with_len}
use Rattle.etcs_profile.specs.declared.run.Run.{Run}
use Rattle.etcs_telegram.specs.Record.{Telegram}
use Rattle.etcs_group.specs.Places.{At}
use Rattle.etcs_group.specs.Missed.{IsCovered}
use Rattle.etcs_group.specs.Reading.{in_passing_order}
use Rattle.etcs_group.specs.Controlled.{balise_count}
use Rattle.etcs_group.specs.Group.{Telegrams, Aspects}

-- the function that a list of aspects by place represents; a place past its end shows nothing
abbrev pub shown_aspect : List (Option ℕ) → ℕ → Option ℕ
shown_aspect shown p = option_and_then (λ aspect. aspect) (slice_get shown p)

-- each place that shows an aspect is a place of the group, and the aspect exists
abbrev pub Fits : Aspects → (ℕ → Option ℕ) → Type 0
Fits aspects shown = (p a : ℕ) → shown p ≡ Some a → (p < balise_count aspects) × (a < length aspects)

-- the places of the group that show nothing are missed
abbrev pub shows_nothing : Aspects → (ℕ → Option ℕ) → ℕ → Bool
shows_nothing aspects shown p = nat_lt p (balise_count aspects) && is_none (shown p)

-- the missed places are covered in aspect 0
abbrev pub Covers : Aspects → (ℕ → Option ℕ) → Type 0
Covers aspects shown = (first : Telegrams) → At aspects 0 first
    → IsCovered first (shows_nothing aspects shown)

-- the telegram that a place shows
abbrev pub shown_telegram : Aspects → (ℕ → Option ℕ) → ℕ → Option Telegram
shown_telegram aspects shown p =
    option_and_then (λ a. option_and_then (λ group. slice_get group p) (slice_get aspects a)) (shown p)

-- what is read of a mixture: the telegrams that are shown, in passing order
abbrev pub mixture_reading : Run → Aspects → (ℕ → Option ℕ) → Telegrams
mixture_reading run aspects shown =
    in_passing_order run (filter_map (shown_telegram aspects shown) (range_with_len 0 (balise_count aspects)))

-- an aspect has, at their places, all the telegrams that are shown
abbrev pub HasAllShown : Aspects → (ℕ → Option ℕ) → Telegrams → Type 0
HasAllShown aspects shown group =
    (p : ℕ) (t : Telegram) → shown_telegram aspects shown p ≡ Some t → At group p t
