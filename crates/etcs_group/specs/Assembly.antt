-- Which lists of telegrams make one message (this project's rule, after SUBSET-026, 3.16.2), and why
-- others are refused. The telegrams are in passing order. A position is an N_PIG. A place is an index in the
-- list of what was read, not in the group.
use Rattle.std.specs.Prelude.{◌≡◌, ℕ, ◌+◌, ◌-◌, ◌<◌, ◌≤◌, ◌==◌, nat_lt, Bool, false, not, ◌&&◌, ◌||◌, if◌then◌else◌, length, take, slice_get, Option, Some, IsTrue, IsFalse, option_map}
use Rattle.std.specs.Bool.{beq}
use Rattle.std.specs.List.{list_any}
use Rattle.std.specs.Option.{option_map_or, option_or}
use Rattle.etcs_bits.specs.variables.Variables.{version_number}
use Rattle.etcs_profile.specs.declared.run.Run.{Run}
use Rattle.etcs_profile.specs.declared.run.Run.TheVariants as runs
use Rattle.etcs_telegram.specs.declared.header.Header.{Header}
use Rattle.etcs_telegram.specs.Record.{Telegram}
use Rattle.etcs_group.specs.declared.refused.Refused.{Refused}
use Rattle.etcs_group.specs.declared.refused.Refused.TheVariants as reasons
use Rattle.etcs_group.specs.Places.{At, element_passes, least}
use Rattle.etcs_group.specs.Group.{AreAlike, HasOneCounter, named_neighbour, Telegrams}

-- ---- accepted

-- the second telegram has the greater position in nominal running, the smaller one in reverse
abbrev pub are_in_order : Run → Telegram → Telegram → Bool
are_in_order runs.Nominal t u = nat_lt t.header.position u.header.position
are_in_order runs.Reverse t u = nat_lt u.header.position t.header.position

-- the duplicate flag of the telegram names this position
abbrev pub names : Telegram → ℕ → Bool
names t p = option_map_or (λ q. q == p) (named_neighbour t.header.dup t.header.position) false

-- no telegram has this position, and no duplicate flag names it
abbrev pub is_absent : Telegrams → ℕ → Bool
is_absent s p = not (list_any (λ t. (t.header.position == p) || names t p) s)

-- An accepted list is not empty. Any two telegrams are alike and have equal totals. No position is above
-- the total. Each telegram comes after all before it. No position up to the total is absent. The
-- counters agree.
pub record IsAccepted (run : Run) (s : Telegrams) : Type 0 where
  pub some : 0 < length s
  pub alike : (i j : ℕ) (t u : Telegram) → At s i t → At s j u → AreAlike t u
  pub one_total : (i j : ℕ) (t u : Telegram) → At s i t → At s j u → t.header.total ≡ u.header.total
  pub in_total : (i : ℕ) (t : Telegram) → At s i t → t.header.position ≤ t.header.total
  pub in_order : (i j : ℕ) (t u : Telegram) → i < j → At s i t → At s j u → IsTrue (are_in_order run t u)
  pub whole : (i p : ℕ) (t : Telegram) → At s i t → p ≤ t.header.total → IsFalse (is_absent s p)
  pub one_counter : HasOneCounter s

-- ---- refused

-- two headers have the same version, identity, total and link flag
abbrev pub agree : Header → Header → Bool
agree g h =
    (version_number g.version == version_number h.version)
    && ((g.identity.country == h.identity.country) && ((g.identity.group == h.identity.group)
    && ((g.total == h.total) && beq g.linked h.linked)))

-- the telegram at the place differs from the one at place 0 in one of these
abbrev pub header_disagrees : Telegrams → ℕ → Bool
header_disagrees s i =
    element_passes s 0 (λ first. element_passes s i (λ t. not (agree first.header t.header)))

-- its position is above its total, or it does not come after the telegram at the place before it
abbrev pub is_misplaced : Run → Telegrams → ℕ → Bool
is_misplaced run s i =
    element_passes s i (λ u. nat_lt u.header.total u.header.position
    || (nat_lt 0 i && element_passes s (i - 1) (λ t. not (are_in_order run t u))))

-- the number of positions, by the total of place 0
abbrev pub position_count : Telegrams → ℕ
position_count s = option_map_or (λ t. t.header.total + 1) (slice_get s 0) 0

-- its counter is 254, or it is below 254 and differs from one below 254 at an earlier place
abbrev pub is_miscounted : Telegrams → ℕ → Bool
is_miscounted s i =
    element_passes s i (λ t. (t.header.counter == 254) || (nat_lt t.header.counter 254
    && list_any (λ u. nat_lt u.header.counter 254 && not (u.header.counter == t.header.counter)) (take i s)))

-- Why a list is refused, if it is: the first of these reasons, at its least place or position.
abbrev pub first_refusal : Run → Telegrams → Option Refused
first_refusal run s =
    if length s == 0 then Some reasons.Nothing
    else option_or (option_map reasons.Disagree (least (length s) (header_disagrees s)))
    (option_or (option_map reasons.Order (least (length s) (is_misplaced run s)))
    (option_or (option_map reasons.Absent (least (position_count s) (is_absent s)))
    (option_map reasons.Counter (least (length s) (is_miscounted s)))))
