use Rattle.std.proofs.Common.{◌≡◌, ◌-◌, ◌≤◌, take, vec_capacity, vec_len}
use Rattle.etcs_digits.proofs.text_room.fill.Given as goal

-- the first bytes are unchanged, and the capacity suffices
abbrev pub invariant-filling : goal.invariant-filling
invariant-filling l =
    (take (vec_len l.fn.bytes) l.bytes.items ≡ l.fn.bytes.items) × (vec_len l.fn.bytes ≤ vec_len l.bytes)
    × (l.end ≤ vec_capacity l.bytes) × (vec_capacity l.fn.bytes ≤ vec_capacity l.bytes)

abbrev pub decreases-filling : goal.decreases-filling
decreases-filling l = l.end - vec_len l.bytes
