-- Which identities were seen, as the bits of a table: an identity is a number of 24 bits, NID_C and
-- then NID_BG (SUBSET-026, 7.5.1).
use Rattle.std.specs.Prelude.{◌≡◌, ℕ, ◌+◌, ◌*◌, ◌/◌, ◌%◌, ◌<◌, ◌≤◌, ◌==◌, Bool, true, false, List, [], Some, map, slice_index, slice_index_or, take}
use Rattle.std.specs.Global.{Vec}
use Rattle.std.specs.Int.{bit_at}
use Rattle.std.specs.List.{list_any}
use Rattle.std.specs.Option.{option_map_or}
use Rattle.std.specs.Vec.{vec_items}
use Rattle.etcs_bits.specs.declared.variables.identity.Identity.{Identity}
use Rattle.etcs_group.specs.Places.{At}
use Rattle.etcs_group.specs.Group.{Aspects}
use Rattle.etcs_check.specs.Aspects.{is_used}
use Rattle.etcs_check.specs.Soundness.{group_identity}

-- the number of an identity
abbrev pub number_of_identity : Identity → ℕ
number_of_identity i = i.country * 16384 + i.group

-- the number of a group's identity
abbrev pub identity_number : Aspects → ℕ
identity_number g = option_map_or number_of_identity (group_identity g) 0

-- the group has an identity, and its numbers are in range
abbrev pub HasIdentity : Aspects → Type 0
HasIdentity g = (i : Identity) × (group_identity g ≡ Some i) × (i.country < 1024) × (i.group < 16384)

-- every group has an identity, and its numbers are in range
abbrev pub HaveIdentities : List Aspects → Type 0
HaveIdentities groups = (i : ℕ) (g : Aspects) → At groups i g → HasIdentity g

-- whether a bit of a number is set, and whether the bit at this place of a table is set
abbrev pub has_bit : ℕ → ℕ → Bool
has_bit n b = bit_at n b == 1

abbrev pub is_marked : List ℕ → ℕ → Bool
is_marked table p = has_bit (slice_index table (p / 64)) (p % 64)

-- whether a number is kept in pages of 16,384 bits
abbrev pub is_kept : List (Vec ℕ) → ℕ → Bool
is_kept pages n = is_marked (slice_index_or (map vec_items pages) (n / 16384) []) (n % 16384)

-- whether some group has the identity of this number
abbrev pub has_identity_number : List Aspects → ℕ → Bool
has_identity_number groups n = list_any (λ h. identity_number h == n) groups

-- No group whose identity is one of the n from base on has the identity of an earlier group.
abbrev pub HasNoRepeat : ℕ → ℕ → List Aspects → Type 0
HasNoRepeat base n groups = (i : ℕ) (g : Aspects) → At groups i g
    → base ≤ identity_number g → identity_number g < base + n → is_used (take i groups) g ≡ false

-- Some group has the identity of an earlier group.
abbrev pub HasRepeat : List Aspects → Type 0
HasRepeat groups = (i : ℕ) × (g : Aspects) × At groups i g × (is_used (take i groups) g ≡ true)
