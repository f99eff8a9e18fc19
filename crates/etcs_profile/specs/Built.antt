-- What a constructor returns.
use Rattle.std.specs.Prelude.{◌≡◌, ℕ, ◌<◌, ◌⊎◌, List, ◌∷◌, length, Result, Ok, Err}
use Rattle.std.specs.List.{AllByRecursion}
use Rattle.etcs_bits.specs.declared.variables.direction.Dir.{Dir}
use Rattle.etcs_bits.specs.layout.Rows.{width}
use Rattle.etcs_bits.specs.layout.Format.{Format}
use Rattle.etcs_profile.specs.declared.error.BuildError.{BuildError}
use Rattle.etcs_profile.specs.declared.error.BuildError.TheVariants as errors
use Rattle.etcs_profile.specs.Packet.{packet}
use Rattle.etcs_profile.specs.Profile.{Profile}
use Rattle.etcs_profile.specs.Elements.{elements}

-- the stated reason holds, and no reason checked earlier does
abbrev pub IsReason : BuildError → Type 0 → Type 0 → Type 0
IsReason errors.TooMany many long = many
IsReason errors.TooLong many long = (many → ⊥) × long

-- A packet that is built is the given one, and has neither too many items nor too many bits. For a
-- packet that is refused, the reason holds.
abbrev pub IsBuilt : {X : Type 0} → Result X BuildError → X → Type 0 → Type 0 → Type 0
IsBuilt (Ok x) given many long = (x ≡ given) × (many → ⊥) × (long → ⊥)
IsBuilt (Err e) given many long = IsReason e many long

-- the packet has more bits than L_PACKET, 13 bits, can count
abbrev pub IsTooLong : {X : Type 0} → ℕ → Format X → Dir × Profile X → Type 0
IsTooLong k element p = 8191 < width ((packet k (elements element)).rows p)

-- There are more than 31 elements after the first, or an element has a list of more than 31.
abbrev pub HasMany : {X : Type 0} → (X → Type 0) → X → List X → Type 0
HasMany few first further = (31 < length further) ⊎ (AllByRecursion few (first ∷ further) → ⊥)
