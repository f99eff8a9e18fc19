-- How far along the track a profile reaches.
use Rattle.std.specs.Prelude.{ℕ, ◌+◌, ◌*◌, Bool, if◌then◌else◌, List, [], ◌∷◌, Option, Some, None}
use Rattle.etcs_bits.specs.declared.variables.scale.Scale.{Scale}
use Rattle.etcs_bits.specs.declared.variables.scale.Scale.TheVariants as scales
use Rattle.etcs_profile.specs.declared.reach.Reach.{Reach}
use Rattle.etcs_profile.specs.declared.reach.Reach.TheVariants.{Ends, Open}

-- how many decimetres one step of a scale is
abbrev pub scale_factor : Scale → ℕ
scale_factor scales.TenCentimetres = 1
scale_factor scales.Metre = 10
scale_factor scales.TenMetres = 100

-- ---- the reach of a profile
-- Pinned by the law a_profile_reaches_its_first_mark.

-- a distance, and the way after it
abbrev pub add_distance : ℕ → Option ℕ → Option ℕ
add_distance n (Some m) = Some (n + m)
add_distance n None = None

-- the sum of the distances up to and including the first element that is marked; None if none is
unfoldable pub way_to_mark : {X : Type 0} → (X → ℕ) → (X → Bool) → List X → Option ℕ
way_to_mark distance marked [] = None
way_to_mark distance marked (x ∷ xs) =
    if marked x then Some (distance x) else add_distance (distance x) (way_to_mark distance marked xs)

-- the reach of a way that is given in steps of a scale
abbrev pub scaled_reach : Scale → Option ℕ → Reach
scaled_reach scale (Some n) = Ends (scale_factor scale * n)
scaled_reach scale None = Open
