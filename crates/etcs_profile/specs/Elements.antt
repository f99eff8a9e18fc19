-- The body of the packets of profiles and of linking: a scale, a first element and further elements. In a
-- profile an element holds from its place onwards (SUBSET-026, 7.4.2).
use Rattle.std.specs.Prelude.{ℕ, Bool, List, ◌∷◌, refl}
use Rattle.etcs_bits.specs.declared.variables.scale.Scale.{Scale}
use Rattle.etcs_bits.specs.layout.Format.{Format, ◌then◌, several, struct}
use Rattle.etcs_bits.specs.layout.Struct.{Struct, two_ways}
use Rattle.etcs_bits.specs.variables.VariableFormats.{q_scale}
use Rattle.etcs_profile.specs.Profile.{Profile}
use Rattle.etcs_profile.specs.declared.reach.Reach.{Reach}
use Rattle.etcs_profile.specs.Reach.{way_to_mark, scaled_reach}

-- a profile made of these parts
abbrev pub profile : {X : Type 0} → Scale → X → List X → Profile X
profile scale first further = record { scale = scale; first = first; further = further }

-- a profile, and its fields in order
abbrev pub profile_struct : {X : Type 0} → Struct (Scale × (X × List X)) (Profile X)
profile_struct =
    two_ways
    (λ p. profile p.0 p.1.0 p.1.1) (λ e. (e.scale, (e.first, e.further))) (λ _. refl) (λ _. refl)

-- Q_SCALE, an element, N_ITER and that many further elements
abbrev pub elements : {X : Type 0} → Format X → Format (Profile X)
elements element = struct profile_struct (q_scale then element then several element)

-- ---- how far it reaches
-- Pinned by the law a_profile_reaches_its_first_mark.

-- how far the profile reaches
abbrev pub elements_reach : {X : Type 0} → (X → ℕ) → (X → Bool) → Profile X → Reach
elements_reach distance marked e =
    scaled_reach e.scale (way_to_mark distance marked (e.first ∷ e.further))
