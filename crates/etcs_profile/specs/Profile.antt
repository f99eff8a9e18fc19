-- A profile of the track.
use Rattle.std.specs.Prelude.{List}
use Rattle.etcs_bits.specs.declared.variables.scale.Scale.{Scale}

-- a scale, a first element and further elements
pub record Profile (X : Type 0) : Type 0 where
  pub scale : Scale
  pub first : X
  pub further : List X
